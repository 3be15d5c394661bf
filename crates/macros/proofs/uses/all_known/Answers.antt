-- Each piece is tested as the definition says.
use Rattle.std.proofs.Common.{◌≡◌, ◌∙◌, rules, tests}
use Rattle.std.proofs.lemmas.Iterator.Consumers.{YieldsList-from_first}
use Rattle.std.proofs.lemmas.Iterator.Search.{all_from_yields_List}
use Rattle.std.specs.List.{list_all}
use Rattle.verdict.specs.Macros.{names_of, is_known, pieces}
use Rattle.macros.specs.Pieces.{remaining, meant}
use Rattle.macros.specs.Uses.{entries}
use Rattle.macros.proofs.Known.{all_is}
use Rattle.macros.proofs.uses.all_known.Goals as goal

pub returns : goal.returns
returns c =
    let names = names_of (entries c.args.table.now) in
    let ps = pieces c.args.text.now in
    let tested : c.all.result ≡ list_all (is_known names) ps =
    all_from_yields_List (is_known names) c.all.new.self _ c.all.result c.all.ensures.ran (YieldsList-from_first meant remaining {s = c.new.result} ps c.new.ensures) (λ x b q k. search (rules, tests)) in
    tested ∙ all_is (is_known names) ps
