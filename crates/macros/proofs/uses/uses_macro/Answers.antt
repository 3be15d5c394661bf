-- Each piece is tested whether it is a use of the name.
use Rattle.std.proofs.Common.{◌≡◌, ◌∙◌, rules, tests}
use Rattle.std.proofs.lemmas.Iterator.Consumers.{YieldsList-from_first}
use Rattle.std.proofs.lemmas.Iterator.Search.{any_from_yields_List}
use Rattle.std.specs.List.{list_any}
use Rattle.verdict.specs.Macros.{pieces}
use Rattle.macros.specs.Pieces.{remaining, meant, is_use_of}
use Rattle.macros.proofs.Known.{any_use}
use Rattle.macros.proofs.uses.uses_macro.Goals as goal

pub returns : goal.returns
returns c =
    let name = c.args.name.now in
    let ps = pieces c.args.text.now in
    let tested : c.any.result ≡ list_any (is_use_of name) ps =
    any_from_yields_List (is_use_of name) c.any.new.self _ c.any.result c.any.ensures.ran (YieldsList-from_first meant remaining {s = c.new.result} ps c.new.ensures) (λ x b q k. search (rules, tests)) in
    tested ∙ any_use name ps
