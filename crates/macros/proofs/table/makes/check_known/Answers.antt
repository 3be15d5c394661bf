-- The search finds the first that uses an unknown macro.
use Rattle.std.proofs.Common.{◌≡◌, not, sym, ap, ◌∙◌, rules, tests}
use Rattle.std.specs.Option.{option_map}
use Rattle.std.specs.List.{find}
use Rattle.std.proofs.lemmas.Iterator.{YieldsList-from_slice}
use Rattle.std.proofs.lemmas.Iterator.Search.{find_from_yields_List}
use Rattle.refusal.specs.Numbers.{number}
use Rattle.names.proofs.Checking.{first_refused, none_refused}
use Rattle.scan.specs.Names.{Bytes}
use Rattle.verdict.specs.Macros.{names_of, all_known}
use Rattle.verdict.specs.Verdict.{refuse}
use Rattle.macros.specs.declared.uses.Macro.{Macro}
use Rattle.macros.specs.Uses.{entry, entries}
use Rattle.macros.proofs.table.makes.check_known.Goals as goal

pub returns-in-Some : goal.returns-in-Some
returns-in-Some c =
    let table = c.args.table.now in
    let unknown = λ (e : Bytes × Bytes). not (all_known (names_of (entries table)) e.1) in
    let f : option_map (λ x. x.now) c.find.result ≡ find (λ x. unknown (entry x)) table =
    find_from_yields_List (λ x. unknown (entry x)) _ _ c.find.result c.find.ensures.ran (YieldsList-from_slice table (cc)) (λ x b q k. search (rules, tests)) in
    ap (λ f. refuse (number f.refusal) f.place) c.at.ensures
    ∙ sym (first_refused entry unknown (λ (m : Macro). m.place) 18 table c.in-Some.one.now (sym f ∙ ap (option_map (λ x. x.now)) c.in-Some.is))

pub returns : goal.returns
returns c =
    let table = c.args.table.now in
    let unknown = λ (e : Bytes × Bytes). not (all_known (names_of (entries table)) e.1) in
    let f : option_map (λ x. x.now) c.find.result ≡ find (λ x. unknown (entry x)) table =
    find_from_yields_List (λ x. unknown (entry x)) _ _ c.find.result c.find.ensures.ran (YieldsList-from_slice table (cc)) (λ x b q k. search (rules, tests)) in
    sym (none_refused entry unknown (λ (m : Macro). m.place) 18 table (sym f ∙ ap (option_map (λ x. x.now)) c.in_default.is))
