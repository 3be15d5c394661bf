-- The first byte 10 ends the title.
use Rattle.std.proofs.Common.{◌≡◌, ◌+◌, eqb, length, Some, None, rules, arith, tests}
use Rattle.std.proofs.lemmas.Iterator.{YieldsList-from_slice}
use Rattle.std.proofs.lemmas.Iterator.Search.{position_from_yields_List}
use Rattle.scan.specs.Words.{title_length}
use Rattle.scan.proofs.Titles.{title_found}
use Rattle.scan.proofs.reader.reads.title_end.Goals as goal

pub returns-in-Some-clause-value : goal.returns-in-Some-clause-value
returns-in-Some-clause-value c =
    let found = position_from_yields_List (λ b. eqb b 10) _ _ c.position.result c.position.ensures.ran (YieldsList-from_slice c.args.text.now cc) (λ x b q k. search (rules, tests)) in
    let told : title_length c.args.text.now ≡ c.in-Some.place + 1 = title_found c.args.text.now (Some c.in-Some.place) (cc) in
    omega arith

pub returns-in-None-clause-value : goal.returns-in-None-clause-value
returns-in-None-clause-value c =
    let found = position_from_yields_List (λ b. eqb b 10) _ _ c.position.result c.position.ensures.ran (YieldsList-from_slice c.args.text.now cc) (λ x b q k. search (rules, tests)) in
    let told : title_length c.args.text.now ≡ length c.args.text.now = title_found c.args.text.now None (cc) in
    omega arith
