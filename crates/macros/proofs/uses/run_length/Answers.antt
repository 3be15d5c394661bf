-- The first byte that is no letter or digit ends the run.
use Rattle.std.proofs.Common.{◌≡◌, not, length, unwrap_or, ap, ◌∙◌, rules, tests}
use Rattle.std.specs.List.{position}
use Rattle.std.proofs.lemmas.Iterator.{YieldsList-from_slice}
use Rattle.std.proofs.lemmas.Iterator.Search.{position_from_yields_List}
use Rattle.scan.specs.Names.{is_letter_or_digit}
use Rattle.macros.proofs.Runs.{run_measured}
use Rattle.macros.proofs.uses.run_length.Goals as goal

pub returns : goal.returns
returns c =
    let text = c.args.text.now in
    let end : c.position-end.result ≡ position (λ b. not (is_letter_or_digit b)) text =
    position_from_yields_List (λ b. not (is_letter_or_digit b)) _ _ c.position-end.result c.position-end.ensures.ran (YieldsList-from_slice text (cc)) (λ x b q k. search (rules, tests)) in
    c.unwrap_or.ensures ∙ (ap (λ o. unwrap_or o (length text)) end ∙ run_measured text)
