-- By whether a pair that is no macro was found.
use Rattle.std.proofs.Common.{◌≡◌, ◌*◌, false, Some, None, sym, refl, ◌∙◌, rules}
use Rattle.sections.specs.TextWords.{words_of}
use Rattle.sections.specs.Walks.{macro_count}
use Rattle.sections.proofs.Steps.{count_some, count_all}
use Rattle.sections.proofs.rows.macro_words.Goals as goal

pub returns-clause-count : goal.returns-clause-count
returns-clause-count c =
    let first = c.first_plain_pair.ensures in
    let told = c.map_or.ensures in
    let ws = c.args.words.now in
    elim c.first_plain_pair.result as (λ o. c.first_plain_pair.result ≡ o → c.map_or.result ≡ macro_count false (words_of ws)) [
      | None ↦ λ is. (rw is at told) ∙ sym (count_all ws (rw is at first.all))
      | Some n ↦ λ is.
          let made = rw is at told in
          let value : c.map_or.result ≡ n * 2 = search rules in
          value ∙ sym (count_some n ws (rw is at first.inside) (rw is at first.here) (rw is at first.before))
    ] refl
