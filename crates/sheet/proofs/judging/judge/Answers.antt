-- The count is good, so the pairs decide; they begin where the count ends.
use Rattle.std.proofs.Common.{◌≡◌, ◌<◌, length, sym, ap, ◌∙◌, arith}
use Rattle.std.proofs.lemmas.Result.{err_from_is_err_and}
use Rattle.scan.specs.Words.{words_after}
use Rattle.scan.specs.Reading.{left, reader_text, word_of}
use Rattle.sheet.specs.Sheets.{pairs}
use Rattle.sheet.proofs.Resuming.{end, resumes}
use Rattle.sheet.proofs.Verdicts.{passed, failed}
use Rattle.sheet.proofs.judging.judge.Goals as goal

pub returns-in_err-check_pairs : goal.returns-in_err-check_pairs
returns-in_err-check_pairs c =
    let t = c.args.text.now in
    let same : c.in_ok-short.short.bytes.now ≡ t = rw c.in_ok-short.ensures.ok_part at c.new.ensures in
    let short : length t < 4294967296 = omega (arith, c.in_ok-short.short.short, ap length same) in
    let first = c.in_ok-count.ensures in
    let rest = left c.next_word.new.reader in
    let text : reader_text c.next_word.new.reader ≡ t = first.whole ∙ c.new-reader.ensures.whole ∙ same in
    let p = err_from_is_err_and c.from_residual-in_err-check_pairs.result c.from_residual-in_err-check_pairs.ensures.1 in
    rw (p.1, p.2) (failed t c.args.from c.in_ok-cycles.cycles.value _ (word_of c.in_ok-count.count) rest short
    (ap (λ u. words_after u c.args.from) (sym same) ∙ sym c.new-reader.ensures.left ∙ first.word) c.in_ok-cycles.ensures
    (c.in_err-check_pairs.ensures ∙ ap (λ u. pairs (length u) rest) text))

pub returns : goal.returns
returns c =
    let t = c.args.text.now in
    let same : c.in_ok-short.short.bytes.now ≡ t = rw c.in_ok-short.ensures.ok_part at c.new.ensures in
    let short : length t < 4294967296 = omega (arith, c.in_ok-short.short.short, ap length same) in
    let first = c.in_ok-count.ensures in
    let count = word_of c.in_ok-count.count in
    let rest = left c.next_word.new.reader in
    let text : reader_text c.next_word.new.reader ≡ t = first.whole ∙ c.new-reader.ensures.whole ∙ same in
    passed t c.args.from c.in_ok-cycles.cycles.value (end count) c.in_ok-check_pairs.field-0 count rest short
    (ap (λ u. words_after u c.args.from) (sym same) ∙ sym c.new-reader.ensures.left ∙ first.word) c.in_ok-cycles.ensures
    (c.in_ok-check_pairs.ensures ∙ ap (λ u. pairs (length u) rest) text)
    (resumes c.new-reader.result count rest first.word ∙ ap (λ u. words_after u (end count)) (c.new-reader.ensures.whole ∙ same))
