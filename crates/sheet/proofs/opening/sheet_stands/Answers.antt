-- Word by word, and by whether the text is too long.
use Rattle.std.proofs.Common.{length, arith}
use Rattle.scan.specs.Words.{words_after}
use Rattle.device.proofs.Places.{row_past}
use Rattle.sheet.specs.Slots.{slot_meaning}
use Rattle.sheet.proofs.Ranges.{said, good_pairs, sheet_good, sheet_bad}
use Rattle.sheet.proofs.Verdicts.{judged_reads}
use Rattle.sheet.proofs.Steps.{sent_first, sent_not}
use Rattle.sheet.proofs.opening.sheet_stands.Goals as goal

pub returns : goal.returns
returns c = record {
  unserved_above = λ s p h. row_past slot_meaning s.slots.items p (omega (arith, s.wide));
  here = sent_first;
  elsewhere = sent_not;
  accepted = λ t from n c ws e s h p. rw e (rw (said 100000 n c s h, good_pairs (length t) ws p));
  only = λ t from s e. sheet_good (length t) s (words_after t from) e;
  refused = λ t from f e. sheet_bad (length t) f (words_after t from) e;
  reads = judged_reads;
}
