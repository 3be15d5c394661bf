-- The or of the moved bits and the item is their sum, of which the low 31 bits are kept.
use Rattle.word.proofs.Joining.{joined, fits}
use Rattle.word.proofs.widths.place.Goals as goal

pub returns : goal.returns
returns c =
    let there = c.args.joined.value in
    let width = c.args.width.bits in
    let item = c.args.item.value in
    let sum = joined there width item in
    record { low = cc; whole = λ narrow small. let all = fits there width item narrow small in cc }
