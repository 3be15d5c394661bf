-- A good item adds its width and one to the count, and a refused one can only make the least fault less.
use Rattle.std.proofs.Common.{◌≡◌, ◌+◌, ◌∙◌, arith}
use Rattle.numbers.specs.Splits.{remaining}
use Rattle.verdict.specs.Items.{width}
use Rattle.items.specs.Meaning.{item_of}
use Rattle.scan.specs.Names.{Bytes}
use Rattle.scan.specs.NameBytes.{name_bytes}
use Rattle.scan.specs.declared.names.Name.{Name}
use Rattle.circuit.proofs.Widths.{same_width}
use Rattle.items.specs.Least.{least_met}
use Rattle.items.proofs.Tallies.{tally_right, tally_wrong, least_placed}
use Rattle.items.proofs.expression.judge.Goals as goal

pub loop-piece-preserved-in-Ok : goal.loop-piece-preserved-in-Ok
loop-piece-preserved-in-Ok c =
    let inv = c.loop-piece.invariant in
    let wide : c.width.result.bits ≡ width (item_of c.in-Ok.one) = c.width.ensures ∙ same_width {R = Name} {S = Bytes} name_bytes c.in-Ok.one in
    let some = c.width.result.some in (
      inv.0 + 1,
      inv.1 + width (item_of c.in-Ok.one),
      omega (arith, wide, some),
      omega arith,
      omega (arith, wide),
      inv.5,
      tally_right (least_met c.loop-piece.wrong) (item_of c.in-Ok.one) inv.0 inv.1 c.in-Some.piece.now (remaining c.next.new.self) (remaining c.loop-piece.piece-iterator)
          c.in-Ok.ensures.judged
          c.in-Some.ensures.steps
          inv.6,
    )

pub loop-piece-preserved : goal.loop-piece-preserved
loop-piece-preserved c =
    let inv = c.loop-piece.invariant in
    let told = c.in-Err.ensures in (
      inv.0,
      inv.1,
      inv.2,
      inv.3,
      inv.4,
      least_placed (least_met c.loop-piece.wrong) (least_met c.meet.new.self) c.in-Err.fault c.args.place c.meet.ensures inv.5 told.placed,
      tally_wrong (least_met c.loop-piece.wrong) (least_met c.meet.new.self) c.in-Err.fault inv.0 inv.1 c.in-Some.piece.now (remaining c.next.new.self) (remaining c.loop-piece.piece-iterator)
          c.meet.ensures
          told.judged
          c.in-Some.ensures.steps
          inv.6,
    )
