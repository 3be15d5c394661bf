-- A full buffer takes no byte more.
use Rattle.std.proofs.Common.{[], ◌∷◌, Err, vec_items, sym, refl, subst, arith, length-append}
use Rattle.macros.specs.Growing.{Grew}
use Rattle.macros.proofs.Writing.{full_buffer}
use Rattle.macros.proofs.expand.Field.put.Goals as goal

pub returns-then-len-ge-LONGEST : goal.returns-then-len-ge-LONGEST
returns-then-len-ge-LONGEST c =
    let field = c.args.self.now in
    let held = vec_items field.out.now in
    let v = field.out.now.ok.0 in
    let n = c.len.ensures in
    subst (λ f. Grew field field (c.args.byte ∷ []) (Err f)) (sym c.into.ensures)
    (refl, refl, (c.at.ensures, omega (arith, length-append held (c.args.byte ∷ [])), full_buffer held c.args.byte (omega (arith, field.short))))
