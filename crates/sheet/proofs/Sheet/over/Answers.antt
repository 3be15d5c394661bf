-- Each of the sixteen ports is fresh.
use Rattle.std.proofs.Common.{◌≡◌, ap, ap₂, ◌∙◌, refl, rules, arith}
use Rattle.scan.specs.Words.{words_after}
use Rattle.device.specs.Rows.{row}
use Rattle.device.proofs.Places.{row_each}
use Rattle.sheet.specs.Slots.{slot_meaning, fresh}
use Rattle.sheet.proofs.Made.{made_from}
use Rattle.sheet.proofs.Sheet.over.Goals as goal

pub returns : goal.returns
returns c =
    let t = c.args.text.bytes.now in
    let from = c.args.from in
    let made = c.from_fn.ensures.items in
    ap (row slot_meaning) c.from.ensures.0
    ∙ row_each slot_meaning (fresh (words_after t from)) 16 c.from_fn.result made.long (λ k d l.
    made_from _ (λ p. (p.0.now.bytes.now ≡ t) × (p.1.now ≡ from)) (λ i y. slot_meaning y ≡ fresh (words_after t from) i)
    (λ p i y q h m.
    let here : slot_meaning y ≡ fresh (words_after p.0.now.bytes.now p.1.now) i = search rules in
    (search rules, here ∙ ap₂ (λ u v. fresh (words_after u v) i) h.0 h.1))
    _ c.from_fn.result 0 16 k d (refl, refl) made.each (omega arith) (omega arith))
