-- Items joined one behind the other: of what is there already the low 31 bits alone bear on the low 31 bits of all.
use Rattle.std.proofs.Common.{◌≡◌, ℕ, suc, ◌+◌, ◌-◌, ◌*◌, ◌%◌, ◌^◌, ◌<◌, List, [], ◌∷◌, map, length, drop, get_or, sym, ap, ◌∙◌, arith}
use Rattle.std.proofs.Math.Nat.{mod-add-mod, mod-mod}
use Rattle.std.proofs.lemmas.Nat.{mul-mod_first}
use Rattle.std.proofs.lemmas.List.{drop_more}
use Rattle.word.specs.Places.{low_bits, bits_of, behind}
use Rattle.verdict.specs.Items.{Expression, width}
use Rattle.verdict.specs.Values.{item_value, joined_after}
use Rattle.circuit.specs.declared.parts.Item.{Item as StoredItem}
use Rattle.circuit.specs.declared.parts.Item.TheVariants.{Constant, Bits}
use Rattle.circuit.specs.Meaning.{item_by}

behind_low : (there width item : ℕ) → behind (there % 2 ^ 31) width item % 2 ^ 31 ≡ behind there width item % 2 ^ 31
behind_low there width item =
    sym (mod-add-mod (there % 2 ^ 31 * 2 ^ width) (2 ^ 31) item)
    ∙ ap (λ (x : ℕ). (x + item) % 2 ^ 31) (mul-mod_first there (2 ^ width) (2 ^ 31))
    ∙ mod-add-mod (there * 2 ^ width) (2 ^ 31) item

behind_same : (x y width item : ℕ) → x % 2 ^ 31 ≡ y % 2 ^ 31 → behind x width item % 2 ^ 31 ≡ behind y width item % 2 ^ 31
behind_same x y width item h = sym (behind_low x width item) ∙ ap (λ (z : ℕ). behind z width item % 2 ^ 31) h ∙ behind_low y width item

same_low : (shown : ℕ → ℕ) (x y : ℕ) (e : Expression ℕ) → x % 2 ^ 31 ≡ y % 2 ^ 31 → joined_after shown x e % 2 ^ 31 ≡ joined_after shown y e % 2 ^ 31
same_low shown x y [] h = h
same_low shown x y (i ∷ is) h = same_low shown (behind x (width i) (item_value shown i)) (behind y (width i) (item_value shown i)) is (behind_same x y (width i) (item_value shown i) h)

-- an item has no more bits than its width says
narrow : (shown : ℕ → ℕ) (i : StoredItem ℕ) → low_bits (width (item_by (λ r. r) i)) (item_value shown (item_by (λ r. r) i)) ≡ item_value shown (item_by (λ r. r) i)
narrow shown (Constant word w) = mod-mod word.value (2 ^ w.bits)
narrow shown (Bits r range) =
    let all : suc range.last - range.first ≡ range.last + 1 - range.first = omega arith in
    ap (λ (w : ℕ). low_bits w (bits_of range.first range.last (shown r))) all ∙ mod-mod _ _

-- one item more is joined
pub step : (shown : ℕ → ℕ) (there : ℕ) (i : StoredItem ℕ) (is : List (StoredItem ℕ))
    → joined_after shown (behind there (width (item_by (λ r. r) i)) (low_bits (width (item_by (λ r. r) i)) (item_value shown (item_by (λ r. r) i))) % 2 ^ 31) (map (item_by (λ r. r)) is) % 2 ^ 31
    ≡ joined_after shown there (map (item_by (λ r. r)) (i ∷ is)) % 2 ^ 31
step shown there i is =
    same_low shown _ _ (map (item_by (λ r. r)) is) (mod-mod _ _ ∙ ap (λ (v : ℕ). behind there (width (item_by (λ r. r) i)) v % 2 ^ 31) (narrow shown i))

-- the item at a place is joined, and those behind it are left
pub step_at : (shown : ℕ → ℕ) (there index : ℕ) (items : List (StoredItem ℕ)) (d : StoredItem ℕ) → index < length items
    → joined_after shown (behind there (width (item_by (λ r. r) (get_or items index d))) (low_bits (width (item_by (λ r. r) (get_or items index d))) (item_value shown (item_by (λ r. r) (get_or items index d)))) % 2 ^ 31) (map (item_by (λ r. r)) (drop (index + 1) items)) % 2 ^ 31
    ≡ joined_after shown there (map (item_by (λ r. r)) (drop index items)) % 2 ^ 31
step_at shown there index items d h =
    step shown there (get_or items index d) (drop (index + 1) items) ∙ ap (λ is. joined_after shown there (map (item_by (λ r. r)) is) % 2 ^ 31) (sym (drop_more items index d h))
