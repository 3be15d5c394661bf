-- The first separator of a text ends its first piece: by recursion on the bytes before it.
use Rattle.std.proofs.Common.{◌≡◌, ℕ, zero, suc, ◌+◌, ◌-◌, ◌<◌, ◌≤◌, true, false, cond, ltb, [], ◌∷◌, length, get_or, take, drop, Some, None, Option, sym, refl, ap, ◌∙◌, add-one, arith, length-drop, Bor}
use Rattle.std.proofs.lemmas.List.{take_all}
use Rattle.std.proofs.lemmas.List.Quantifiers.{position-Some}
use Rattle.std.proofs.lemmas.List.Sums.{fails_before_first}
use Rattle.std.proofs.lemmas.Bool.{eq-eqb, eqb-true, eqb-false, ne_eqb, ltb-false}
use Rattle.std.specs.Prelude.{◌==◌, position}
use Rattle.std.specs.List.{position_or_len}
use Rattle.numbers.specs.Splits.{Bytes, cut_at, split, split_left}

-- no separator: one piece
pub split_none : (s : ℕ) (t : Bytes) → ((k : ℕ) → k < length t → get_or t k 0 ≡ s → ⊥) → split s t ≡ t ∷ []
split_none s [] none = refl
split_none s (b ∷ t) none =
    ap (λ c. cut_at c b (split s t)) (ne_eqb b s (none 0 (omega arith))) ∙ ap (cut_at false b) (split_none s t (λ k lt. none (suc k) (omega arith)))

-- a separator at i, and none before it
pub split_at : (s : ℕ) (t : Bytes) (i : ℕ) → i < length t → get_or t i 0 ≡ s → ((k : ℕ) → k < i → get_or t k 0 ≡ s → ⊥) → split s t ≡ take i t ∷ split s (drop (suc i) t)
split_at s [] i lt here none = absurd (omega arith)
split_at s (b ∷ t) zero lt here none = ap (λ c. cut_at c b (split s t)) (eq-eqb b s here)
split_at s (b ∷ t) (suc i) lt here none =
    ap (λ c. cut_at c b (split s t)) (ne_eqb b s (none 0 (omega arith)))
    ∙ ap (cut_at false b) (split_at s t i (omega arith) here (λ k l. none (suc k) (omega arith)))

-- no place where a byte stands: all bytes are others
nowhere : (s : ℕ) (t : Bytes) → position (λ b. b == s) t ≡ None → length t ≤ position_or_len (λ b. b == s) t
nowhere s t none =
    let n = position_or_len (λ b. b == s) t in
    elim (ltb n (length t)) as (λ c. ltb n (length t) ≡ c → cond c (Some n) None ≡ None → length t ≤ n) [
      | true ↦ λ lt is. absurd (let z : ◌≡◌ {A = ℕ} 0 1 = cc in omega arith)
      | false ↦ λ lt is. ltb-false _ _ lt
    ] refl none

-- the same of what is left of a text, by where its first separator stands
pub left_none : (s : ℕ) (rest : Option (Bor Bytes)) (t : Bor Bytes) → rest ≡ Some t → position (λ b. b == s) t.now ≡ None → split_left s rest ≡ t.now ∷ []
left_none s rest t is none =
    let far = nowhere s t.now none in
    ap (split_left s) is ∙ split_none s t.now (λ k lt. eqb-false _ _ (fails_before_first (λ b. b == s) t.now k 0 (omega arith)))

pub left_at : (s : ℕ) (rest : Option (Bor Bytes)) (t : Bor Bytes) (i : ℕ) → rest ≡ Some t → position (λ b. b == s) t.now ≡ Some i → split_left s rest ≡ take i t.now ∷ split s (take (length t.now - (i + 1)) (drop (i + 1) t.now))
left_at s rest t i is at =
    let first = position-Some (λ b. b == s) t.now i 0 at in
    let cut = split_at s t.now i first.0 (eqb-true _ _ first.1) (λ k lt. eqb-false _ _ (first.2 k lt)) in
    let whole : take (length t.now - (i + 1)) (drop (i + 1) t.now) ≡ drop (i + 1) t.now = take_all _ _ (simp length-drop (omega arith)) in
    ap (split_left s) is ∙ cut ∙ ap (λ n. take i t.now ∷ split s (drop n t.now)) (sym (add-one i)) ∙ ap (λ u. take i t.now ∷ split s u) (sym whole)
