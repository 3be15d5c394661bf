-- Counts of the numbers that pass a test, by induction on how many are looked at: fewer pass where less is let through.
use Rattle.std.proofs.Common.{◌≡◌, ℕ, zero, suc, ◌+◌, ◌<◌, ◌≤◌, Bool, true, false, cond, List, [], map, length, get_or, take, count_by, vec_items, Vec, sym, refl, ap, ◌∙◌, subst, ap₂, ⊎_elim, add-one, arith}
use Rattle.std.proofs.lemmas.Bool.{cases_eq, cases_Bool, false≢true}
use mathlib.Core.List.{map-map}
use Rattle.std.proofs.lemmas.List.{take_all, get_or-map, length-map}
use Rattle.std.proofs.lemmas.List.FromFn.{fill_by_all}
use Rattle.std.proofs.lemmas.List.Sums.{count_by_more_yes, count_by_more_no}
use Rattle.graph.specs.Grid.{table, bits, cell, Square}
use Rattle.graph.specs.Reach.{count}

step_le : (x y : Bool) → (x ≡ true → y ≡ true) → cond x 1 0 ≤ cond y 1 0
step_le true true h = omega arith
step_le true false h = absurd (false≢true (h refl))
step_le false true h = omega arith
step_le false false h = omega arith

step_lt : (x y : Bool) → x ≡ false → y ≡ true → cond x 1 0 < cond y 1 0
step_lt x y p q = rw (p, q) (omega arith)

module _ (p q : ℕ → Bool) where
  pub count_le : (n : ℕ) → ((k : ℕ) → k < n → p k ≡ true → q k ≡ true) → count p n ≤ count q n
  count_le zero h = omega arith
  count_le (suc n) h = omega (arith, step_le (p n) (q n) (h n (omega arith)), count_le n (λ k l. h k (omega arith)))

  -- all that passes p passes q, and m passes q alone
  pub count_lt : (n m : ℕ) → ((k : ℕ) → k < n → p k ≡ true → q k ≡ true) → m < n → p m ≡ false → q m ≡ true → count p n < count q n
  count_lt zero m h l f t = absurd (omega arith)
  count_lt (suc n) m h l f t =
      ⊎_elim
      (λ (e : m ≡ n). omega (arith, step_lt (p n) (q n) (subst (λ x. p x ≡ false) e f) (subst (λ x. q x ≡ true) e t), count_le n (λ k l'. h k (omega arith))))
      (λ ne. omega (arith, step_le (p n) (q n) (h n (omega arith)), count_lt n m (λ k l'. h k (omega arith)) (omega (arith, ne)) f t))
      (cases_eq m n)

  pub count_same : (n : ℕ) → ((k : ℕ) → k < n → p k ≡ q k) → count p n ≡ count q n
  count_same zero h = refl
  count_same (suc n) h = ap₂ (λ (b : Bool) (c : ℕ). cond b 1 0 + c) (h n (omega arith)) (count_same n (λ k l. h k (omega arith)))

pub count_all : (n : ℕ) → count (λ _. true) n ≡ n
count_all zero = refl
count_all (suc n) = omega (arith, count_all n)

-- one that does not pass
pub count_short : (p : ℕ → Bool) (n m : ℕ) → m < n → p m ≡ false → count p n < n
count_short p n m l f = omega (arith, count_lt p (λ _. true) n m (λ k _ _. refl) l f refl, count_all n)

-- the true ones of a list, counted by their places
count_to : (xs : List Bool) (k : ℕ) → k ≤ length xs → count_by (λ b. b) (take k xs) ≡ count (λ j. get_or xs j false) k
count_to xs zero h = refl
count_to xs (suc k) h =
    ⊎_elim
    (λ t. rw t (omega (arith, rw add-one at (count_by_more_yes (λ b. b) xs k false (omega arith) t), count_to xs k (omega arith))))
    (λ f. rw f (omega (arith, rw add-one at (count_by_more_no (λ b. b) xs k false (omega arith) f), count_to xs k (omega arith))))
    (cases_Bool (get_or xs k false))

pub count_places : (xs : List Bool) (n : ℕ) → length xs ≡ n → count_by (λ b. b) xs ≡ count (λ j. get_or xs j false) n
count_places xs n e = ap (count_by (λ b. b)) (sym (take_all n xs (omega arith))) ∙ count_to xs n (omega arith)

-- the true ones of each row of a square grid
pub rows_counted : {Z : Type 0} (rows : List (Vec Bool Z)) → Square (bits rows) → map (λ r. count_by (λ b. b) (vec_items r)) rows ≡ table (length rows) (λ i. count (cell (bits rows) i) (length rows))
rows_counted rows square =
    sym (map-map (count_by (λ b. b)) vec_items rows)
    ∙ fill_by_all (λ i. count (cell (bits rows) i) (length rows)) (map (count_by (λ b. b)) (bits rows)) (length rows) 0 (length-map (bits rows) _ ∙ length-map rows _)
    (λ k l.
    let l' : k < length (bits rows) = omega (arith, length-map rows vec_items) in
    get_or-map (count_by (λ b. b)) (bits rows) k [] 0 l'
    ∙ count_places (get_or (bits rows) k []) (length rows) (square k l' ∙ length-map rows _))
