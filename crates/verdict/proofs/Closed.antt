-- The rows that `closed` makes say what `reaches` says, and so which node lies on a circle.
use Rattle.std.proofs.Common.{◌≡◌, ℕ, zero, suc, ◌<◌, ◌≤◌, Bool, true, false, ◌&&◌, ◌||◌, List, [], ◌∷◌, map, get_or, sym, refl, ap, ◌∙◌, ⊎_elim, arith}
use Rattle.std.specs.List.{range_with_len}
use Rattle.std.proofs.lemmas.Bool.{cases_Bool, cond-true, cond-false}
use Rattle.std.proofs.lemmas.List.FromFn.{get_or-map-range_with_len}
use Rattle.std.proofs.Math.Bool.{or-false}
use mathlib.Core.List.{map-map}
use Rattle.graph.specs.Grid.{table, grid, cell, through}
use Rattle.graph.specs.Reach.{reaches}
use Rattle.graph.proofs.Grids.{table_same, grid_row, grid_cell}
use Rattle.verdict.specs.Circles.{either, by_way_of, closed, circular, on_circle}

either_map : (f g : ℕ → Bool) (xs : List ℕ) → either (map f xs) (map g xs) ≡ map (λ x. f x || g x) xs
either_map f g [] = refl
either_map f g (x ∷ xs) = ap (λ r. (f x || g x) ∷ r) (either_map f g xs)

by_way : (n k i : ℕ) (R : ℕ → ℕ → Bool) → k < n → by_way_of k (table n (R k)) (table n (R i)) ≡ table n (through R k i)
by_way n k i R l =
    let g : get_or (table n (R i)) k false ≡ R i k = get_or-map-range_with_len (R i) 0 n k k false l (omega arith) in
    ⊎_elim
    (λ (h : R i k ≡ true).
    cond-true (get_or (table n (R i)) k false) _ _ (g ∙ h)
    ∙ (either_map (R i) (R k) (range_with_len 0 n)
    ∙ table_same n (λ j. R i j || R k j) (through R k i) (λ j lj. ap (λ b. R i j || (b && R k j)) (sym h))))
    (λ (h : R i k ≡ false).
    cond-false (get_or (table n (R i)) k false) _ _ (g ∙ h)
    ∙ table_same n (R i) (through R k i) (λ j lj. sym (ap (λ b. R i j || (b && R k j)) h ∙ or-false (R i j))))
    (cases_Bool (R i k))

pub closed_grid : (n : ℕ) (needs : ℕ → ℕ → Bool) (k : ℕ) → k ≤ n → closed n needs k ≡ grid n (reaches needs k)
closed_grid n needs zero l = refl
closed_grid n needs (suc k) l =
    let R : ℕ → ℕ → Bool = reaches needs k in
    ap (λ g. map (by_way_of k (get_or g k [])) g) (closed_grid n needs k (omega arith))
    ∙ (ap (λ r. map (by_way_of k r) (grid n R)) (grid_row n R k (omega arith))
    ∙ (map-map (by_way_of k (table n (R k))) (λ i. table n (R i)) (range_with_len 0 n)
    ∙ table_same n (λ i. by_way_of k (table n (R k)) (table n (R i))) (λ i. table n (through R k i)) (λ i li. by_way n k i R (omega arith))))

pub on_circle_is : (n : ℕ) (needs : ℕ → ℕ → Bool) → on_circle n needs ≡ table n (λ i. reaches needs n i i)
on_circle_is n needs =
    ap (λ g. circular g (range_with_len 0 n)) (closed_grid n needs n (omega arith))
    ∙ table_same n (λ i. cell (grid n (reaches needs n)) i i) (λ i. reaches needs n i i) (λ i l. grid_cell n (reaches needs n) i i l l)
