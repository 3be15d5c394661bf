-- What the rows of `reached` give, since each place of the grid says whether a chain leads there: the least node on a circle, or an order.
use Rattle.std.proofs.Common.{◌≡◌, ℕ, ◌<◌, Bool, true, false, List, length, get_or, Vec, sym, ap, ◌∙◌, subst, arith}
use Rattle.std.proofs.lemmas.List.FromFn.{get_or-map-range_with_len, length-map-range_with_len}
use Rattle.graph.specs.Grid.{table, grid, bits, cell}
use Rattle.graph.specs.Needs.{Orders, NoCircle, LeastOnCircle}
use Rattle.graph.specs.Reach.{reaches, count, rank, layers}
use Rattle.graph.proofs.Circles.{on_circle_holds, off_circle, Clear, no_circle_from_order, no_circle_from_clear, order_from_clear}
use Rattle.graph.proofs.Counts.{count_same}
use Rattle.graph.proofs.Grids.{rows_length, rows_cell}
use Rattle.graph.proofs.Layers.{layers_same}

module _ {Z : Type 0} (rows : List (Vec Bool Z)) (n : ℕ) (needs : ℕ → ℕ → Bool) (e : bits rows ≡ grid n (reaches needs n)) where
  long : length rows ≡ n
  long = rows_length rows n (reaches needs n) e

  at : (i j : ℕ) → i < n → j < n → cell (bits rows) i j ≡ reaches needs n i j
  at = rows_cell rows n (reaches needs n) e

  pub circle_found : (a : ℕ) → a < length rows → cell (bits rows) a a ≡ true → ((b : ℕ) → b < a → cell (bits rows) b b ≡ false) → LeastOnCircle n needs a × ((w : List ℕ) → Orders n needs w → ⊥)
  circle_found a l h before =
      let la : a < n = omega (arith, long) in
      let circle = on_circle_holds n needs a la (sym (at a a la la) ∙ h) in (
        record {
          circle = circle;
          least = λ b lb. let lb' : b < n = omega arith in off_circle n needs b (sym (at b b lb' lb') ∙ before b lb);
        },
        λ w o. no_circle_from_order n needs w o a circle,
      )

  pub clear_found : ((b : ℕ) → b < length rows → cell (bits rows) b b ≡ false) → Clear n needs
  clear_found none b l = sym (at b b l l) ∙ none b (omega (arith, long))

  pub order_found : ((b : ℕ) → b < length rows → cell (bits rows) b b ≡ false) → (ranks v : List ℕ) → ranks ≡ table (length rows) (λ i. count (cell (bits rows) i) (length rows)) → v ≡ layers (λ a. get_or ranks a 0) (length ranks) (length ranks) → Orders n needs v × NoCircle n needs
  order_found none ranks v r h =
      let f : ℕ → ℕ = λ i. count (cell (bits rows) i) (length rows) in
      let many : length ranks ≡ n = ap length r ∙ (length-map-range_with_len f 0 (length rows) ∙ long) in
      let each : (k : ℕ) → k < n → get_or ranks k 0 ≡ rank n needs k = λ k l.
      ap (λ w. get_or w k 0) r ∙ (get_or-map-range_with_len f 0 (length rows) k k 0 (omega (arith, long)) (omega arith)
      ∙ (ap (count (cell (bits rows) k)) long ∙ count_same (cell (bits rows) k) (reaches needs n k) n (λ j lj. at k j l lj))) in
      let is : v ≡ layers (rank n needs) n n = h ∙ (ap (λ m. layers (λ a. get_or ranks a 0) m m) many ∙ layers_same (λ a. get_or ranks a 0) (rank n needs) n n each) in
      (subst (Orders n needs) (sym is) (order_from_clear n needs (clear_found none)), no_circle_from_clear n needs (clear_found none))
