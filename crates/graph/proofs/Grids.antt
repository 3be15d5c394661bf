-- Tables and grids place by place: one entry more, what stands where, tables that agree, and one round more.
use Rattle.std.proofs.Common.{◌≡◌, ℕ, suc, ◌+◌, ◌<◌, Bool, false, ◌&&◌, ◌||◌, List, [], map, length, get_or, vec_items, Vec, sym, ap, ◌∙◌, subst, ap₂, add-one, arith}
use Rattle.std.specs.List.{zip}
use Rattle.std.proofs.lemmas.List.FromFn.{get_or-map-range_with_len, length-map-range_with_len, fill_by_all}
use Rattle.std.proofs.lemmas.Slice.Zip.{get_or-zip, length-zip}
use Rattle.std.proofs.lemmas.List.{same_lists, length-map, get_or-map, get_or_read}
use Rattle.graph.specs.Grid.{table, grid, bits, cell, Square, through}
use Rattle.graph.specs.Reach.{reaches}

pub table_same : {X : Type 0} (n : ℕ) (f g : ℕ → X) → ((k : ℕ) → k < n → f k ≡ g k) → table n f ≡ table n g
table_same n f g h =
    same_lists (table n f) (table n g) (length-map-range_with_len f 0 n ∙ sym (length-map-range_with_len g 0 n))
    (λ k d l.
    let l' : k < n = subst (λ m. k < m) (length-map-range_with_len f 0 n) l in
    get_or-map-range_with_len f 0 n k k d l' (omega arith) ∙ (h k l' ∙ sym (get_or-map-range_with_len g 0 n k k d l' (omega arith))))

pub grid_same : (n : ℕ) (f g : ℕ → ℕ → Bool) → ((i j : ℕ) → i < n → j < n → f i j ≡ g i j) → grid n f ≡ grid n g
grid_same n f g h = table_same n (λ i. table n (f i)) (λ i. table n (g i)) (λ i li. table_same n (f i) (g i) (λ j lj. h i j li lj))

pub grid_row : (n : ℕ) (f : ℕ → ℕ → Bool) (i : ℕ) → i < n → get_or (grid n f) i [] ≡ table n (f i)
grid_row n f i l = get_or-map-range_with_len (λ a. table n (f a)) 0 n i i [] l (omega arith)

pub grid_cell : (n : ℕ) (f : ℕ → ℕ → Bool) (i j : ℕ) → i < n → j < n → cell (grid n f) i j ≡ f i j
grid_cell n f i j li lj = ap (λ r. get_or r j false) (grid_row n f i li) ∙ get_or-map-range_with_len (f i) 0 n j j false lj (omega arith)

pub grid_length : (n : ℕ) (f : ℕ → ℕ → Bool) → length (grid n f) ≡ n
grid_length n f = length-map-range_with_len (λ a. table n (f a)) 0 n

pub grid_square : (n : ℕ) (f : ℕ → ℕ → Bool) → Square (grid n f)
grid_square n f i l =
    let l' : i < n = subst (λ m. i < m) (grid_length n f) l in
    ap length (grid_row n f i l') ∙ (length-map-range_with_len (f i) 0 n ∙ sym (grid_length n f))

module _ {Z : Type 0} (rows : List (Vec Bool Z)) (i : ℕ) (x : Vec Bool Z) (l : i < length rows) (read : x ≡ get_or rows i x) where
  -- a row that was read
  pub row_read : vec_items x ≡ get_or (bits rows) i []
  row_read = ap vec_items read ∙ sym (get_or-map vec_items rows i x [] l)

  pub row_long : Square (bits rows) → length (vec_items x) ≡ length rows
  row_long square = ap length row_read ∙ (square i (subst (λ n. i < n) (sym (length-map rows vec_items)) l) ∙ length-map rows vec_items)

  pub cell_read : Square (bits rows) → (j : ℕ) (b : Bool) → j < length rows → b ≡ get_or (vec_items x) j b → b ≡ cell (bits rows) i j
  cell_read square j b lj r =
      get_or_read (vec_items x) j b (omega (arith, row_long square)) r false ∙ ap (λ v. get_or v j false) row_read

-- two rows of one length, joined place by place
pub row_joined : (row via : List Bool) (joins : Bool) → length via ≡ length row → map (λ p. p.0 || (joins && p.1)) (zip row via) ≡ table (length row) (λ j. get_or row j false || (joins && get_or via j false))
row_joined row via joins same =
    fill_by_all (λ j. get_or row j false || (joins && get_or via j false)) (map (λ p. p.0 || (joins && p.1)) (zip row via)) (length row) false
    (omega (arith, length-map (zip row via) (λ (p : Bool × Bool). p.0 || (joins && p.1)), length-zip row via))
    (λ k l.
    get_or-map (λ p. p.0 || (joins && p.1)) (zip row via) k (false, false) false (omega (arith, length-zip row via))
    ∙ ap (λ p. p.0 || (joins && p.1)) (get_or-zip row via k (false, false) l (omega arith)))

-- the row that `next_row` makes of two rows
abbrev pub joined : ℕ → List Bool → List Bool → List Bool
joined k via row = table (length row) (λ j. get_or row j false || (get_or row k false && get_or via j false))

-- and all rows of the next round
pub rows_next : (g : List (List Bool)) (k n : ℕ) (via : List Bool) → length g ≡ n → Square g → via ≡ get_or g k [] → map (joined k via) g ≡ grid n (through (cell g) k)
rows_next g k n via long square e =
    fill_by_all (λ i. table n (through (cell g) k i)) (map (joined k via) g) n [] (length-map g (joined k via) ∙ long)
    (λ i l.
    let l' : i < length g = omega (arith, long) in
    let row = get_or g i [] in
    get_or-map (joined k via) g i [] [] l'
    ∙ (ap (λ m. table m (λ j. get_or row j false || (get_or row k false && get_or via j false))) (square i l' ∙ long)
    ∙ ap (λ s. table n (λ j. get_or row j false || (get_or row k false && get_or s j false))) e))

module _ {Z : Type 0} (rows : List (Vec Bool Z)) (n : ℕ) (f : ℕ → ℕ → Bool) (e : bits rows ≡ grid n f) where
  pub rows_length : length rows ≡ n
  rows_length = sym (length-map rows vec_items) ∙ (ap length e ∙ grid_length n f)

  pub rows_square : Square (bits rows)
  rows_square = subst Square (sym e) (grid_square n f)

  pub rows_cell : (i j : ℕ) → i < n → j < n → cell (bits rows) i j ≡ f i j
  rows_cell i j li lj = ap (λ g. cell g i j) e ∙ grid_cell n f i j li lj

-- a round more
pub grid_next : {Z : Type 0} (rows : List (Vec Bool Z)) (n : ℕ) (needs : ℕ → ℕ → Bool) (k : ℕ) → bits rows ≡ grid n (reaches needs k) → k < n → grid (length rows) (through (cell (bits rows)) k) ≡ grid n (reaches needs (k + 1))
grid_next rows n needs k e l =
    let at = rows_cell rows n (reaches needs k) e in
    let same : grid n (through (cell (bits rows)) k) ≡ grid n (reaches needs (suc k)) = grid_same n (through (cell (bits rows)) k) (reaches needs (suc k)) (λ i j li lj. ap₂ ◌||◌ (at i j li lj) (ap₂ ◌&&◌ (at i k li l) (at k j l lj))) in
    ap (λ m. grid m (through (cell (bits rows)) k)) (rows_length rows n (reaches needs k) e) ∙ rw add-one same
