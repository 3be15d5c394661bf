-- Cells of a square of truth values: all of them false at first, and one set.
use Rattle.std.proofs.Common.{◌≡◌, ℕ, zero, suc, ◌<◌, Bool, true, false, ◌||◌, ◌&&◌, eqb, List, [], length, get_or, set, replicate, sym, refl, ⊎_elim, arith}
use Rattle.std.proofs.lemmas.Bool.{cases_eq, eq-eqb, ne_eqb}
use Rattle.std.proofs.lemmas.List.{length-replicate, get_or-set_same, get_or-set_other}

-- what stands in row a at place b
abbrev pub cell : List (List Bool) → ℕ → ℕ → Bool
cell g a b = get_or (get_or g a []) b false

-- a row of one value has that value at every place
pub get_or_of_one : (n i : ℕ) (x : Bool) → get_or (replicate n x) i x ≡ x
get_or_of_one zero i x = refl
get_or_of_one (suc n) zero x = refl
get_or_of_one (suc n) (suc i) x = get_or_of_one n i x

-- where nothing was set
none_set : (n i : ℕ) → get_or (replicate n false) i false ≡ false
none_set n i = get_or_of_one n i false

pub cells_of_one : (m n a b : ℕ) → cell (replicate m (replicate n false)) a b ≡ false
cells_of_one zero n a b = refl
cells_of_one (suc m) n zero b = none_set n b
cells_of_one (suc m) n (suc a) b = cells_of_one m n a b

pub rows_of_one : (m n a : ℕ) → a < m → length (get_or (replicate m (replicate n false)) a []) ≡ n
rows_of_one zero n a l = absurd (omega arith)
rows_of_one (suc m) n zero l = length-replicate n false
rows_of_one (suc m) n (suc a) l = rows_of_one m n a (omega arith)

-- one place of one row is set
pub cell_set : (g : List (List Bool)) (a b x y : ℕ) → a < length g → b < length (get_or g a []) → cell (set g a (set (get_or g a []) b true)) x y ≡ (cell g x y || (eqb x a && eqb y b))
cell_set g a b x y la lb =
    ⊎_elim
    (λ (e : x ≡ a).
    let row : get_or (set g a (set (get_or g a []) b true)) x [] ≡ set (get_or g a []) b true = rw e (get_or-set_same g a (set (get_or g a []) b true) [] la) in
    ⊎_elim
    (λ (f : y ≡ b). rw (row, f, get_or-set_same (get_or g a []) b true false lb, eq-eqb x a e, eq-eqb b b refl) (sym (or_true (cell g x b))))
    (λ ne. rw (row, get_or-set_other (get_or g a []) b y true false ne, ne_eqb y b ne, e) (sym (or_no (cell g a y) (eqb a a))))
    (cases_eq y b))
    (λ ne. rw (get_or-set_other g a x (set (get_or g a []) b true) [] ne, ne_eqb x a ne) (sym (or_false (cell g x y))))
    (cases_eq x a)
  where
    or_true : (t : Bool) → (t || true) ≡ true
    or_true true = refl
    or_true false = refl

    or_false : (t : Bool) → (t || false) ≡ t
    or_false true = refl
    or_false false = refl

    or_no : (t u : Bool) → (t || (u && false)) ≡ t
    or_no true u = refl
    or_no false true = refl
    or_no false false = refl
