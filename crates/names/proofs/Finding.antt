-- Why a search from the front finds the first place, and what its place tells.
use Rattle.std.proofs.Common.{◌≡◌, ℕ, suc, ◌+◌, ◌<◌, Bool, true, false, cond, ◌||◌, List, [], ◌∷◌, map, length, get_or, is_some, Some, None, Option, unwrap_or, sym, refl, ap, ◌∙◌, subst, arith}
use Rattle.std.specs.List.{position, position_from}
use Rattle.std.specs.Option.{option_map}
use Rattle.std.proofs.lemmas.Iterator.Adapters.{position_from-zero}
use Rattle.scan.specs.Names.{Bytes, same, among}
use Rattle.scan.proofs.NameOrder.{told}
use Rattle.verdict.specs.Circuit.{rank_in}
use Rattle.names.specs.Positions.{position_in}

-- the place of a name in what is left of a list, counted from the list's front
abbrev pub from : ℕ → Option ℕ → Option ℕ
from k o = option_map (λ i. k + i) o

from_none : (o : Option ℕ) → o ≡ from 0 o
from_none None = refl
from_none (Some i) = ap Some (omega arith)

from_suc : (k : ℕ) (o : Option ℕ) → from k (option_map suc o) ≡ from (k + 1) o
from_suc k None = refl
from_suc k (Some i) = ap Some (omega arith)

-- a name was found exactly if it is one of those
pub found_among : (ns : List Bytes) (n : Bytes) → is_some (position_in ns n) ≡ among ns n
found_among [] n = refl
found_among (m ∷ ms) n = by (same m n) (position_in ms n) (found_among ms n) where
  by : (b : Bool) (o : Option ℕ) → is_some o ≡ among ms n → is_some (cond b (Some 0) (option_map suc o)) ≡ (b || among ms n)
  by true o h = refl
  by false None h = h
  by false (Some i) h = h

-- the rank of a name is the place where it is found, or the length
pub rank_position : (ns : List Bytes) (n : Bytes) → rank_in ns n ≡ unwrap_or (position_in ns n) (length ns)
rank_position [] n = refl
rank_position (m ∷ ms) n = by (same m n) (position_in ms n) (rank_position ms n) where
  by : (b : Bool) (o : Option ℕ) → rank_in ms n ≡ unwrap_or o (length ms) → cond b 0 (suc (rank_in ms n)) ≡ unwrap_or (cond b (Some 0) (option_map suc o)) (suc (length ms))
  by true o h = refl
  by false None h = ap suc h
  by false (Some i) h = ap suc h

-- a name that is found has this rank
pub rank_found : (ns : List Bytes) (n : Bytes) (i : ℕ) → position_in ns n ≡ Some i → rank_in ns n ≡ i
rank_found ns n i e = rank_position ns n ∙ ap (λ o. unwrap_or o (length ns)) e

-- and stands there
pub found_at : (ns : List Bytes) (n : Bytes) (i : ℕ) → position_in ns n ≡ Some i → (i < length ns) × (get_or ns i [] ≡ n)
found_at [] n i e = let z : ◌≡◌ {A = ℕ} 0 1 = cc in absurd (omega arith)
found_at (m ∷ ms) n i e = by (same m n) refl (position_in ms n) (found_at ms n) e where
  by : (b : Bool) → same m n ≡ b → (o : Option ℕ) → ((j : ℕ) → o ≡ Some j → (j < length ms) × (get_or ms j [] ≡ n)) → cond b (Some 0) (option_map suc o) ≡ Some i → (i < suc (length ms)) × (get_or (m ∷ ms) i [] ≡ n)
  by true s o h d = let z : 0 ≡ i = cc in subst (λ k. (k < suc (length ms)) × (get_or (m ∷ ms) k [] ≡ n)) z (omega arith, told m n s)
  by false s None h d = let z : ◌≡◌ {A = ℕ} 0 1 = cc in absurd (omega arith)
  by false s (Some j) h d =
      let z : suc j ≡ i = cc in
      let p = h j refl in
      subst (λ k. (k < suc (length ms)) × (get_or (m ∷ ms) k [] ≡ n)) z (omega (arith, p.0), p.1)

module _ {X : Type 0} (label : X → Bytes) (n : Bytes) where
  named_from : (k : ℕ) (xs : List X) → position_from (λ x. same (label x) n) k xs ≡ from k (position_in (map label xs) n)
  named_from k [] = refl
  named_from k (x ∷ xs) = by (same (label x) n) (named_from (k + 1) xs) where
    by : (b : Bool) → position_from (λ x. same (label x) n) (k + 1) xs ≡ from (k + 1) (position_in (map label xs) n) →
        cond b (Some k) (position_from (λ x. same (label x) n) (k + 1) xs) ≡ from k (cond b (Some 0) (option_map suc (position_in (map label xs) n)))
    by true h = ap Some (omega arith)
    by false h = h ∙ sym (from_suc k (position_in (map label xs) n))

  -- the first that is named so, in the words of the library
  pub position_named : (xs : List X) → position (λ x. same (label x) n) xs ≡ position_in (map label xs) n
  position_named xs = position_from-zero (λ x. same (label x) n) xs ∙ named_from 0 xs ∙ sym (from_none _)
