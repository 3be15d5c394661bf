-- Why a search for the first that lacks its name among others tells the judgement on all of them.
use Rattle.std.proofs.Common.{◌≡◌, ℕ, Bool, true, false, cond, not, List, [], ◌∷◌, map, is_some, is_none, Some, None, Option, refl, ap}
use Rattle.std.specs.List.{find}
use Rattle.scan.specs.Names.{Bytes, among}
use Rattle.verdict.specs.Verdict.{read, refuse, refuse_first, check_among}
use Rattle.names.specs.Positions.{position_in}
use Rattle.names.proofs.Finding.{found_among}

-- a name was not found exactly if it is none of those
pub none_among : (ns : List Bytes) (n : Bytes) → is_none (position_in ns n) ≡ not (among ns n)
none_among ns n = by (position_in ns n) (found_among ns n) where
  by : (o : Option ℕ) → is_some o ≡ among ns n → is_none o ≡ not (among ns n)
  by None h = ap not h
  by (Some i) h = ap not h

-- a test of what is made of each thing, and the place of each
module _ {X Y : Type 0} (f : X → Y) (test : Y → Bool) (place : X → ℕ) (m : ℕ) where
  -- the first that is found is refused
  pub first_refused : (xs : List X) (x : X) → find (λ x. test (f x)) xs ≡ Some x → refuse_first m (map test (map f xs)) (map place xs) ≡ refuse m (place x)
  first_refused [] x e = cc
  first_refused (y ∷ ys) x e = by (test (f y)) (first_refused ys x) e where
    by : (b : Bool) → (find (λ x. test (f x)) ys ≡ Some x → refuse_first m (map test (map f ys)) (map place ys) ≡ refuse m (place x)) →
        cond b (Some y) (find (λ x. test (f x)) ys) ≡ Some x → cond b (refuse m (place y)) (refuse_first m (map test (map f ys)) (map place ys)) ≡ refuse m (place x)
    by true h d = let s : y ≡ x = cc in ap (λ z. refuse m (place z)) s
    by false h d = h d

  -- where none is found, none is refused
  pub none_refused : (xs : List X) → find (λ x. test (f x)) xs ≡ None → refuse_first m (map test (map f xs)) (map place xs) ≡ read tt
  none_refused [] e = refl
  none_refused (y ∷ ys) e = by (test (f y)) (none_refused ys) e where
    by : (b : Bool) → (find (λ x. test (f x)) ys ≡ None → refuse_first m (map test (map f ys)) (map place ys) ≡ read tt) →
        cond b (Some y) (find (λ x. test (f x)) ys) ≡ None → cond b (refuse m (place y)) (refuse_first m (map test (map f ys)) (map place ys)) ≡ read tt
    by true h d = cc
    by false h d = h d

-- names with places beside them
pub among_places : {X : Type 0} (label : X → Bytes) (place : X → ℕ) (ns : List Bytes) (m : ℕ) (xs : List X) → check_among m ns (map (λ x. (label x, place x)) xs) ≡ refuse_first m (map (λ n. not (among ns n)) (map label xs)) (map place xs)
among_places label place ns m [] = refl
among_places label place ns m (x ∷ xs) = ap (cond (not (among ns (label x))) (refuse m (place x))) (among_places label place ns m xs)
