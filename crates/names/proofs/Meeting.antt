-- The judgement on one more name does not depend on the order in which the others were met.
use Rattle.std.proofs.Common.{◌≡◌, Bool, true, false, ◌||◌, List, [], ◌∷◌, ◌++◌, map, reverse, length, refl, ap, ◌∙◌}
use mathlib.Core.List.{reverse-cons}
use Rattle.std.proofs.lemmas.List.{map_push, reverse-append, length-reverse}
use Rattle.scan.specs.Names.{Bytes, same, among}
use Rattle.verdict.specs.Limits.{new_name}

pub among_append : (ms ns : List Bytes) (n : Bytes) → among (ms ++ ns) n ≡ (among ms n || among ns n)
among_append [] ns n = refl
among_append (m ∷ ms) ns n = ap (λ t. same m n || t) (among_append ms ns n) ∙ or_assoc (same m n) (among ms n) (among ns n) where
  or_assoc : (x y z : Bool) → (x || (y || z)) ≡ ((x || y) || z)
  or_assoc true y z = refl
  or_assoc false y z = refl

pub among_reverse : (ns : List Bytes) (n : Bytes) → among (reverse ns) n ≡ among ns n
among_reverse [] n = refl
among_reverse (m ∷ ms) n =
    ap (λ xs. among xs n) (reverse-cons m ms) ∙ among_append (reverse ms) (m ∷ []) n ∙ ap (λ t. t || (same m n || false)) (among_reverse ms n) ∙ or_last (among ms n) (same m n) where
      or_last : (x y : Bool) → (x || (y || false)) ≡ (y || x)
      or_last true true = refl
      or_last true false = refl
      or_last false true = refl
      or_last false false = refl

-- as many others, with the name among both or neither
pub new_alike : (ms ns : List Bytes) (n : Bytes) → length ms ≡ length ns → among ms n ≡ among ns n → new_name ms n ≡ new_name ns n
new_alike ms ns n long met = rw (long, met)

-- the last that was met in front
pub new_reverse : (ns : List Bytes) (n : Bytes) → new_name (reverse ns) n ≡ new_name ns n
new_reverse ns n = new_alike (reverse ns) ns n (length-reverse ns) (among_reverse ns n)

-- one more is met
pub met_more : {X : Type 0} (label : X → Bytes) (xs : List X) (x : X) → reverse (map label (xs ++ x ∷ [])) ≡ label x ∷ reverse (map label xs)
met_more label xs x = ap reverse (map_push label xs x) ∙ reverse-append (map label xs) (label x ∷ [])
