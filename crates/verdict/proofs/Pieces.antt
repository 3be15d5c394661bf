-- Pieces of a word one after the other, for a loop that judges them all: where a piece ends, and what was judged so far.
use Rattle.std.proofs.Common.{◌≡◌, ℕ, min, true, false, not, eqb, List, [], ◌∷◌, ◌++◌, refl, ap, ◌∙◌, arith}
use Rattle.std.proofs.lemmas.Bool.{and_parts, not-true, eq-eqb}
use Rattle.scan.specs.Names.{Bytes, all}
use Rattle.numbers.specs.Judged.{Judged, good, bad, front, every}
use Rattle.numbers.specs.Splits.{cut_at, split}

-- no byte of the list is the separator
abbrev pub Without : ℕ → Bytes → Type 0
Without s bs = all (λ b. not (eqb b s)) bs ≡ true

pub split_none : (s : ℕ) (p : Bytes) → Without s p → split s p ≡ p ∷ []
split_none s [] h = refl
split_none s (b ∷ p) h =
    let k = and_parts (not (eqb b s)) (all (λ c. not (eqb c s)) p) h in
    ap (λ c. cut_at c b (split s p)) (not-true (eqb b s) k.0) ∙ ap (cut_at false b) (split_none s p k.1)

pub split_at : (s : ℕ) (p rest : Bytes) → Without s p → split s (p ++ (s ∷ rest)) ≡ p ∷ split s rest
split_at s [] rest h = ap (λ c. cut_at c s (split s rest)) (eq-eqb s s refl)
split_at s (b ∷ p) rest h =
    let k = and_parts (not (eqb b s)) (all (λ c. not (eqb c s)) p) h in
    ap (λ c. cut_at c b (split s (p ++ (s ∷ rest)))) (not-true (eqb b s) k.0) ∙ ap (cut_at false b) (split_at s p rest k.1)

-- what was judged so far, and what comes: the smaller number
abbrev pub joined : {X : Type 0} → Judged (List X) → Judged (List X) → Judged (List X)
joined (good xs) (good ys) = good (xs ++ ys)
joined (good xs) (bad m) = bad m
joined (bad n) (good ys) = bad n
joined (bad n) (bad m) = bad (min n m)

front_joined : {X : Type 0} (x : Judged X) (a b : Judged (List X)) → front x (joined a b) ≡ joined (front x a) b
front_joined (good x) (good xs) (good ys) = refl
front_joined (good x) (good xs) (bad m) = refl
front_joined (good x) (bad n) (good ys) = refl
front_joined (good x) (bad n) (bad m) = refl
front_joined (bad k) (good xs) (good ys) = refl
front_joined (bad k) (good xs) (bad m) = refl
front_joined (bad k) (bad n) (good ys) = refl
front_joined (bad k) (bad n) (bad m) = let e : min k (min n m) ≡ min (min k n) m = omega arith in ap bad e

none_joined : {X : Type 0} (b : Judged (List X)) → b ≡ joined (good []) b
none_joined (good ys) = refl
none_joined (bad m) = refl

pub every_joined : {X : Type 0} (js ks : List (Judged X)) → every (js ++ ks) ≡ joined (every js) (every ks)
every_joined [] ks = none_joined (every ks)
every_joined (j ∷ js) ks = ap (front j) (every_joined js ks) ∙ front_joined j (every js) (every ks)
