-- What a piece of text means, or the number of the refusal that it meets.
use Rattle.std.specs.Prelude.{ℕ, min, Bool, true, false, List, [], ◌∷◌}

pub data Judged (X : Type 0) : Type 0 where
  good : X → Judged X
  bad : ℕ → Judged X

-- the first if it is refused, and otherwise what follows from it
infixl 10 ◌>>=◌
abbrev pub ◌>>=◌ : {X Y : Type 0} → Judged X → (X → Judged Y) → Judged Y
good x >>= f = f x
bad n >>= f = bad n

-- refused with n unless the test holds
abbrev pub check : Bool → ℕ → Judged (Unit {0})
check true n = good tt
check false n = bad n

-- two pieces of one word: if both are refused, the smaller number
abbrev pub both : {X Y : Type 0} → Judged X → Judged Y → Judged (X × Y)
both (good x) (good y) = good (x, y)
both (good x) (bad m) = bad m
both (bad n) (good y) = bad n
both (bad n) (bad m) = bad (min n m)

-- a piece before others
abbrev pub front : {X : Type 0} → Judged X → Judged (List X) → Judged (List X)
front (good x) (good xs) = good (x ∷ xs)
front (good x) (bad m) = bad m
front (bad n) (good xs) = bad n
front (bad n) (bad m) = bad (min n m)

-- all pieces of one word: the smallest number of those refused
abbrev pub every : {X : Type 0} → List (Judged X) → Judged (List X)
every [] = good []
every (j ∷ js) = front j (every js)
