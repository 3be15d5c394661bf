-- Parts, and what the words of one part come to.
use Rattle.std.specs.Prelude.{ℕ, zero, suc, ◌+◌, cond, List, [], ◌∷◌, length, drop, replicate, nat_le}
use Rattle.scan.specs.Names.{Bytes, same}
use Rattle.numbers.specs.Judged.{Judged, good, bad, check}
use Rattle.verdict.specs.Items.{Expression}
use Rattle.verdict.specs.Macros.{Table, Size, zeros, given, expression_field, number_field, size_field}

-- an ALU with function, left and right; a selector with select and cases; a memory with address, data, operation and first words
pub data Body (R : Type 0) : Type 0 where
  alu : Expression R → Expression R → Expression R → Body R
  selector : Expression R → List (Expression R) → Body R
  memory : Expression R → Expression R → Expression R → List ℕ → Body R

-- a part of a text: its name, and what it is
abbrev pub Part : Type 0
Part = Bytes × Body Bytes

-- what a word of a part takes of what is limited in a drawing: a name, items, memory words
pub data Claim : Type 0 where
  a_name : Bytes → Claim
  some_items : Expression Bytes → Claim
  some_words : ℕ → Claim

-- what the words of a part come to, in their order: claims of some words, and at the end what was read,
-- or a refusal's number at the word of some place in the part, or a word is missing and the next one in the text meets a number
pub data Reading (X : Type 0) : Type 0 where
  reads : X → Reading X
  refuses : ℕ → ℕ → Reading X
  lacks : ℕ → Reading X
  claims : Claim → ℕ → Reading X → Reading X

infixl 10 ◌>>=◌
abbrev pub ◌>>=◌ : {X Y : Type 0} → Reading X → (X → Reading Y) → Reading Y
reads x >>= f = f x
refuses n i >>= f = refuses n i
lacks n >>= f = lacks n
claims c i r >>= f = claims c i (r >>= f)

-- the word i of the part is judged
abbrev pub judged : {X : Type 0} → ℕ → Judged X → Reading X
judged i (good x) = reads x
judged i (bad n) = refuses n i

abbrev pub claim : Claim → ℕ → Reading (Unit {0})
claim c i = claims c i (reads tt)

-- the word i of the part; a part letter or a stop that stands in its place meets 11
abbrev pub word_at : List Bytes → ℕ → Reading Bytes
word_at [] i = lacks 11
word_at (w ∷ ws) zero = reads w
word_at (w ∷ ws) (suc i) = word_at ws i

-- the part has no word i: such a word is no part letter and no stop
abbrev pub ends_at : List Bytes → ℕ → Reading (Unit {0})
ends_at ws i = judged i (check (nat_le (length ws) i) 11)

abbrev pub name_at : List Bytes → ℕ → Reading Bytes
name_at ws i = do
  w ← word_at ws i
  _ ← claim (a_name w) i
  reads w

abbrev pub expression_in : Table → Bytes → ℕ → Reading (Expression Bytes)
expression_in t w i = do
  e ← judged i (expression_field t w)
  _ ← claim (some_items e) i
  reads e

abbrev pub expression_at : Table → List Bytes → ℕ → Reading (Expression Bytes)
expression_at t ws i = do
  w ← word_at ws i
  expression_in t w i

-- `A name function left right`
abbrev pub read_alu : Table → List Bytes → Reading Part
read_alu t ws = do
  n ← name_at ws 1
  f ← expression_at t ws 2
  l ← expression_at t ws 3
  r ← expression_at t ws 4
  _ ← ends_at ws 5
  reads (n, alu f l r)

-- the cases from word i on, words 3 to 130 at most
abbrev pub cases_from : Table → ℕ → List Bytes → Reading (List (Expression Bytes))
cases_from t i [] = reads []
cases_from t i (w ∷ ws) = do
  e ← expression_in t w i
  _ ← judged i (check (nat_le i 130) 16)
  es ← cases_from t (i + 1) ws
  reads (e ∷ es)

-- one case or more: a part letter or a stop straight after select meets 14
abbrev pub has_case : List Bytes → Reading (Unit {0})
has_case [] = lacks 14
has_case (w ∷ ws) = reads tt

-- `S name select case case ..`
abbrev pub read_selector : Table → List Bytes → Reading Part
read_selector t ws = do
  n ← name_at ws 1
  s ← expression_at t ws 2
  _ ← has_case (drop 3 ws)
  cs ← cases_from t 3 (drop 3 ws)
  reads (n, selector s cs)

-- k numbers from word i on
abbrev pub numbers_from : Table → List Bytes → ℕ → ℕ → Reading (List ℕ)
numbers_from t ws i zero = reads []
numbers_from t ws i (suc k) = do
  w ← word_at ws i
  v ← judged i (number_field t w)
  vs ← numbers_from t ws (i + 1) k
  reads (v ∷ vs)

-- the first words of a memory, which stand from word 6 on, and nothing after them
abbrev pub first_words : Table → List Bytes → Size → Reading (List ℕ)
first_words t ws (zeros n) = do
  _ ← claim (some_words n) 5
  _ ← ends_at ws 6
  reads (replicate n 0)
first_words t ws (given n) = do
  _ ← claim (some_words n) 5
  vs ← numbers_from t ws 6 n
  _ ← ends_at ws (6 + n)
  reads vs

-- `M name address data operation size`, and first words
abbrev pub read_memory : Table → List Bytes → Reading Part
read_memory t ws = do
  n ← name_at ws 1
  a ← expression_at t ws 2
  d ← expression_at t ws 3
  o ← expression_at t ws 4
  w ← word_at ws 5
  s ← judged 5 (size_field t w)
  vs ← first_words t ws s
  reads (n, memory a d o vs)

pub data Kind : Type 0 where
  an_alu a_selector a_memory none : Kind

-- A, S or M
abbrev pub kind_of : Bytes → Kind
kind_of w = cond (same w (65 ∷ [])) an_alu (cond (same w (83 ∷ [])) a_selector (cond (same w (77 ∷ [])) a_memory none))

abbrev pub read_kind : Kind → Table → List Bytes → Reading Part
read_kind an_alu t ws = read_alu t ws
read_kind a_selector t ws = read_selector t ws
read_kind a_memory t ws = read_memory t ws
read_kind none t ws = refuses 11 0

-- what the words of one part come to: a function of the macros and of those words alone
abbrev pub read_part : Table → List Bytes → Reading Part
read_part t [] = refuses 11 0
read_part t (w ∷ ws) = read_kind (kind_of w) t (w ∷ ws)
