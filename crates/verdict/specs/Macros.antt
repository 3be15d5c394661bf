-- Macros, and the fields of parts with their macros put in.
use Rattle.std.specs.Prelude.{ℕ, zero, suc, Bool, true, false, cond, ◌&&◌, List, [], ◌∷◌, ◌++◌, map, length, take, ◌==◌, nat_le}
use Rattle.scan.specs.Names.{Bytes, is_letter, is_letter_or_digit, same, among, all}
use Rattle.numbers.specs.Judged.{Judged, good, bad, ◌>>=◌, check}
use Rattle.numbers.specs.Numbers.{number}
use Rattle.verdict.specs.Items.{Expression, expression}

-- a text is bytes that stand for themselves, and uses of macros
pub data Piece : Type 0 where
  plain : ℕ → Piece
  macro : Bytes → Piece

-- the longest run of letters and digits at the start
abbrev pub run : Bytes → Bytes
run [] = []
run (b ∷ bs) = cond (is_letter_or_digit b) (b ∷ run bs) []

-- does the byte b open a use: `~` with a letter after it?
abbrev pub opens_use : ℕ → Bytes → Bool
opens_use b [] = false
opens_use b (c ∷ cs) = b == 126 && is_letter c

-- the name of a use that the byte before bs opens, and nothing if it opens none
abbrev pub used_name : Bool → Bytes → Bytes
used_name true bs = run bs
used_name false bs = []

abbrev pub piece_at : Bool → ℕ → Bytes → Piece
piece_at true b name = macro name
piece_at false b name = plain b

-- the pieces of a text whose first k bytes belong to the use before it
abbrev pub pieces_from : ℕ → Bytes → List Piece
pieces_from k [] = []
pieces_from (suc k) (b ∷ bs) = pieces_from k bs
pieces_from zero (b ∷ bs) = piece_at (opens_use b bs) b (used_name (opens_use b bs) bs) ∷ pieces_from (length (used_name (opens_use b bs) bs)) bs

abbrev pub pieces : Bytes → List Piece
pieces t = pieces_from 0 t

-- names with their texts
abbrev pub Table : Type 0
Table = List (Bytes × Bytes)

abbrev pub names_of : {X : Type 0} → List (Bytes × X) → List Bytes
names_of es = map (λ e. e.0) es

-- the text of a name, and nothing for an unknown one
abbrev pub text_of : Table → Bytes → Bytes
text_of [] n = []
text_of (e ∷ es) n = cond (same e.0 n) e.1 (text_of es n)

abbrev pub put_in : Table → List Piece → Bytes
put_in t [] = []
put_in t (plain b ∷ ps) = b ∷ put_in t ps
put_in t (macro n ∷ ps) = text_of t n ++ put_in t ps

-- the first 1,024 bytes of a text with the uses in it put in: one more than a field may have
abbrev pub filled : Table → Bytes → Bytes
filled t text = take 1024 (put_in t (pieces text))

-- the macros with the uses in their texts put in, k deep
abbrev pub deep : ℕ → Table → Table
deep zero t = t
deep (suc k) t = let d = deep k t in map (λ e. (e.0, filled d e.1)) t

-- the macros with all uses put in: no row of uses without a circle is longer than the table
abbrev pub finished : Table → Table
finished t = deep (length t) t

-- is this piece no use of an unknown macro?
abbrev pub is_known : List Bytes → Piece → Bool
is_known names (plain b) = true
is_known names (macro n) = among names n

abbrev pub all_known : List Bytes → Bytes → Bool
all_known names text = all (is_known names) (pieces text)

-- the macros that pieces use
abbrev pub uses_of : List Piece → List Bytes
uses_of [] = []
uses_of (plain b ∷ ps) = uses_of ps
uses_of (macro n ∷ ps) = n ∷ uses_of ps

-- does the text use the macro n?
abbrev pub uses_macro : Bytes → Bytes → Bool
uses_macro n text = among (uses_of (pieces text)) n

-- a field with its macros put in: 18 for an unknown one, then 16 for more than 1,023 bytes
abbrev pub field : Table → Bytes → Judged Bytes
field t w = do
  _ ← check (all_known (names_of t) w) 18
  _ ← check (nat_le (length (filled t w)) 1023) 16
  good (filled t w)

abbrev pub expression_field : Table → Bytes → Judged (Expression Bytes)
expression_field t w = do
  f ← field t w
  expression f

abbrev pub number_field : Table → Bytes → Judged ℕ
number_field t w = do
  f ← field t w
  number f

-- n zero words, or n words that follow
pub data Size : Type 0 where
  zeros : ℕ → Size
  given : ℕ → Size

-- a number from 1 to 4,096
abbrev pub size_number : Bytes → Judged ℕ
size_number t = do
  n ← number t
  _ ← check (nat_le 1 n && nat_le n 4096) 14
  good n

abbrev pub given_size : Bytes → Judged Size
given_size t = do
  n ← size_number t
  good (given n)

abbrev pub zeros_size : Bytes → Judged Size
zeros_size t = do
  n ← size_number t
  good (zeros n)

-- `n`, or `-n`
abbrev pub size : Bytes → Judged Size
size [] = bad 11
size (c ∷ cs) = cond (c == 45) (given_size cs) (zeros_size (c ∷ cs))

abbrev pub size_field : Table → Bytes → Judged Size
size_field t w = do
  f ← field t w
  size f
