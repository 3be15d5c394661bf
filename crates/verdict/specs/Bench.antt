-- Small cases of numbers, expressions, macros and circles.
use Rattle.std.specs.Prelude.{◌≡◌, ℕ, false, [], ◌∷◌, codes}
use Rattle.scan.specs.Names.{Bytes}
use Rattle.numbers.specs.Judged.{Judged, good, bad, ◌>>=◌}
use Rattle.numbers.specs.Numbers.{number}
use Rattle.verdict.specs.Items.{constant, bits, expression}
use Rattle.verdict.specs.Macros.{plain, macro, pieces, filled, finished}
use Rattle.verdict.specs.Parts.{alu, memory}
use Rattle.verdict.specs.Circuit.{Circuit}
use Rattle.verdict.specs.Verdict.{verdict, accepted, refused}
use Rattle.verdict.specs.Values.{joined}

-- what an expression's text is worth
abbrev pub worth : (Bytes → ℕ) → Bytes → Judged ℕ
worth shown text = do
  e ← expression text
  good (joined shown e)

-- a text with an empty title
abbrev pub untitled : Bytes → Bytes
untitled text = 10 ∷ text

-- an adder of 1 to a memory, and the memory that stores what the adder shows
abbrev pub adder_and_memory : Circuit
adder_and_memory = record {
  listed = (codes "a", false) ∷ (codes "m", false) ∷ [];
  parts =
      (codes "a", alu (constant 4 31 ∷ []) (bits 1 0 30 ∷ []) (constant 1 31 ∷ []))
      ∷ (codes "m", memory (constant 0 31 ∷ []) (bits 0 0 30 ∷ []) (constant 1 31 ∷ []) (0 ∷ []))
      ∷ [];
}

pub record BenchCases : Type 0 where
  -- 5 in three bits, and 3 in two bits behind it, are 23, whatever the parts show
  pub two_items : expression (codes "#101,3.2") ≡ good (constant 5 3 ∷ constant 3 2 ∷ [])
  pub joined_items : (shown : Bytes → ℕ) → worth shown (codes "#101,3.2") ≡ good 23
  -- 16 and 15 and 2 are 33
  pub three_terms : number (codes "^4+$F+%10") ≡ good 33
  -- the highest bit of a word, and the power that is no word
  pub power_30 : number (codes "^30") ≡ good 1073741824
  pub power_31 : number (codes "^31") ≡ bad 13
  -- of all that is wrong in a field the smallest number
  pub malformed_first : expression (codes "^31,q.9.3,#") ≡ bad 11
  pub too_large_first : expression (codes "q.9.3,^31") ≡ bad 13
  -- a use is `~` with a letter and the longest run of letters and digits after it
  pub uses : pieces (codes "a~b1+~~c~2") ≡ plain 97 ∷ macro (codes "b1") ∷ plain 43 ∷ plain 126 ∷ macro (codes "c") ∷ plain 126 ∷ plain 50 ∷ []
  pub put_in_place : filled (finished ((codes "a", codes "~b+1") ∷ (codes "b", codes "~c") ∷ (codes "c", codes "4") ∷ [])) (codes "~a,~b") ≡ codes "4+1,4"
  -- an ALU that reads itself is refused at its name, the byte 7
  pub itself : verdict (untitled (codes "a . A a 4 a 1 .")) ≡ refused 23 7
  -- by way of a memory there is no circle
  pub by_memory : verdict (untitled (codes "a m . A a 4 m 1 M m 0 a 1 1 .")) ≡ accepted adder_and_memory 2 30
