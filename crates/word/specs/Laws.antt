-- Laws of the functions of an ALU and of bits by their places.
use Rattle.std.specs.Prelude.{◌≡◌, ℕ, ◌+◌, ◌-◌, ◌/◌, ◌^◌, ◌<◌, ◌≤◌}
use Rattle.word.specs.Functions.{function_of, apply}
use Rattle.word.specs.Places.{low_bits, width_of, bits_of, behind}
use Rattle.word.specs.declared.functions.Function.{Function}
use Rattle.word.specs.declared.functions.Function.TheVariants.{Zero, Not, Add, Subtract, Shift}

-- what a shift makes of 3, whose two low bits are 1
pub record ShiftCases : Type 0 where
  -- the higher of the two is lost
  pub lost : apply Shift 3 30 ≡ 1073741824
  -- 32 is 0 modulo 32, so that nothing moves
  pub round : apply Shift 3 32 ≡ 3

-- what holds of the functions of an ALU
pub record FunctionLaws : Type 0 where
  -- of words each function makes a word
  pub word : (f : Function) (l r : ℕ) → l < 2 ^ 31 → r < 2 ^ 31 → apply f l r < 2 ^ 31
  -- a number and what is made by turning its bits add up to all bits
  pub turned : (l r : ℕ) → l < 2 ^ 31 → l + apply Not l r ≡ 2 ^ 31 - 1
  -- a difference is the plain one, or that and 2 to the power 31 where it would be below 0
  pub plain : (l r : ℕ) → l < 2 ^ 31 → r ≤ l → apply Subtract l r + r ≡ l
  pub wrapped : (l r : ℕ) → r < 2 ^ 31 → l < r → apply Subtract l r + r ≡ l + 2 ^ 31
  -- a sum undoes a difference
  pub undone : (l r : ℕ) → l < 2 ^ 31 → r < 2 ^ 31 → apply Add (apply Subtract l r) r ≡ l
  -- 11 and the codes above 13 stand for no function
  pub eleven : function_of 11 ≡ Zero
  pub above : (code : ℕ) → 13 < code → function_of code ≡ Zero

-- what holds of bits by their places
pub record PlaceLaws : Type 0 where
  -- the bits 0 through 30 of a word are the word
  pub all : (n : ℕ) → n < 2 ^ 31 → bits_of 0 30 n ≡ n
  -- an item of its width that is put behind others is found in the low bits, and the others above it
  pub item : (there width item : ℕ) → item < 2 ^ width → low_bits width (behind there width item) ≡ item
  pub there : (there width item : ℕ) → item < 2 ^ width → behind there width item / 2 ^ width ≡ there
  -- the widths add up
  pub room : (there before width item : ℕ) → there < 2 ^ before → item < 2 ^ width → behind there width item < 2 ^ (before + width)
  -- a range put behind its upper neighbour gives the range of both
  pub joined : (first middle last n : ℕ)
      → first ≤ middle
      → middle < last
      → behind (bits_of (middle + 1) last n) (width_of first middle) (bits_of first middle n) ≡ bits_of first last n
