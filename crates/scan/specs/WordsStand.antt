-- What the words of a text are, without a scan: pieces of it, in order, which hold every byte that is no blank and in no comment.
use Rattle.std.specs.Prelude.{◌≡◌, ℕ, ◌+◌, ◌<◌, ◌≤◌, ◌⊎◌, List, [], ◌∷◌, length, take, drop, ◌≢◌, slice_index}
use Rattle.std.specs.List.{AllByRecursion}
use Rattle.scan.specs.Names.{Bytes}
use Rattle.scan.specs.Words.{Word, words_after}

-- a tab, a line feed, a carriage return or a space
abbrev pub IsBlank : ℕ → Type 0
IsBlank b = (b ≡ 9) ⊎ ((b ≡ 10) ⊎ ((b ≡ 13) ⊎ (b ≡ 32)))

-- the byte at k belongs to a comment: a place from `from` on holds `{`, and from there up to k stands no `}`
abbrev pub Commented : Bytes → ℕ → ℕ → Type 0
Commented t from k = (o : ℕ) × (from ≤ o) × (o ≤ k) × (slice_index t o ≡ 123) × ((j : ℕ) → o ≤ j → j < k → slice_index t j ≢ 125)

-- a word is not empty, it stands in the text at its place, and none of its bytes is blank or begins a comment
pub record Stands (t : Bytes) (w : Word) : Type 0 where
  pub some : 0 < length w.text
  pub within : w.at + length w.text ≤ length t
  pub piece : w.text ≡ take (length w.text) (drop w.at t)
  pub bytes : (k : ℕ) → k < length w.text → (IsBlank (slice_index w.text k) → ⊥) × (slice_index w.text k ≢ 123)

-- each word begins where the one before it ends, or later, and the first at p or later
abbrev pub Ascending : ℕ → List Word → Type 0
Ascending p [] = Unit {0}
Ascending p (w ∷ ws) = (p ≤ w.at) × Ascending (w.at + length w.text) ws

-- the byte at k is one of this word's
abbrev pub Holds : Word → ℕ → Type 0
Holds w k = (w.at ≤ k) × (k < w.at + length w.text)

-- the byte at k is in one of these words
abbrev pub InSome : List Word → ℕ → Type 0
InSome [] k = ⊥
InSome (w ∷ ws) k = Holds w k ⊎ InSome ws k

pub record Found (t : Bytes) (from : ℕ) (ws : List Word) : Type 0 where
  pub each : AllByRecursion (Stands t) ws
  pub ascending : Ascending from ws
  -- every byte from there on that is in no word is blank or belongs to a comment
  pub rest : (k : ℕ) → from ≤ k → k < length t → InSome ws k ⊎ (IsBlank (slice_index t k) ⊎ Commented t from k)
  -- and no byte of a word belongs to a comment
  pub apart : (k : ℕ) → InSome ws k → Commented t from k → ⊥

abbrev pub WordsStand : Type 0
WordsStand = (t : Bytes) (from : ℕ) → Found t from (words_after t from)
