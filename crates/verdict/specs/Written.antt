-- What a text says once its macros are put in, whatever its length.
use Rattle.std.specs.Prelude.{◌≡◌, ℕ, true, List, [], ◌∷◌, ◌++◌, map, take}
use Rattle.scan.specs.Names.{Bytes, among}
use Rattle.scan.specs.Words.{Word}
use Rattle.verdict.specs.Macros.{Piece, plain, macro, pieces, Table, names_of, text_of, filled, finished, all_known}
use Rattle.verdict.specs.Circuit.{sorted}
use Rattle.verdict.specs.Verdict.{read, macro_table, macro_places, places, check_macro_names, check_macros}

-- each use in the pieces replaced by that macro's text, in which the uses are replaced in the same way
pub data Writes (t : Table) : List Piece → Bytes → Type 0 where
  end : Writes t [] []
  byte : (b : ℕ) {ps : List Piece} {out : Bytes} → Writes t ps out → Writes t (plain b ∷ ps) (b ∷ out)
  use_of : (n : Bytes) {ps : List Piece} {inner out : Bytes} → among (names_of t) n ≡ true → Writes t (pieces (text_of t n)) inner → Writes t ps out → Writes t (macro n ∷ ps) (inner ++ out)

-- where the macros meet no refusal, a text that uses known ones says one thing, and what a field takes of it are its first 1,024 bytes
abbrev pub MacrosPutIn : Type 0
MacrosPutIn =
    (ms : List (Word × Word)) (half : List Word) → check_macro_names [] (map (λ m. m.0) ms ++ half) ≡ read tt →
    check_macros (sorted (macro_table ms)) (places (macro_places ms)) ≡ read tt →
    (w : Bytes) → all_known (names_of (macro_table ms)) w ≡ true →
    (out : Bytes) × Writes (macro_table ms) (pieces w) out × (filled (finished (macro_table ms)) w ≡ take 1024 out)
    × ((other : Bytes) → Writes (macro_table ms) (pieces w) other → out ≡ other)
