-- What a text says once all uses of macros in it are put in, whatever its length, and tables in which each macro comes after those that it uses.
use Rattle.std.specs.Prelude.{◌≡◌, ℕ, zero, suc, Bool, true, List, [], map, nat_lt, slice_index_or}
use Rattle.scan.specs.Names.{Bytes, all}
use Rattle.verdict.specs.Circuit.{rank_in}
use Rattle.verdict.specs.Macros.{Piece, plain, macro, pieces, Table, names_of, put_in}

-- the macros with the uses in their texts put in, k deep
abbrev pub full : ℕ → Table → Table
full zero t = t
full (suc k) t = map (λ e. (e.0, put_in (full k t) (pieces e.1))) t

-- a text with the uses in it put in, those in the macros' texts k deep
abbrev pub said : ℕ → Table → Bytes → Bytes
said k t text = put_in (full k t) (pieces text)

-- is this piece no use but of one of the first k names?
abbrev pub is_before : List Bytes → ℕ → Piece → Bool
is_before names k (plain b) = true
is_before names k (macro n) = nat_lt (rank_in names n) k

abbrev pub all_before : List Bytes → ℕ → Bytes → Bool
all_before names k text = all (is_before names k) (pieces text)

-- the text of the macro at a place
abbrev pub text_at : Table → ℕ → Bytes
text_at t p = (slice_index_or t p ([], [])).1

-- each macro uses only macros that stand before it
abbrev pub InOrder : Table → Type 0
InOrder t = (p : ℕ) → all_before (names_of t) p (text_at t p) ≡ true
