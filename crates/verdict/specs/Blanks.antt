-- Blanks, comments and the title mean nothing: what that says of texts.
use Rattle.std.specs.Prelude.{◌≡◌, ℕ, ◌+◌, ◌≤◌, List, ◌∷◌, map, length, slice_index_or}
use Rattle.scan.specs.Names.{Bytes}
use Rattle.scan.specs.Words.{Word, texts, words}
use Rattle.verdict.specs.Verdict.{Verdict, accepted, refused, verdict}

-- where the word of a number stands, counted from 1: 0 is the start of the text, and past the last word comes its end
abbrev pub place_of : Bytes → ℕ → ℕ
place_of t k = slice_index_or (0 ∷ map (λ (w : Word). w.at) (words t)) k (length t)

-- a verdict that tells words by number, with their places in a text: the word refused, or the closing stop
abbrev pub placed : Bytes → Verdict → Verdict
placed t (refused n k) = refused n (place_of t k)
placed t (accepted c n k) = accepted c n (place_of t k + 1)

-- all texts of the same words, at most 131,072 bytes long, get one verdict: the same circuit, or the same refusal at the same word
abbrev pub BlanksMeanNothing : Type 0
BlanksMeanNothing = (ws : List Bytes) → (v : Verdict) × ((t : Bytes) → length t ≤ 131072 → texts (words t) ≡ ws → verdict t ≡ placed t v)
