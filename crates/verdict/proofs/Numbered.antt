-- Each text is read as its words with their numbers for places, and then each number moves to the word's place.
use Rattle.std.proofs.Common.{◌≡◌, ℕ, suc, ◌+◌, ◌-◌, ◌≤◌, List, [], ◌∷◌, map, length, get_or, sym, refl, ap, ◌∙◌, ap₂, arith}
use Rattle.std.proofs.lemmas.Bool.{le-leb}
use Rattle.scan.specs.Names.{Bytes}
use Rattle.scan.specs.Words.{Word, texts, words}
use Rattle.verdict.specs.Sections.{macro_words, sections_from}
use Rattle.verdict.specs.Verdict.{drawn_from, if_short, Verdict, accepted, refused, verdict_of, verdict}
use Rattle.verdict.specs.Blanks.{place_of, placed, BlanksMeanNothing}
use Rattle.verdict.proofs.Moving.{mv, mv_verdict, moved}

-- words with their numbers for places, from k on
abbrev numbered_from : ℕ → List Bytes → List Word
numbered_from k [] = []
numbered_from k (x ∷ xs) = record { at = k; text = x } ∷ numbered_from (suc k) xs

abbrev places_of : List Word → List ℕ
places_of ws = map (λ (w : Word). w.at) ws

-- numbers that move to the words' places
numbered : (g : ℕ → ℕ) (end k : ℕ) (ws : List Word) → ((i : ℕ) → g (k + i) ≡ get_or (places_of ws) i end) → map (mv g) (numbered_from k (texts ws)) ≡ ws
numbered g end k [] h = refl
numbered g end k (w ∷ ws) h =
    let here : k ≡ k + 0 = omega arith in
    let next : (i : ℕ) → suc k + i ≡ k + suc i = λ i. omega arith in
    ap₂ (λ (p : ℕ) (later : List Word). record { at = p; text = w.text } ∷ later) (ap g here ∙ h 0) (numbered g end (suc k) ws (λ i. ap g (next i) ∙ h (suc i)))

past : (ws : List Word) (end : ℕ) → get_or (places_of ws) (length (texts ws)) end ≡ end
past [] end = refl
past (w ∷ ws) end = past ws end

-- the verdict on words whose places are their numbers, from 1 on
abbrev by_number : List Bytes → Verdict
by_number xs = verdict_of (drawn_from (sections_from (suc (length xs)) (macro_words (numbered_from 1 xs))))

-- the number of the closing stop, in place of the one after it
abbrev at_stop : Verdict → Verdict
at_stop (refused n k) = refused n k
at_stop (accepted c n k) = accepted c n (k - 1)

placed_stop : (t : Bytes) (v : Verdict) → mv_verdict (place_of t) refl v ≡ placed t (at_stop v)
placed_stop t (refused n k) = refl
placed_stop t (accepted c n k) = refl

text_placed : (t : Bytes) → length t ≤ 131072 → verdict t ≡ placed t (at_stop (by_number (texts (words t))))
text_placed t l =
    let after_first : (i : ℕ) → 1 + i ≡ suc i = λ i. omega arith in
    let same-words : map (mv (place_of t)) (numbered_from 1 (texts (words t))) ≡ words t = numbered (place_of t) (length t) 1 (words t) (λ i. ap (place_of t) (after_first i)) in
    let same_end : place_of t (suc (length (texts (words t)))) ≡ length t = past (words t) (length t) in
    ap (λ b. verdict_of (if_short b t)) (le-leb (length t) 131072 l)
    ∙ (ap₂ (λ (end : ℕ) (ws : List Word). verdict_of (drawn_from (sections_from end (macro_words ws)))) (sym same_end) (sym same-words)
    ∙ (moved (place_of t) refl (suc (length (texts (words t)))) (numbered_from 1 (texts (words t)))
    ∙ placed_stop t (by_number (texts (words t)))))

pub blanks_mean_nothing : BlanksMeanNothing
blanks_mean_nothing ws = (at_stop (by_number ws), λ t l e. text_placed t l ∙ ap (λ xs. placed t (at_stop (by_number xs))) e)
