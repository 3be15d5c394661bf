-- The definitions word by word, for a reader that goes through the text: a part's words end at the next part letter,
-- and a part's reading is settled step by step.
use Rattle.std.proofs.Common.{◌≡◌, ℕ, Bool, true, false, cond, List, [], ◌∷◌, sym, refl, ap, ◌∙◌}
use Rattle.scan.specs.Words.{Word}
use Rattle.verdict.specs.Letters.{is_part_letter}
use Rattle.verdict.specs.Parts as parts
use Rattle.verdict.specs.Parts.{Reading, reads, refuses, lacks, claims}
use Rattle.verdict.specs.Limits.{Taken, taking}
use Rattle.verdict.specs.Sections.{Next, word_from, text_end, add_to_part, part_words}
use Rattle.verdict.specs.Verdict.{Read, read, refuse, ◌>>=◌, at, place_in, settle}

-- the words before the first part letter, and those from it on
abbrev pub front : List Word → List Word
front [] = []
front (w ∷ ws) = cond (is_part_letter w.text) [] (w ∷ front ws)

abbrev pub back : List Word → List Word
back [] = []
back (w ∷ ws) = cond (is_part_letter w.text) (w ∷ ws) (back ws)

-- a part: its first word, and the words up to the next part letter
pub part_front : (w : Word) (ws : List Word) → part_words (w ∷ ws) ≡ (w ∷ front ws) ∷ part_words (back ws)
part_front w [] = refl
part_front w (v ∷ ws) = ap (add_to_part w) (part_front v ws) ∙ by (is_part_letter v.text) (part_front v ws)
  where
    by : (b : Bool) → part_words (v ∷ ws) ≡ (v ∷ front ws) ∷ part_words (back ws) →
        cond b ((w ∷ []) ∷ (v ∷ front ws) ∷ part_words (back ws)) ((w ∷ v ∷ front ws) ∷ part_words (back ws)) ≡ (w ∷ cond b [] (v ∷ front ws)) ∷ part_words (cond b (v ∷ ws) (back ws))
    by true h = ap (λ ps. (w ∷ []) ∷ ps) (sym h)
    by false h = refl

bind_assoc : {X Y Z : Type 0} (m : Read X) (f : X → Read Y) (g : Y → Read Z) → ((m >>= f) >>= g) ≡ (m >>= (λ x. f x >>= g))
bind_assoc (read x) f g = refl
bind_assoc (refuse n p) f g = refl

bind_same : {X Y : Type 0} (m : Read X) (f g : X → Read Y) → ((x : X) → f x ≡ g x) → (m >>= f) ≡ (m >>= g)
bind_same (read x) f g h = h x
bind_same (refuse n p) f g h = refl

missing_bind : {X Y : Type 0} (n : ℕ) (next : Next) (f : X → Read Y) → Rattle.verdict.specs.Verdict.missing n next ≡ (Rattle.verdict.specs.Verdict.missing n next >>= f)
missing_bind n (word_from p) f = refl
missing_bind n (text_end p) f = refl

-- to settle one reading and then another is to settle the first and then the other
pub settle_bind : {X Y : Type 0} (ws : List Word) (next : Next) (k : Taken) (r : Reading X) (f : X → Reading Y) →
    settle ws next k (parts.◌>>=◌ r f) ≡ (settle ws next k r >>= (λ xk. settle ws next xk.1 (f xk.0)))
settle_bind ws next k (reads x) f = refl
settle_bind ws next k (refuses n i) f = refl
settle_bind ws next k (lacks n) f = missing_bind n next (λ xk. settle ws next xk.1 (f xk.0))
settle_bind ws next k (claims c i r) f =
    bind_same (at (place_in ws i) (taking k c)) _ _ (λ k'. settle_bind ws next k' r f)
    ∙ sym (bind_assoc (at (place_in ws i) (taking k c)) (λ k'. settle ws next k' r) (λ xk. settle ws next xk.1 (f xk.0)))
