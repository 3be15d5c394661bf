-- The verdict cuts words where the walks over them end: after the macros, at a stop, and before a part letter.
use Rattle.std.proofs.Common.{◌≡◌, ℕ, suc, ◌+◌, ◌-◌, ◌<◌, ◌≤◌, Bool, true, false, cond, List, [], ◌∷◌, length, get_or, take, drop, Some, None, sym, refl, ap, ◌∙◌, ap₂, arith, length-drop}
use Rattle.std.specs.Prelude.{position}
use Rattle.std.proofs.lemmas.List.{take-map, drop-map, take_all, drop_all, drop_more, drop-drop}
use Rattle.std.proofs.lemmas.Bool.{and_from}
use Rattle.scan.specs.Words.{Word}
use Rattle.scan.specs.Reading.{word_of}
use Rattle.scan.specs.declared.reader.TextWord.{TextWord}
use Rattle.verdict.specs.Letters.{is_part_letter, is_stop}
use Rattle.verdict.specs.Sections as verdict
use Rattle.verdict.specs.Sections.{Next, word_from, text_end, begins_macro, add_pair, macro_words, add_word, up_to_stop, part_words, sections_from}
use Rattle.verdict.specs.Verdict.{next_word}
use Rattle.verdict.proofs.Steps.{front, back, part_front}
use Rattle.sections.specs.TextWords.{words_of, row_of}
use Rattle.sections.specs.Walks.{twos, odd, marked, macro_count, PartUpTo}
use Rattle.sections.specs.declared.rows.Row.{Row}
use Rattle.sections.proofs.Steps.{plain, until, until_found, until_missed}

-- STOPS

-- a row, from the words before a stop and the words from it on
abbrev closing : ℕ → List Word → List Word → verdict.Row
closing end row [] = record { row = row; next = text_end end; later = [] }
closing end row (w ∷ ws) = record { row = row; next = word_from w.at; later = ws }

closing_add : (end : ℕ) (w : Word) (row rest : List Word) → add_word w (closing end row rest) ≡ closing end (w ∷ row) rest
closing_add end w row [] = refl
closing_add end w row (v ∷ ws) = refl

up_to : (end : ℕ) (ws : List Word) → up_to_stop end ws ≡ closing end (take (until is_stop ws) ws) (drop (until is_stop ws) ws)
up_to end [] = refl
up_to end (w ∷ ws) = by (is_stop w.text) (up_to end ws)
  where
    by : (b : Bool) → up_to_stop end ws ≡ closing end (take (until is_stop ws) ws) (drop (until is_stop ws) ws) →
        cond b (record { row = []; next = word_from w.at; later = ws }) (add_word w (up_to_stop end ws)) ≡ closing end (take (cond b 0 (suc (until is_stop ws))) (w ∷ ws)) (drop (cond b 0 (suc (until is_stop ws))) (w ∷ ws))
    by true h = refl
    by false h = ap (add_word w) h ∙ closing_add end w (take (until is_stop ws) ws) (drop (until is_stop ws) ws)

-- the words from a place on
pub from_place : (ws : List TextWord) (i : ℕ) → i < length ws → drop i (words_of ws) ≡ word_of (get_or ws i plain) ∷ words_of (drop (i + 1) ws)
from_place ws i h = drop-map word_of i ws ∙ ap words_of (drop_more ws i plain h)

pub from_end : (ws : List TextWord) (i : ℕ) → length ws ≤ i → drop i (words_of ws) ≡ []
from_end ws i h = drop-map word_of i ws ∙ ap words_of (drop_all i ws h)

pub up_to_stop_holds : (end : ℕ) (ws : List TextWord) (i : ℕ) → position (λ (w : TextWord). is_stop w.text.now) ws ≡ Some i →
    up_to_stop end (words_of ws) ≡ record { row = words_of (take i ws); next = word_from (get_or ws i plain).place; later = words_of (drop (i + 1) ws) }
up_to_stop_holds end ws i at =
    let found = until_found is_stop ws i at in
    up_to end (words_of ws)
    ∙ (ap (λ n. closing end (take n (words_of ws)) (drop n (words_of ws))) found.1
    ∙ ap₂ (closing end) (take-map word_of i ws) (from_place ws i found.0))

pub up_to_end : (end : ℕ) (ws : List TextWord) → position (λ (w : TextWord). is_stop w.text.now) ws ≡ None → up_to_stop end (words_of ws) ≡ record { row = words_of ws; next = text_end end; later = [] }
up_to_end end ws none =
    let all : length ws ≤ length ws = omega arith in
    up_to end (words_of ws)
    ∙ (ap (λ n. closing end (take n (words_of ws)) (drop n (words_of ws))) (until_missed is_stop ws none)
    ∙ ap₂ (closing end) (take-map word_of (length ws) ws ∙ ap words_of (take_all (length ws) ws all)) (from_end ws (length ws) all))

-- MACROS

abbrev cut_at : ℕ → List Word → verdict.Macros
cut_at n ws = record { pairs = twos (take n ws); half = odd (take n ws); later = drop n ws }

macros_cut : (ws : List Word) → macro_words ws ≡ cut_at (macro_count false ws) ws
macros_cut [] = refl
macros_cut (w ∷ []) = by (begins_macro w.text)
  where
    by : (b : Bool) → cond b (record { pairs = []; half = w ∷ []; later = [] }) (record { pairs = []; half = []; later = w ∷ [] }) ≡ cut_at (cond b 1 0) (w ∷ [])
    by true = refl
    by false = refl
macros_cut (w ∷ t ∷ ws) = by (begins_macro w.text) (macros_cut ws)
  where
    by : (b : Bool) → macro_words ws ≡ cut_at (macro_count false ws) ws →
        cond b (add_pair w t (macro_words ws)) (record { pairs = []; half = []; later = w ∷ t ∷ ws }) ≡ cut_at (cond b (suc (suc (macro_count false ws))) 0) (w ∷ t ∷ ws)
    by true h = ap (add_pair w t) h
    by false h = refl

macros_marked : (ws : List Word) → marked (take (macro_count false ws) ws) ≡ true
macros_marked [] = refl
macros_marked (w ∷ []) = by (begins_macro w.text) refl
  where
    by : (b : Bool) → begins_macro w.text ≡ b → marked (take (cond b 1 0) (w ∷ [])) ≡ true
    by true e = e
    by false e = refl
macros_marked (w ∷ t ∷ ws) = by (begins_macro w.text) refl (macros_marked ws)
  where
    by : (b : Bool) → begins_macro w.text ≡ b → marked (take (macro_count false ws) ws) ≡ true → marked (take (cond b (suc (suc (macro_count false ws))) 0) (w ∷ t ∷ ws)) ≡ true
    by true e h = and_from (begins_macro w.text) (marked (take (macro_count false ws) ws)) e h
    by false e h = refl

pub marked_macros : (ws : List TextWord) (n : ℕ) → n ≡ macro_count false (words_of ws) → marked (words_of (take n ws)) ≡ true
marked_macros ws n e = ap marked (sym (take-map word_of n ws) ∙ ap (λ k. take k (words_of ws)) e) ∙ macros_marked (words_of ws)

-- SECTIONS

abbrev from_rows : List Word → verdict.Row → verdict.Row → verdict.Sections
from_rows ms l p = record { macros = twos ms; half = odd ms; listed = l.row; after_list = l.next; parts = part_words p.row; after_parts = p.next }

-- the macros' words, the row after them and the row after its stop
pub sections_cut : (end : ℕ) (ws : List TextWord) (n : ℕ) (l p : Row) →
    n ≡ macro_count false (words_of ws) → row_of l ≡ up_to_stop end (words_of (drop n ws)) → row_of p ≡ up_to_stop end (words_of l.later.now) →
    from_rows (words_of (take n ws)) (row_of l) (row_of p) ≡ sections_from end (macro_words (words_of ws))
sections_cut end ws n l p counted listed parts =
    let ms : List Word = words_of (take n ws) in
    ap (from_rows ms (row_of l)) parts
    ∙ (ap (λ (r : verdict.Row). from_rows ms r (up_to_stop end r.later)) listed
    ∙ (ap₂ (λ (m later : List Word). sections_from end (record { pairs = twos m; half = odd m; later = later })) (sym (take-map word_of n ws)) (sym (drop-map word_of n ws))
    ∙ (ap (λ k. sections_from end (cut_at k (words_of ws))) counted
    ∙ ap (sections_from end) (sym (macros_cut (words_of ws))))))

-- PARTS

front_is : (ws : List Word) → front ws ≡ take (until is_part_letter ws) ws
front_is [] = refl
front_is (w ∷ ws) = by (is_part_letter w.text) (front_is ws)
  where
    by : (b : Bool) → front ws ≡ take (until is_part_letter ws) ws → cond b [] (w ∷ front ws) ≡ take (cond b 0 (suc (until is_part_letter ws))) (w ∷ ws)
    by true h = refl
    by false h = ap (λ xs. w ∷ xs) h

back_is : (ws : List Word) → back ws ≡ drop (until is_part_letter ws) ws
back_is [] = refl
back_is (w ∷ ws) = by (is_part_letter w.text) (back_is ws)
  where
    by : (b : Bool) → back ws ≡ drop (until is_part_letter ws) ws → cond b (w ∷ ws) (back ws) ≡ drop (cond b 0 (suc (until is_part_letter ws))) (w ∷ ws)
    by true h = refl
    by false h = h

part_cut : (w : Word) (ws : List Word) → part_words (w ∷ ws) ≡ (w ∷ take (until is_part_letter ws) ws) ∷ part_words (drop (until is_part_letter ws) ws)
part_cut w ws = part_front w ws ∙ ap₂ (λ (f b : List Word). (w ∷ f) ∷ part_words b) (front_is ws) (back_is ws)

-- the part that begins at a place ends at the next part letter
part_until : (ws : List TextWord) (i r : ℕ) → i < length ws → (i + 1) + until is_part_letter (words_of (drop (i + 1) ws)) ≡ r →
    part_words (drop i (words_of ws)) ≡ take (r - i) (drop i (words_of ws)) ∷ part_words (drop r (words_of ws))
part_until ws i r h e =
    let w : Word = word_of (get_or ws i plain) in
    let vs : List Word = words_of (drop (i + 1) ws) in
    let n : ℕ = until is_part_letter vs in
    let size : suc n ≡ r - i = omega arith in
    let part : w ∷ take n vs ≡ take (r - i) (drop i (words_of ws)) = ap (λ k. take k (w ∷ vs)) size ∙ ap (take (r - i)) (sym (from_place ws i h)) in
    let rest : drop n vs ≡ drop r (words_of ws) = ap (drop n) (sym (drop-map word_of (i + 1) ws)) ∙ (drop-drop n (i + 1) (words_of ws) ∙ ap (λ k. drop k (words_of ws)) e) in
    ap part_words (from_place ws i h)
    ∙ (part_cut w vs
    ∙ ap₂ (λ (p d : List Word). p ∷ part_words d) part rest)

pub part_found : (ws : List TextWord) (i n : ℕ) → i < length ws → position (λ (w : TextWord). is_part_letter w.text.now) (drop (i + 1) ws) ≡ Some n → PartUpTo (words_of ws) i (i + 1 + n)
part_found ws i n h at = part_until ws i (i + 1 + n) h (omega (arith, (until_found is_part_letter (drop (i + 1) ws) n at).1))

pub part_missed : (ws : List TextWord) (i : ℕ) → i < length ws → position (λ (w : TextWord). is_part_letter w.text.now) (drop (i + 1) ws) ≡ None → PartUpTo (words_of ws) i (length ws)
part_missed ws i h none = part_until ws i (length ws) h (omega (arith, until_missed is_part_letter (drop (i + 1) ws) none, length-drop (i + 1) ws))

pub next_word_holds : (ws : List TextWord) (i : ℕ) (end : Next) → i < length ws → word_from (get_or ws i plain).place ≡ next_word (part_words (drop i (words_of ws))) end
next_word_holds ws i end h =
    sym (ap (λ xs. next_word (part_words xs) end) (from_place ws i h)
    ∙ ap (λ ps. next_word ps end) (part_cut (word_of (get_or ws i plain)) (words_of (drop (i + 1) ws))))

pub next_end : (ws : List TextWord) (i : ℕ) (end : Next) → length ws ≤ i → end ≡ next_word (part_words (drop i (words_of ws))) end
next_end ws i end h = sym (ap (λ xs. next_word (part_words xs) end) (from_end ws i h))
