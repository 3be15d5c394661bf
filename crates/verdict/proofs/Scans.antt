-- A text of words that each have one blank after them: its words are those, at their places; and its sections.
use Rattle.std.proofs.Common.{◌≡◌, ℕ, suc, ◌+◌, ◌-◌, ◌<◌, ◌≤◌, Bool, true, false, cond, List, [], ◌∷◌, ◌++◌, map, length, take, drop, sym, refl, ap, ◌∙◌, subst, ap₂, append_assoc, arith, length-append}
use Rattle.std.proofs.lemmas.Bool.Decides.{nat_tests}
use Rattle.std.proofs.lemmas.Bool.{cond-true, cond-false}
use Rattle.std.proofs.lemmas.List.{take_at, drop-drop, drop_at}
use Rattle.scan.specs.Names.{Bytes}
use Rattle.scan.specs.Words.{Word, texts, class_of, cut, between, word, after, ended, words_from}
use Rattle.scan.specs.declared.scanner.Class.TheVariants.{Blank, Other}
use Rattle.verdict.specs.Letters.{is_part_letter, is_stop}
use Rattle.verdict.specs.Sections.{word_from, begins_macro, macro_words, add_word, up_to_stop, add_to_part, part_words}
use Rattle.verdict.specs.Listing.{joined_by, in_lines}
use Rattle.verdict.specs.Sound.{All}

-- bytes from lo to 122
abbrev pub Within : ℕ → Bytes → Type 0
Within lo w = All (λ b. (lo ≤ b) × (b ≤ 122)) w

pub within_append : (lo : ℕ) (v w : Bytes) → Within lo v → Within lo w → Within lo (v ++ w)
within_append lo [] w h g = g
within_append lo (b ∷ v) w h g = (h.0, within_append lo v w h.1 g)

pub within_less : (lo lo' : ℕ) (w : Bytes) → lo' ≤ lo → Within lo w → Within lo' w
within_less lo lo' [] l h = tt
within_less lo lo' (b ∷ w) l h = ((omega (arith, h.0.0), h.0.1), within_less lo lo' w l h.1)

class_other : (b : ℕ) → 33 ≤ b → b ≤ 122 → class_of b ≡ Other
class_other b l u = grind (arith, nat_tests)

-- each word with the place at which it begins, where one byte stands after each
abbrev pub placed : ℕ → List Bytes → List Word
placed p [] = []
placed p (w ∷ ws) = record { at = p; text = w } ∷ placed (p + (length w + 1)) ws

-- their bytes, with the one after each
abbrev pub spans : List Bytes → ℕ
spans [] = 0
spans (w ∷ ws) = (length w + 1) + spans ws

-- one byte or more, none of which parts words
pub record Solid (w : Bytes) : Type 0 where
  pub some_byte : 0 < length w
  pub bytes : Within 33 w

pub data Spaced : List Bytes → Bytes → Type 0 where
  none : Spaced [] []
  one : (w : Bytes) (s : ℕ) {ws : List Bytes} {bs : Bytes} → Solid w → class_of s ≡ Blank → Spaced ws bs → Spaced (w ∷ ws) (w ++ (s ∷ bs))

-- inside a word
in_word : (t : Bytes) (from p : ℕ) (w : Bytes) (s : ℕ) (bs : Bytes) → Within 33 w → class_of s ≡ Blank →
    words_from t (word from) p (w ++ (s ∷ bs)) ≡ cut t from (p + length w) ∷ words_from t between (p + (length w + 1)) bs
in_word t from p [] s bs h k =
    ap (λ c. ended t (word from) c p (words_from t (after (word from) c p) (p + 1) bs)) k
    ∙ ap (λ q. cut t from q ∷ words_from t between (p + 1) bs) (let e : p ≡ p + 0 = omega arith in e)
in_word t from p (b ∷ w) s bs h k =
    ap (λ c. ended t (word from) c p (words_from t (after (word from) c p) (p + 1) (w ++ (s ∷ bs)))) (class_other b h.0.0 h.0.1)
    ∙ (in_word t from (p + 1) w s bs h.1 k
    ∙ ap₂ (λ x y. cut t from x ∷ words_from t between y bs) (let e : (p + 1) + length w ≡ p + suc (length w) = omega arith in e) (let e : (p + 1) + (length w + 1) ≡ p + (suc (length w) + 1) = omega arith in e))

one_word : (t : Bytes) (p : ℕ) (w : Bytes) (s : ℕ) (bs : Bytes) → Solid w → class_of s ≡ Blank →
    words_from t between p (w ++ (s ∷ bs)) ≡ cut t p (p + length w) ∷ words_from t between (p + (length w + 1)) bs
one_word t p [] s bs h k = absurd (let z : 0 < 0 = h.some_byte in omega arith)
one_word t p (b ∷ w) s bs h k =
    ap (λ c. ended t between c p (words_from t (after between c p) (p + 1) (w ++ (s ∷ bs)))) (class_other b h.bytes.0.0 h.bytes.0.1)
    ∙ (in_word t p (p + 1) w s bs h.bytes.1 k
    ∙ ap₂ (λ x y. cut t p x ∷ words_from t between y bs) (let e : (p + 1) + length w ≡ p + suc (length w) = omega arith in e) (let e : (p + 1) + (length w + 1) ≡ p + (suc (length w) + 1) = omega arith in e))

cut_is : (t : Bytes) (p : ℕ) (w rest : Bytes) → drop p t ≡ w ++ rest → cut t p (p + length w) ≡ record { at = p; text = w }
cut_is t p w rest e =
    ap (λ (x : Bytes). record { at = p; text = x })
    (ap₂ take (let a : (p + length w) - p ≡ length w = omega arith in a) e ∙ take_at w rest (length w) refl)

drop_on : (t : Bytes) (p : ℕ) (w : Bytes) (s : ℕ) (bs : Bytes) → drop p t ≡ w ++ (s ∷ bs) → drop (p + (length w + 1)) t ≡ bs
drop_on t p w s bs e =
    sym (drop-drop (length w + 1) p t)
    ∙ (ap (drop (length w + 1)) (e ∙ sym (append_assoc w (s ∷ []) bs))
    ∙ drop_at (w ++ (s ∷ [])) bs (length w + 1) (length-append w (s ∷ [])))

pub scan : (t : Bytes) (p : ℕ) {ws : List Bytes} {bs : Bytes} → Spaced ws bs → drop p t ≡ bs → words_from t between p bs ≡ placed p ws
scan t p none e = refl
scan t p (one w s {ws} {bs} h k more) e =
    one_word t p w s bs h k
    ∙ ap₂ (λ (x : Word) (xs : List Word). x ∷ xs) (cut_is t p w (s ∷ bs) e) (scan t (p + (length w + 1)) more (drop_on t p w s bs e))

pub spaced_length : {ws : List Bytes} {bs : Bytes} → Spaced ws bs → length bs ≡ spans ws
spaced_length none = refl
spaced_length (one w s {ws} {bs} h k more) = omega (arith, length-append w (s ∷ bs), spaced_length more)

pub spaced_append : {ws vs : List Bytes} {bs cs : Bytes} → Spaced ws bs → Spaced vs cs → Spaced (ws ++ vs) (bs ++ cs)
spaced_append none g = g
spaced_append {vs} {cs} (one w s {ws} {bs} h k more) g = subst (λ (x : Bytes). Spaced (w ∷ (ws ++ vs)) x) (sym (append_assoc w (s ∷ bs) cs)) (one w s h k (spaced_append more g))

-- words on one line
pub spaced_line : (w : Bytes) (ws : List Bytes) → All Solid (w ∷ ws) → Spaced (w ∷ ws) (joined_by 32 (w ∷ ws) ++ (10 ∷ []))
spaced_line w [] h = one w 10 h.0 refl none
spaced_line w (v ∷ ws) h = subst (λ (x : Bytes). Spaced (w ∷ v ∷ ws) x) (sym (append_assoc w (32 ∷ joined_by 32 (v ∷ ws)) (10 ∷ []))) (one w 32 h.0 refl (spaced_line v ws h.1))

pub in_lines_append : (ls ms : List Bytes) → in_lines (ls ++ ms) ≡ in_lines ls ++ in_lines ms
in_lines_append [] ms = refl
in_lines_append (l ∷ ls) ms = ap (λ x. l ++ (10 ∷ x)) (in_lines_append ls ms) ∙ sym (append_assoc l (10 ∷ in_lines ls) (in_lines ms))

pub in_lines_first : (l : Bytes) (ls : List Bytes) → (l ++ (10 ∷ [])) ++ in_lines ls ≡ in_lines (l ∷ ls)
in_lines_first l ls = append_assoc l (10 ∷ []) (in_lines ls)

-- PLACES

pub placed_append : (p : ℕ) (ws vs : List Bytes) → placed p (ws ++ vs) ≡ placed p ws ++ placed (p + spans ws) vs
placed_append p [] vs = ap (λ q. placed q vs) (let e : p ≡ p + 0 = omega arith in e)
placed_append p (w ∷ ws) vs =
    ap (λ (xs : List Word). record { at = p; text = w } ∷ xs)
    (placed_append (p + (length w + 1)) ws vs
    ∙ ap (λ q. placed (p + (length w + 1)) ws ++ placed q vs) (let e : (p + (length w + 1)) + spans ws ≡ p + ((length w + 1) + spans ws) = omega arith in e))

pub texts_placed : (p : ℕ) (ws : List Bytes) → texts (placed p ws) ≡ ws
texts_placed p [] = refl
texts_placed p (w ∷ ws) = ap (λ x. w ∷ x) (texts_placed (p + (length w + 1)) ws)

pub spans_append : (ws vs : List Bytes) → spans (ws ++ vs) ≡ spans ws + spans vs
spans_append [] vs = omega arith
spans_append (w ∷ ws) vs = omega (arith, spans_append ws vs)

-- SECTIONS

-- a property of each word's text
abbrev pub Texts : (Bytes → Type 0) → List Word → Type 0
Texts P ws = All (λ (w : Word). P w.text) ws

pub texts_of : (P : Bytes → Type 0) (p : ℕ) (ws : List Bytes) → All P ws → Texts P (placed p ws)
texts_of P p [] h = tt
texts_of P p (w ∷ ws) h = (h.0, texts_of P (p + (length w + 1)) ws h.1)

pub no_macros : (ws : List Word) → Texts (λ w. begins_macro w ≡ false) ws → macro_words ws ≡ record { pairs = []; half = []; later = ws }
no_macros [] h = refl
no_macros (w ∷ []) h = cond-false (begins_macro w.text) _ _ h.0
no_macros (w ∷ t ∷ ws) h = cond-false (begins_macro w.text) _ _ h.0

pub up_to : (end : ℕ) (xs : List Word) (w : Word) (rest : List Word) → Texts (λ x. is_stop x ≡ false) xs → is_stop w.text ≡ true →
    up_to_stop end (xs ++ (w ∷ rest)) ≡ record { row = xs; next = word_from w.at; later = rest }
up_to end [] w rest h s = cond-true (is_stop w.text) _ _ s
up_to end (x ∷ xs) w rest h s = cond-false (is_stop x.text) _ _ h.0 ∙ ap (add_word x) (up_to end xs w rest h.1 s)

-- parts, without the words' places
abbrev opens : List Bytes → Bool
opens [] = false
opens (w ∷ ws) = is_part_letter w

abbrev add_to : Bytes → List (List Bytes) → List (List Bytes)
add_to w [] = (w ∷ []) ∷ []
add_to w (g ∷ gs) = cond (opens g) ((w ∷ []) ∷ g ∷ gs) ((w ∷ g) ∷ gs)

abbrev cut_texts : List Bytes → List (List Bytes)
cut_texts [] = []
cut_texts (w ∷ ws) = add_to w (cut_texts ws)

texts_add : (w : Word) (ps : List (List Word)) → map texts (add_to_part w ps) ≡ add_to w.text (map texts ps)
texts_add w [] = refl
texts_add w ([] ∷ ps) = refl
texts_add w ((v ∷ p) ∷ ps) = by (is_part_letter v.text)
  where
    by : (b : Bool) → map texts (cond b ((w ∷ []) ∷ (v ∷ p) ∷ ps) ((w ∷ v ∷ p) ∷ ps)) ≡ cond b ((w.text ∷ []) ∷ texts (v ∷ p) ∷ map texts ps) ((w.text ∷ texts (v ∷ p)) ∷ map texts ps)
    by true = refl
    by false = refl

texts_cut : (ws : List Word) → map texts (part_words ws) ≡ cut_texts (texts ws)
texts_cut [] = refl
texts_cut (w ∷ ws) = texts_add w (part_words ws) ∙ ap (add_to w.text) (texts_cut ws)

-- a part letter, and then words that are none
pub record Whole (g : List Bytes) : Type 0 where
  pub letter : Bytes
  pub inner : List Bytes
  pub is : letter ∷ inner ≡ g
  pub opens_part_holds : is_part_letter letter ≡ true
  pub none_inside : All (λ w. is_part_letter w ≡ false) inner

abbrev pub flat : List (List Bytes) → List Bytes
flat [] = []
flat (g ∷ gs) = g ++ flat gs

-- each begins with a part letter
add_whole : (w : Bytes) (gs : List (List Bytes)) → All Whole gs → add_to w gs ≡ (w ∷ []) ∷ gs
add_whole w [] h = refl
add_whole w (g ∷ gs) h = cond-true (opens g) _ _ (subst (λ x. opens x ≡ true) h.0.is h.0.opens_part_holds)

cut_inner : (w : Bytes) (inner : List Bytes) (rest : List Bytes) (gs : List (List Bytes)) → All (λ v. is_part_letter v ≡ false) inner → cut_texts rest ≡ gs → All Whole gs →
    cut_texts ((w ∷ inner) ++ rest) ≡ (w ∷ inner) ∷ gs
cut_inner w [] rest gs h e g = ap (add_to w) e ∙ add_whole w gs g
cut_inner w (v ∷ inner) rest gs h e g = ap (add_to w) (cut_inner v inner rest gs h.1 e g) ∙ cond-false (is_part_letter v) _ _ h.0

cut_flat : (gs : List (List Bytes)) → All Whole gs → cut_texts (flat gs) ≡ gs
cut_flat [] h = refl
cut_flat (g ∷ gs) h =
    subst (λ x. cut_texts (x ++ flat gs) ≡ x ∷ gs) h.0.is (cut_inner h.0.letter h.0.inner (flat gs) gs h.0.none_inside (cut_flat gs h.1) h.1)

pub parts_flat : (p : ℕ) (gs : List (List Bytes)) → All Whole gs → map texts (part_words (placed p (flat gs))) ≡ gs
parts_flat p gs h = texts_cut (placed p (flat gs)) ∙ (ap cut_texts (texts_placed p (flat gs)) ∙ cut_flat gs h)
