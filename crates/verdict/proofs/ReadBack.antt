-- The listing of a sound circuit is read back as it: its words are those that were written, each part's words say that part, and no check refuses them.
use Rattle.std.proofs.Common.{◌≡◌, ℕ, ◌+◌, ◌-◌, ◌*◌, ◌<◌, ◌≤◌, Bool, true, false, not, ◌⊎◌, List, [], ◌∷◌, ◌++◌, map, length, get_or, sym, refl, ap, ◌∙◌, subst, ap₂, inl, inr, arith, length-append}
use mathlib.Core.List.{map-map}
use lib.ListN.{length-map}
use Rattle.std.proofs.lemmas.Bool.{ne_eqb, eq-eqb, le-leb, not_from_true, not_from_false, cond-true, cond-false}
use Rattle.std.proofs.lemmas.List.{append-nil, take_at, get_or_push}
use Rattle.scan.specs.Names.{Bytes, is_name, among}
use Rattle.scan.specs.Words.{Word, texts, words}
use Rattle.numbers.specs.Judged.{good}
use Rattle.numbers.specs.Numbers.{sum}
use Rattle.verdict.specs.Letters.{is_part_letter, is_stop}
use Rattle.verdict.specs.Macros.{Table, names_of}
use Rattle.verdict.specs.Parts.{Body, Part, read_part}
use Rattle.verdict.specs.Limits.{new_name, nothing}
use Rattle.verdict.specs.Sections.{word_from, macro_words, Row, up_to_stop, part_words, Sections, sections_from, sections, begins_macro}
use Rattle.verdict.specs.Circuit.{sorted, ranked, rank_body, Circuit, circuit_of}
use Rattle.verdict.specs.Verdict.{read, refuse, refuse_first, places, entry, ends_in_star, check_list, read_parts, list_places, part_places, check_among, check_expressions, check_whole, Drawn, drawn_parts, drawn_from, if_short, drawn, accepted, verdict}
use Rattle.verdict.specs.Lines.{SetsInOrder, Ordered, Circular}
use Rattle.verdict.specs.Listing.{joined_by, part_texts, entry_text, in_lines, listing}
use Rattle.verdict.specs.Sound.{All, ProperName, Ascending, SoundBody, item_count, word_count, Sound, ReadsBack}
use Rattle.verdict.proofs.Inversions.{check_true}
use Rattle.verdict.proofs.Readings.{made, Apart, read_parts_made}
use Rattle.verdict.proofs.Claims.{name_to, AllRoom}
use Rattle.verdict.proofs.Ranks.{read_parts_names, sort_names}
use Rattle.verdict.proofs.Alike.{read_bind, Each, ListNew, new_list, PartReads, all_claims, room_parts, PartKnown, known_expressions}
use Rattle.verdict.proofs.Accepted.{list_names, part_names}
use Rattle.verdict.proofs.Circular.{circular_exactly}
use Rattle.verdict.proofs.Scans.{within_append, within_less, placed, spans, Solid, Spaced, none, one, scan, spaced_length, spaced_append, spaced_line, in_lines_append, in_lines_first, placed_append, texts_placed, spans_append, texts_of, no_macros, up_to, Whole, flat, parts_flat}
use Rattle.verdict.proofs.Figures.{all_at, name_bytes}
use Rattle.verdict.proofs.Retold.{gives_reads, gives_claims, gives_made, gives_known, tell_body, part_gives, Fair, no_macro, long_fair, name_fair, letter_of, inner_of, texts_are, letter_opens, letter_solid, letter_no_stop, inner_fair, part_spans}
use Rattle.verdict.proofs.Unranked.{ascending_once, once_apart, all_among, all_map, sort_ascending, sorted_ascending, among_sort, all_sort, rank_body_holds, claims_known, all_room, claims_of_all, all_names, all_items, all_words}

all_append : {X : Type 0} (P : X → Type 0) (xs ys : List X) → All P xs → All P ys → All P (xs ++ ys)
all_append P [] ys h g = g
all_append P (x ∷ xs) ys h g = (h.0, all_append P xs ys h.1 g)

abbrev dot : Bytes
dot = 46 ∷ []

dot_solid : Solid dot
dot_solid = record { some_byte = omega arith; bytes = ((omega arith, omega arith), tt) }

-- THE LIST

entry_fair : (n : Bytes) (b : Bool) → ProperName n → Fair (entry_text (n, b))
entry_fair n true h =
    let w = name_bytes n h.formed in
    long_fair (n ++ (42 ∷ [])) (omega (arith, length-append n (42 ∷ []), ap length w.is)) (within_append 33 n (42 ∷ []) (within_less 48 33 n (omega arith) w.within) ((omega arith, omega arith), tt))
entry_fair n false h = subst Fair (sym (append-nil n)) (name_fair n h)

no_star : (n : Bytes) → ProperName n → entry n ≡ (n, false)
no_star n h =
    let w = name_bytes n h.formed in
    let l : length n - 1 < length n = omega (arith, ap length w.is) in
    let b = all_at (λ b. (48 ≤ b) × (b ≤ 122)) n 0 (length n - 1) w.within l in
    cond-false (ends_in_star n) _ _ (ne_eqb (get_or n (length n - 1) 0) 42 (λ e. omega (arith, b.0)))

entry_is : (n : Bytes) (b : Bool) → ProperName n → entry (entry_text (n, b)) ≡ (n, b)
entry_is n true h =
    let w : Bytes = n ++ (42 ∷ []) in
    let l : length n ≡ length w - 1 = omega (arith, length-append n (42 ∷ [])) in
    cond-true (ends_in_star w) _ _ (eq-eqb (get_or w (length w - 1) 0) 42 (get_or_push n 42 0 (length w - 1) l))
    ∙ ap (λ (x : Bytes). (x, true)) (take_at n (42 ∷ []) (length w - 1) l)
entry_is n false h = ap entry (append-nil n) ∙ no_star n h

entries_are : (es : List (Bytes × Bool)) → All ProperName (names_of es) → map entry (map entry_text es) ≡ es
entries_are [] h = refl
entries_are (e ∷ es) h = ap₂ (λ (x : Bytes × Bool) (xs : List (Bytes × Bool)). x ∷ xs) (entry_is e.0 e.1 h.0) (entries_are es h.1)

entries_names : (es : List (Bytes × Bool)) → All ProperName (names_of es) → map (λ x. (entry x).0) (map entry_text es) ≡ names_of es
entries_names [] h = refl
entries_names (e ∷ es) h = ap₂ (λ (x : Bytes) (xs : List Bytes). x ∷ xs) (ap (λ (x : Bytes × Bool). x.0) (entry_is e.0 e.1 h.0)) (entries_names es h.1)

entries_fair : (es : List (Bytes × Bool)) → All ProperName (names_of es) → All Fair (map entry_text es)
entries_fair [] h = tt
entries_fair (e ∷ es) h = (entry_fair e.0 e.1 h.0, entries_fair es h.1)

entry_span : (n : Bytes) (b : Bool) → ProperName n → length (entry_text (n, b)) ≤ 17
entry_span n true h = omega (arith, length-append n (42 ∷ []), (name_bytes n h.formed).short)
entry_span n false h = omega (arith, length-append n [], (name_bytes n h.formed).short)

entries_spans : (es : List (Bytes × Bool)) → All ProperName (names_of es) → spans (map entry_text es) ≤ 18 * length es
entries_spans [] h = omega arith
entries_spans (e ∷ es) h = omega (arith, entry_span e.0 e.1 h.0, entries_spans es h.1)

entries_new : (met : List Bytes) (es : List (Bytes × Bool)) → All ProperName (names_of es) → Apart met (names_of es) → length met + length es ≤ 64 → ListNew met (map entry_text es)
entries_new met [] h a l = tt
entries_new met (e ∷ es) h a l =
    let f = entry_fair e.0 e.1 h.0 in
    let i : e.0 ≡ (entry (entry_text e)).0 = sym (ap (λ (x : Bytes × Bool). x.0) (entry_is e.0 e.1 h.0)) in (
      check_true (not (is_part_letter (entry_text e))) 11 (not_from_false (is_part_letter (entry_text e)) f.no_letter),
      (
        subst (λ (n : Bytes). new_name met n ≡ good tt) i (name_to met e.0 (record { formed = h.0.formed; room = omega arith; unmet = a.0 })),
        subst (λ (n : Bytes). ListNew (n ∷ met) (map entry_text es)) i (entries_new (e.0 ∷ met) es h.1 a.1 (omega arith)),
      ),
    )

spaced_lines : (ws : List Bytes) → All Solid ws → Spaced ws (in_lines ws)
spaced_lines [] h = none
spaced_lines (w ∷ ws) h = one w 10 h.0 refl (spaced_lines ws h.1)

-- THE PARTS

module _ (names : List Bytes) (proper : All ProperName names) where
  abbrev pub words_of : Bytes × Body ℕ → List Bytes
  words_of p = part_texts names p.0 p.1

  abbrev pub SoundPart : Bytes × Body ℕ → Type 0
  SoundPart p = ProperName p.0 × SoundBody (length names) p.1

  abbrev pub tell_part : Bytes × Body ℕ → Part
  tell_part p = (p.0, tell_body names p.1)

  inner : (p : Bytes × Body ℕ) → SoundPart p → All Fair (inner_of names p.0 p.1)
  inner p h = inner_fair names proper p.0 p.1 h.0 h.1

  solid_part : (p : Bytes × Body ℕ) → SoundPart p → All Solid (letter_of p.1 ∷ inner_of names p.0 p.1)
  solid_part p h = (letter_solid p.1, all_map Fair Solid (inner_of names p.0 p.1) (λ w f. f.solid) (inner p h))

  spaced_part : (p : Bytes × Body ℕ) → SoundPart p → Spaced (words_of p) (joined_by 32 (words_of p) ++ (10 ∷ []))
  spaced_part p h = subst (λ (ws : List Bytes). Spaced ws (joined_by 32 ws ++ (10 ∷ []))) (texts_are names p.0 p.1) (spaced_line (letter_of p.1) (inner_of names p.0 p.1) (solid_part p h))

  pub spaced_parts : (ps : List (Bytes × Body ℕ)) → All SoundPart ps → Spaced (flat (map words_of ps)) (in_lines (map (λ p. joined_by 32 (words_of p)) ps))
  spaced_parts [] h = none
  spaced_parts (p ∷ ps) h =
      subst (λ (x : Bytes). Spaced (words_of p ++ flat (map words_of ps)) x) (in_lines_first (joined_by 32 (words_of p)) (map (λ q. joined_by 32 (words_of q)) ps))
      (spaced_append (spaced_part p h.0) (spaced_parts ps h.1))

  pub whole_parts : (ps : List (Bytes × Body ℕ)) → All SoundPart ps → All Whole (map words_of ps)
  whole_parts [] h = tt
  whole_parts (p ∷ ps) h = (
    record { letter = letter_of p.1; inner = inner_of names p.0 p.1; is = texts_are names p.0 p.1; opens_part_holds = letter_opens p.1; none_inside = all_map Fair (λ w. is_part_letter w ≡ false) (inner_of names p.0 p.1) (λ w f. f.no_letter) (inner p h.0) },
    whole_parts ps h.1,
  )

  pub no_stops : (ps : List (Bytes × Body ℕ)) → All SoundPart ps → All (λ w. is_stop w ≡ false) (flat (map words_of ps))
  no_stops [] h = tt
  no_stops (p ∷ ps) h =
      all_append (λ w. is_stop w ≡ false) (words_of p) (flat (map words_of ps))
      (subst (λ (ws : List Bytes). All (λ w. is_stop w ≡ false) ws) (texts_are names p.0 p.1) (letter_no_stop p.1, all_map Fair (λ w. is_stop w ≡ false) (inner_of names p.0 p.1) (λ w f. f.no_stop) (inner p h.0)))
      (no_stops ps h.1)

  pub solids : (ps : List (Bytes × Body ℕ)) → All SoundPart ps → All Solid (flat (map words_of ps))
  solids [] h = tt
  solids (p ∷ ps) h = all_append Solid (words_of p) (flat (map words_of ps)) (subst (λ (ws : List Bytes). All Solid ws) (texts_are names p.0 p.1) (solid_part p h.0)) (solids ps h.1)

  pub parts_spans : (ps : List (Bytes × Body ℕ)) → All SoundPart ps → spans (flat (map words_of ps)) ≤ 31 * length ps + (23 * sum (map (λ p. item_count p.1) ps) + 11 * sum (map (λ p. word_count p.1) ps))
  parts_spans [] h = omega arith
  parts_spans (p ∷ ps) h = omega (arith, spans_append (words_of p) (flat (map words_of ps)), part_spans names proper p.0 p.1 h.0.0 h.0.1, parts_spans ps h.1)

  module _ (t : Table) where
    pub parts_read : (ps : List (Bytes × Body ℕ)) → All SoundPart ps → Each (PartReads t) (map words_of ps)
    parts_read [] h = tt
    parts_read (p ∷ ps) h = (gives_reads (part_gives names proper t p.0 p.1 h.0.1), parts_read ps h.1)

    pub parts_claims : (ps : List (Bytes × Body ℕ)) → All SoundPart ps → all_claims t (map words_of ps) ≡ claims_of_all names ps
    parts_claims [] h = refl
    parts_claims (p ∷ ps) h = ap₂ ◌++◌ (gives_claims (part_gives names proper t p.0 p.1 h.0.1)) (parts_claims ps h.1)

    pub parts_made : (ps : List (Bytes × Body ℕ)) → All SoundPart ps → map (λ ws. made (read_part t ws)) (map words_of ps) ≡ map tell_part ps
    parts_made [] h = refl
    parts_made (p ∷ ps) h = ap₂ (λ (x : Part) (xs : List Part). x ∷ xs) (gives_made (part_gives names proper t p.0 p.1 h.0.1)) (parts_made ps h.1)

    pub parts_known : (ps : List (Bytes × Body ℕ)) → All SoundPart ps → Each (PartKnown names t) (map words_of ps)
    parts_known [] h = tt
    parts_known (p ∷ ps) h = (gives_known names (part_gives names proper t p.0 p.1 h.0.1) (claims_known names p.0 p.1 h.0.1), parts_known ps h.1)

  pub rank_told : Ascending names → (ps : List (Bytes × Body ℕ)) → All SoundPart ps → map (λ (p : Part). (p.0, rank_body names p.1)) (map tell_part ps) ≡ ps
  rank_told a [] h = refl
  rank_told a (p ∷ ps) h = ap₂ (λ (x : Body ℕ) (xs : List (Bytes × Body ℕ)). (p.0, x) ∷ xs) (rank_body_holds names a p.1 h.0.1) (rank_told a ps h.1)

  pub names_told : (ps : List (Bytes × Body ℕ)) → names_of (map tell_part ps) ≡ names_of ps
  names_told ps = map-map (λ (p : Part). p.0) tell_part ps

pub sound_parts : (n : ℕ) (ps : List (Bytes × Body ℕ)) → All ProperName (names_of ps) → All (λ p. SoundBody n p.1) ps → All (λ p. ProperName p.0 × SoundBody n p.1) ps
sound_parts n [] h g = tt
sound_parts n (p ∷ ps) h g = ((h.0, g.0), sound_parts n ps h.1 g.1)

-- THE SECTIONS

abbrev the_sections : List Bytes → List Bytes → Sections
the_sections E F = record { macros = []; half = []; listed = placed 6 E; after_list = word_from (6 + spans E); parts = part_words (placed ((6 + spans E) + 2) F); after_parts = word_from (((6 + spans E) + 2) + spans F) }

sections_are : (t : Bytes) (E F : List Bytes) → words t ≡ placed 6 (E ++ (dot ∷ (F ++ (dot ∷ [])))) → All Solid (E ++ (dot ∷ (F ++ (dot ∷ [])))) →
    All (λ w. is_stop w ≡ false) E → All (λ w. is_stop w ≡ false) F → sections t ≡ the_sections E F
sections_are t E F h solid e f =
    let W : List Bytes = E ++ (dot ∷ (F ++ (dot ∷ []))) in
    let p : ℕ = 6 + spans E in
    let q : ℕ = (6 + spans E) + 2 in
    let K : Row → Sections = λ l. record { macros = []; half = []; listed = l.row; after_list = l.next; parts = part_words (up_to_stop (length t) l.later).row; after_parts = (up_to_stop (length t) l.later).next } in
    let L : Row → Sections = λ l. record { macros = []; half = []; listed = placed 6 E; after_list = word_from p; parts = part_words l.row; after_parts = l.next } in
    ap (λ (ws : List Word). sections_from (length t) (macro_words ws)) h
    ∙ (ap (sections_from (length t)) (no_macros (placed 6 W) (texts_of (λ w. begins_macro w ≡ false) 6 W (all_map Solid (λ w. begins_macro w ≡ false) W no_macro solid)))
    ∙ (ap K (ap (up_to_stop (length t)) (placed_append 6 E (dot ∷ (F ++ (dot ∷ [])))) ∙ up_to (length t) (placed 6 E) (record { at = p; text = dot }) (placed q (F ++ (dot ∷ []))) (texts_of (λ w. is_stop w ≡ false) 6 E e) refl)
    ∙ ap L (ap (up_to_stop (length t)) (placed_append q F (dot ∷ [])) ∙ up_to (length t) (placed q F) (record { at = q + spans F; text = dot }) [] (texts_of (λ w. is_stop w ≡ false) q F f) refl)))

-- CHECKS AFTER THE CLOSING STOP

among_clear : (n : ℕ) (others : List Bytes) (es : List (Bytes × ℕ)) → All (λ m. among others m ≡ true) (names_of es) → check_among n others es ≡ read tt
among_clear n others [] h = refl
among_clear n others (e ∷ es) h =
    cond-false (not (among others e.0)) (refuse n e.1) (refuse_first n (map (λ (x : Bytes × ℕ). not (among others x.0)) es) (places es)) (not_from_true (among others e.0) h.0)
    ∙ among_clear n others es h.1

-- THE WHOLE

module _ (c : Circuit) (s : Sound c) where
  abbrev names : List Bytes
  names = names_of c.parts

  parts : All (λ p. ProperName p.0 × SoundBody (length names) p.1) c.parts
  parts = sound_parts (length names) c.parts s.names (subst (λ n. All (λ p. SoundBody n p.1) c.parts) (sym (length-map c.parts (λ (e : Bytes × Body ℕ). e.0))) s.bodies)

  listed : All ProperName (names_of c.listed)
  listed = all_map (λ n. among names n ≡ true) ProperName (names_of c.listed) (λ n e. all_among ProperName names n s.names e) s.listed_are_parts

  abbrev E : List Bytes
  E = map entry_text c.listed

  abbrev G : List (List Bytes)
  G = map (λ (p : Bytes × Body ℕ). part_texts names p.0 p.1) c.parts

  abbrev F : List Bytes
  F = flat G

  abbrev W : List Bytes
  W = E ++ (dot ∷ (F ++ (dot ∷ [])))

  abbrev lines : List Bytes
  lines = map (λ (p : Bytes × Body ℕ). joined_by 32 (part_texts names p.0 p.1)) c.parts

  abbrev after_title : Bytes
  after_title = in_lines (E ++ (dot ∷ (lines ++ (dot ∷ []))))

  spaced : Spaced W after_title
  spaced =
      subst (λ (x : Bytes). Spaced W x) (sym (in_lines_append E (dot ∷ (lines ++ (dot ∷ [])))))
      (spaced_append (spaced_lines E (all_map Fair Solid E (λ w f. f.solid) (entries_fair c.listed listed)))
      (one dot 10 dot_solid refl
      (subst (λ (x : Bytes). Spaced (F ++ (dot ∷ [])) x) (sym (in_lines_append lines (dot ∷ [])))
      (spaced_append (spaced_parts names s.names c.parts parts) (one dot 10 dot_solid refl none)))))

  words_are : words (listing c) ≡ placed 6 W
  words_are = scan (listing c) 6 spaced refl

  length_is : length (listing c) ≡ (((6 + spans E) + 2) + spans F) + 2
  length_is =
      let a : length (listing c) ≡ 6 + length after_title = omega arith in
      omega (arith, a, spaced_length spaced, spans_append E (dot ∷ (F ++ (dot ∷ []))), spans_append F (dot ∷ []))

  short : length (listing c) ≤ 131072
  short = omega (arith, length_is, entries_spans c.listed listed, parts_spans names s.names c.parts parts, s.few_listed, s.few_parts, s.few_items, s.few_words)

  all_solid : All Solid W
  all_solid =
      all_append Solid E (dot ∷ (F ++ (dot ∷ []))) (all_map Fair Solid E (λ w f. f.solid) (entries_fair c.listed listed))
      (dot_solid, all_append Solid F (dot ∷ []) (solids names s.names c.parts parts) (dot_solid, tt))

  sections_of_holds : sections (listing c) ≡ the_sections E F
  sections_of_holds = sections_are (listing c) E F words_are all_solid (all_map Fair (λ w. is_stop w ≡ false) E (λ w f. f.no_stop) (entries_fair c.listed listed)) (no_stops names s.names c.parts parts)

  -- the words of the parts
  abbrev gs : List (List Word)
  gs = part_words (placed ((6 + spans E) + 2) F)

  groups : map texts gs ≡ G
  groups = parts_flat ((6 + spans E) + 2) G (whole_parts names s.names c.parts parts)

  abbrev stop : ℕ
  stop = ((6 + spans E) + 2) + spans F

  room : AllRoom nothing (claims_of_all names c.parts)
  room =
      let n = all_names names c.parts in
      all_room nothing (claims_of_all names c.parts)
      (subst (λ (x : List Bytes). Apart [] x) (sym n) (once_apart names (ascending_once names s.ascending)))
      (subst (λ (x : List Bytes). All (λ m. is_name m ≡ true) x) (sym n) (all_map ProperName (λ m. is_name m ≡ true) names (λ m h. h.formed) s.names))
      (omega (arith, ap length n, length-map c.parts (λ (e : Bytes × Body ℕ). e.0), s.few_parts))
      (omega (arith, all_items names c.parts, s.few_items))
      (omega (arith, all_words names c.parts, s.few_words))

  read_parts_holds : (ps : List Part) × (read_parts [] (word_from stop) nothing gs ≡ read ps)
  read_parts_holds =
      room_parts [] (word_from stop) nothing gs
      (subst (λ (x : List (List Bytes)). Each (PartReads []) x) (sym groups) (parts_read names s.names [] c.parts parts))
      (subst (λ (x : List (List Bytes)). AllRoom nothing (all_claims [] x)) (sym groups) (subst (AllRoom nothing) (sym (parts_claims names s.names [] c.parts parts)) room))

  abbrev told : List Part
  told = map (λ (p : Bytes × Body ℕ). (p.0, tell_body names p.1)) c.parts

  told_is : read_parts_holds.0 ≡ told
  told_is =
      sym (read_parts_made [] (word_from stop) nothing gs read_parts_holds.0 read_parts_holds.1)
      ∙ (ap (map (λ (ws : List Bytes). made (read_part [] ws))) groups ∙ parts_made names s.names [] c.parts parts)

  told_names : names_of read_parts_holds.0 ≡ names
  told_names = ap names_of told_is ∙ names_told names s.names c.parts

  part_places_holds : names_of (part_places gs) ≡ names
  part_places_holds =
      part_names gs ∙ (ap sort_names (read_parts_names [] (word_from stop) nothing gs read_parts_holds.0 read_parts_holds.1 ∙ told_names) ∙ sort_ascending names s.ascending)

  list_places_holds : names_of (list_places (placed 6 E)) ≡ sort_names (names_of c.listed)
  list_places_holds = list_names (placed 6 E) ∙ ap sort_names (ap (map (λ x. (entry x).0)) (texts_placed 6 E) ∙ entries_names c.listed listed)

  whole : check_whole [] (the_sections E F) (list_places (placed 6 E)) (part_places gs) ≡ read tt
  whole =
      read_bind (check_among 20 (names_of (part_places gs)) (list_places (placed 6 E))) _ tt (read tt)
      (among_clear 20 (names_of (part_places gs)) (list_places (placed 6 E))
      (subst (λ (ns : List Bytes). All (λ m. among ns m ≡ true) (names_of (list_places (placed 6 E)))) (sym part_places_holds)
      (subst (λ (ns : List Bytes). All (λ m. among names m ≡ true) ns) (sym list_places_holds) (all_sort (λ m. among names m ≡ true) (names_of c.listed) s.listed_are_parts))))
      (read_bind (check_among 21 (names_of (list_places (placed 6 E))) (part_places gs)) _ tt (read tt)
      (among_clear 21 (names_of (list_places (placed 6 E))) (part_places gs)
      (subst (λ (ns : List Bytes). All (λ m. among ns m ≡ true) (names_of (part_places gs))) (sym list_places_holds)
      (subst (λ (ns : List Bytes). All (λ m. among (sort_names (names_of c.listed)) m ≡ true) ns) (sym part_places_holds)
      (all_map (λ m. among (names_of c.listed) m ≡ true) (λ m. among (sort_names (names_of c.listed)) m ≡ true) names (λ m h. among_sort (names_of c.listed) m ∙ h) s.parts_are_listed))))
      (subst (λ (ns : List Bytes). check_expressions [] ns gs ≡ read tt) (sym part_places_holds)
      (known_expressions names [] gs (subst (λ (x : List (List Bytes)). Each (PartKnown names []) x) (sym groups) (parts_known names s.names [] c.parts parts)))))

  abbrev d : Drawn
  d = record { circuit = circuit_of (map entry (texts (placed 6 E))) read_parts_holds.0; count = length read_parts_holds.0; end = stop + 1; names = part_places gs }

  drawn_parts_holds : drawn_parts [] (the_sections E F) ≡ read d
  drawn_parts_holds =
      read_bind (read_parts [] (word_from stop) nothing gs) _ read_parts_holds.0 (read d) read_parts_holds.1
      (read_bind (check_whole [] (the_sections E F) (list_places (placed 6 E)) (part_places gs)) _ tt (read d) whole refl)

  list_ok : check_list [] (placed 6 E) ≡ read tt
  list_ok = new_list [] (placed 6 E) (subst (λ (ws : List Bytes). ListNew [] ws) (sym (texts_placed 6 E)) (entries_new [] c.listed listed (once_apart (names_of c.listed) s.listed_once) (omega (arith, s.few_listed))))

  drawn_from_holds : drawn_from (the_sections E F) ≡ read d
  drawn_from_holds = read_bind (check_list [] (placed 6 E)) _ tt (read d) list_ok drawn_parts_holds

  drawn_is : drawn (listing c) ≡ read d
  drawn_is = ap (λ b. if_short b (listing c)) (le-leb (length (listing c)) 131072 short) ∙ (ap drawn_from sections_of_holds ∙ drawn_from_holds)

  circuit_is : d.circuit ≡ c
  circuit_is =
      let told-ascends : Ascending (names_of told) = subst Ascending (sym (names_told names s.names c.parts)) s.ascending in
      ap₂ (λ (l : List (Bytes × Bool)) (ps : List (Bytes × Body ℕ)). record { listed = l; parts = ps })
      (ap (map entry) (texts_placed 6 E) ∙ entries_are c.listed listed)
      (ap (λ (ps : List Part). ranked (sorted ps)) told_is
      ∙ (ap ranked (sorted_ascending told told-ascends)
      ∙ (ap (λ (ns : List Bytes). map (λ (p : Part). (p.0, rank_body ns p.1)) told) (names_told names s.names c.parts)
      ∙ rank_told names s.names s.ascending c.parts parts)))

  count_is : d.count ≡ length c.parts
  count_is = ap length told_is ∙ length-map c.parts (λ (p : Bytes × Body ℕ). (p.0, tell_body names p.1))

  end_is : d.end ≡ length (listing c) - 1
  end_is = omega (arith, length_is)

  result : Ordered (listing c) d ⊎ Circular (listing c) d → verdict (listing c) ≡ accepted c (length c.parts) (length (listing c) - 1)
  result (inl o) =
      o.verdict_is
      ∙ (ap (λ (x : Circuit). accepted x d.count d.end) circuit_is ∙ ap₂ (λ (n p : ℕ). accepted c n p) count_is end_is)
  result (inr x) = absurd (x.no_order s.order.0 (subst (λ (y : Circuit). SetsInOrder y s.order.0) (sym circuit_is) s.order.1))

pub reads_back : ReadsBack
reads_back c s = result c s ((circular_exactly (listing c)).0 (d c s) (drawn_is c s))
