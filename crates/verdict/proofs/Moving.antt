-- A verdict moves with the places of the words: what is read is the same, and a refusal is at the moved place.
use Rattle.std.proofs.Common.{◌≡◌, ℕ, zero, suc, ◌+◌, ◌-◌, Bool, true, false, cond, not, List, [], ◌∷◌, ◌++◌, map, length, get_or, sym, refl, ap, ◌∙◌, ap₂, arith}
use mathlib.Core.List.{map-map}
use Rattle.scan.specs.Names.{Bytes, among, all, before}
use Rattle.scan.specs.Words.{Word, texts}
use Rattle.numbers.specs.Judged.{Judged, good, bad, check}
use Rattle.verdict.specs.Letters.{is_part_letter, is_stop}
use Rattle.verdict.specs.Macros.{Table, names_of, finished, all_known}
use Rattle.verdict.specs.Parts.{Part, a_name, some_items, some_words, Reading, reads, refuses, lacks, claims, read_part}
use Rattle.verdict.specs.Limits.{new_name, Taken, nothing, taking}
use Rattle.verdict.specs.Sections.{Next, word_from, text_end, begins_macro, Macros, add_pair, macro_words, Row, add_word, up_to_stop, opens_part, add_to_part, part_words, Sections, sections_from}
use Rattle.verdict.specs.Circles.{on_circle}
use Rattle.verdict.specs.Circuit.{insert, sorted, circuit_of, needs}
use Rattle.verdict.specs.Verdict.{Read, read, refuse, ◌>>=◌, at, refuse_first, places, stop_at, macro_name, check_macro_names, macro_table, macro_places, macro_needs, check_macros, entry, check_list, place_in, next_word, missing, settle, read_parts, list_places, part_places, check_among, item_known, check_items, check_expressions, check_whole, Drawn, drawn_parts, drawn_from, check_circles, Verdict, accepted, refused, unless, verdict_of}

cond_ap : {X Y : Type 0} (f : X → Y) (b : Bool) (x y : X) → f (cond b x y) ≡ cond b (f x) (f y)
cond_ap f true x y = refl
cond_ap f false x y = refl

-- where each place moves to; nothing stands at 0, which stays
module _ (f : ℕ → ℕ) where
  abbrev pub mv : Word → Word
  mv w = record { at = f w.at; text = w.text }

  abbrev mv_pair : Word × Word → Word × Word
  mv_pair m = (mv m.0, mv m.1)

  abbrev pub mv_next : Next → Next
  mv_next (word_from p) = word_from (f p)
  mv_next (text_end p) = text_end (f p)

  abbrev mv_macros : Macros → Macros
  mv_macros m = record { pairs = map mv_pair m.pairs; half = map mv m.half; later = map mv m.later }

  abbrev mv_row : Row → Row
  mv_row r = record { row = map mv r.row; next = mv_next r.next; later = map mv r.later }

  abbrev pub mv_sections : Sections → Sections
  mv_sections s = record { macros = map mv_pair s.macros; half = map mv s.half; listed = map mv s.listed; after_list = mv_next s.after_list; parts = map (map mv) s.parts; after_parts = mv_next s.after_parts }

  -- SECTIONS

  pub texts_mv : (ws : List Word) → texts (map mv ws) ≡ texts ws
  texts_mv ws = map-map (λ (w : Word). w.text) mv ws

  macro_words_mv : (ws : List Word) → macro_words (map mv ws) ≡ mv_macros (macro_words ws)
  macro_words_mv [] = refl
  macro_words_mv (w ∷ []) = sym (cond_ap mv_macros (begins_macro w.text) (record { pairs = []; half = w ∷ []; later = [] }) (record { pairs = []; half = []; later = w ∷ [] }))
  macro_words_mv (w ∷ t ∷ ws) =
      ap (λ m. cond (begins_macro w.text) (add_pair (mv w) (mv t) m) (record { pairs = []; half = []; later = mv w ∷ mv t ∷ map mv ws })) (macro_words_mv ws)
      ∙ sym (cond_ap mv_macros (begins_macro w.text) (add_pair w t (macro_words ws)) (record { pairs = []; half = []; later = w ∷ t ∷ ws }))

  up_to_stop_mv : (end : ℕ) (ws : List Word) → up_to_stop (f end) (map mv ws) ≡ mv_row (up_to_stop end ws)
  up_to_stop_mv end [] = refl
  up_to_stop_mv end (w ∷ ws) =
      ap (λ r. cond (is_stop w.text) (record { row = []; next = word_from (f w.at); later = map mv ws }) (add_word (mv w) r)) (up_to_stop_mv end ws)
      ∙ sym (cond_ap mv_row (is_stop w.text) (record { row = []; next = word_from w.at; later = ws }) (add_word w (up_to_stop end ws)))

  opens_part_mv : (p : List Word) → opens_part (map mv p) ≡ opens_part p
  opens_part_mv [] = refl
  opens_part_mv (w ∷ p) = refl

  add_to_part_mv : (w : Word) (ps : List (List Word)) → add_to_part (mv w) (map (map mv) ps) ≡ map (map mv) (add_to_part w ps)
  add_to_part_mv w [] = refl
  add_to_part_mv w (p ∷ ps) =
      ap (λ b. cond b ((mv w ∷ []) ∷ map mv p ∷ map (map mv) ps) ((mv w ∷ map mv p) ∷ map (map mv) ps)) (opens_part_mv p)
      ∙ sym (cond_ap (map (map mv)) (opens_part p) ((w ∷ []) ∷ p ∷ ps) ((w ∷ p) ∷ ps))

  part_words_mv : (ws : List Word) → part_words (map mv ws) ≡ map (map mv) (part_words ws)
  part_words_mv [] = refl
  part_words_mv (w ∷ ws) = ap (add_to_part (mv w)) (part_words_mv ws) ∙ add_to_part_mv w (part_words ws)

  -- the sections, from the row of listed words and the row of parts
  abbrev from_rows : Macros → Row → Row → Sections
  from_rows m l p = record { macros = m.pairs; half = m.half; listed = l.row; after_list = l.next; parts = part_words p.row; after_parts = p.next }

  abbrev from_parts : Macros → Row → Row → List (List Word) → Sections
  from_parts m l p ps = record { macros = m.pairs; half = m.half; listed = l.row; after_list = l.next; parts = ps; after_parts = p.next }

  pub sections_mv : (end : ℕ) (ws : List Word) → sections_from (f end) (macro_words (map mv ws)) ≡ mv_sections (sections_from end (macro_words ws))
  sections_mv end ws =
      let m = macro_words ws in
      let l = up_to_stop end m.later in
      let p = up_to_stop end l.later in
      ap (sections_from (f end)) (macro_words_mv ws)
      ∙ (ap (λ (r : Row). from_rows (mv_macros m) r (up_to_stop (f end) r.later)) (up_to_stop_mv end m.later)
      ∙ (ap (λ (r : Row). from_rows (mv_macros m) (mv_row l) r) (up_to_stop_mv end l.later)
      ∙ ap (from_parts (mv_macros m) (mv_row l) (mv_row p)) (part_words_mv p.row)))

  -- WHAT IS READ

  abbrev pub mv_read : {X Y : Type 0} → (X → Y) → Read X → Read Y
  mv_read g (read x) = read (g x)
  mv_read g (refuse n p) = refuse n (f p)

  abbrev same : {X : Type 0} → X → X
  same x = x

  bind_mv : {X Y X' Y' : Type 0} (g : X → X') (h : Y → Y') (m : Read X) (m' : Read X') (k : X → Read Y) (k' : X' → Read Y') → m' ≡ mv_read g m → ((x : X) → k' (g x) ≡ mv_read h (k x)) → (m' >>= k') ≡ mv_read h (m >>= k)
  bind_mv g h (read x) m' k k' e c = ap (λ z. z >>= k') e ∙ c x
  bind_mv g h (refuse n p) m' k k' e c = ap (λ z. z >>= k') e

  at_mv : {X : Type 0} (p : ℕ) (j : Judged X) → at (f p) j ≡ mv_read same (at p j)
  at_mv p (good x) = refl
  at_mv p (bad n) = refl

  refuse_first_mv : (n : ℕ) (fs : List Bool) (ps : List ℕ) → refuse_first n fs (map f ps) ≡ mv_read same (refuse_first n fs ps)
  refuse_first_mv n [] ps = refl
  refuse_first_mv n (b ∷ fs) [] = refl
  refuse_first_mv n (b ∷ fs) (p ∷ ps) = ap (cond b (refuse n (f p))) (refuse_first_mv n fs ps) ∙ sym (cond_ap (mv_read same) b (refuse n p) (refuse_first n fs ps))

  stop_at_mv : (n : Next) → stop_at (mv_next n) ≡ mv_read f (stop_at n)
  stop_at_mv (word_from p) = refl
  stop_at_mv (text_end p) = refl

  -- ENTRIES WITH PLACES

  abbrev pub mv_entry : Bytes × ℕ → Bytes × ℕ
  mv_entry e = (e.0, f e.1)

  insert_mv : (e : Bytes × ℕ) (es : List (Bytes × ℕ)) → insert (mv_entry e) (map mv_entry es) ≡ map mv_entry (insert e es)
  insert_mv e [] = refl
  insert_mv e (x ∷ es) =
      ap (λ l. cond (before e.0 x.0) (mv_entry e ∷ mv_entry x ∷ map mv_entry es) (mv_entry x ∷ l)) (insert_mv e es)
      ∙ sym (cond_ap (map mv_entry) (before e.0 x.0) (e ∷ x ∷ es) (x ∷ insert e es))

  sorted_mv : (es : List (Bytes × ℕ)) → sorted (map mv_entry es) ≡ map mv_entry (sorted es)
  sorted_mv [] = refl
  sorted_mv (e ∷ es) = ap (insert (mv_entry e)) (sorted_mv es) ∙ insert_mv e (sorted es)

  places_mv : (es : List (Bytes × ℕ)) → places (map mv_entry es) ≡ map f (places es)
  places_mv es = map-map (λ (e : Bytes × ℕ). e.1) mv_entry es ∙ sym (map-map f (λ (e : Bytes × ℕ). e.1) es)

  names_mv : (es : List (Bytes × ℕ)) → names_of (map mv_entry es) ≡ names_of es
  names_mv es = map-map (λ (e : Bytes × ℕ). e.0) mv_entry es

  -- MACROS AND LIST

  check_macro_names_mv : (met : List Bytes) (ws : List Word) → check_macro_names met (map mv ws) ≡ mv_read same (check_macro_names met ws)
  check_macro_names_mv met [] = refl
  check_macro_names_mv met (w ∷ ws) =
      bind_mv same same (at w.at (new_name met (macro_name w.text))) _ _ _ (at_mv w.at (new_name met (macro_name w.text))) (λ u. check_macro_names_mv (macro_name w.text ∷ met) ws)

  macro_table_mv : (ms : List (Word × Word)) → macro_table (map mv_pair ms) ≡ macro_table ms
  macro_table_mv ms = map-map (λ (m : Word × Word). (macro_name m.0.text, m.1.text)) mv_pair ms

  macro_places_mv : (ms : List (Word × Word)) → macro_places (map mv_pair ms) ≡ map mv_entry (macro_places ms)
  macro_places_mv ms =
      let place : Word × Word → Bytes × ℕ = λ m. (macro_name m.0.text, m.0.at) in
      ap sorted (map-map place mv_pair ms ∙ sym (map-map mv_entry place ms)) ∙ sorted_mv (map place ms)

  check_macros_mv : (t : Table) (ps : List ℕ) → check_macros t (map f ps) ≡ mv_read same (check_macros t ps)
  check_macros_mv t ps =
      let unknown : List Bool = map (λ m. not (all_known (names_of t) m.1)) t in
      bind_mv same same (refuse_first 18 unknown ps) _ _ _ (refuse_first_mv 18 unknown ps) (λ u. refuse_first_mv 19 (on_circle (length t) (macro_needs t)) ps)

  macros_checked_mv : (ms : List (Word × Word)) → check_macros (sorted (macro_table (map mv_pair ms))) (places (macro_places (map mv_pair ms))) ≡ mv_read same (check_macros (sorted (macro_table ms)) (places (macro_places ms)))
  macros_checked_mv ms =
      ap₂ (λ (t : Table) (ps : List ℕ). check_macros (sorted t) ps) (macro_table_mv ms) (ap places (macro_places_mv ms) ∙ places_mv (macro_places ms))
      ∙ check_macros_mv (sorted (macro_table ms)) (places (macro_places ms))

  check_list_mv : (met : List Bytes) (ws : List Word) → check_list met (map mv ws) ≡ mv_read same (check_list met ws)
  check_list_mv met [] = refl
  check_list_mv met (w ∷ ws) =
      let letter : Judged (Unit {0}) = check (not (is_part_letter w.text)) 11 in
      let new : Judged (Unit {0}) = new_name met (entry w.text).0 in
      bind_mv same same (at w.at letter) _ _ _ (at_mv w.at letter) (λ u. bind_mv same same (at w.at new) _ _ _ (at_mv w.at new) (λ v. check_list_mv ((entry w.text).0 ∷ met) ws))

  next_word_mv : (ps : List (List Word)) (end : Next) → next_word (map (map mv) ps) (mv_next end) ≡ mv_next (next_word ps end)
  next_word_mv [] end = refl
  next_word_mv ([] ∷ ps) end = refl
  next_word_mv ((w ∷ ws) ∷ ps) end = refl

  missing_mv : {X : Type 0} (n : ℕ) (next : Next) → missing {X = X} n (mv_next next) ≡ mv_read same (missing n next)
  missing_mv n (word_from p) = refl
  missing_mv n (text_end p) = refl

  list_places_mv : (ws : List Word) → list_places (map mv ws) ≡ map mv_entry (list_places ws)
  list_places_mv ws =
      let place : Word → Bytes × ℕ = λ w. ((entry w.text).0, w.at) in
      ap sorted (map-map place mv ws ∙ sym (map-map mv_entry place ws)) ∙ sorted_mv (map place ws)

  check_among_mv : (n : ℕ) (others : List Bytes) (es : List (Bytes × ℕ)) → check_among n others (map mv_entry es) ≡ mv_read same (check_among n others es)
  check_among_mv n others es =
      let missed : Bytes × ℕ → Bool = λ e. not (among others e.0) in
      ap₂ (refuse_first n) (map-map missed mv_entry es) (places_mv es) ∙ refuse_first_mv n (map missed es) (places es)

  module _ (z : f 0 ≡ 0) where
    -- PARTS

    place_in_mv : (ws : List Word) (i : ℕ) → place_in (map mv ws) i ≡ f (place_in ws i)
    place_in_mv [] i = sym z
    place_in_mv (w ∷ ws) zero = refl
    place_in_mv (w ∷ ws) (suc i) = place_in_mv ws i

    word_mv : {X : Type 0} (ws : List Word) (i : ℕ) (j : Judged X) → at (place_in (map mv ws) i) j ≡ mv_read same (at (place_in ws i) j)
    word_mv ws i j = ap (λ p. at p j) (place_in_mv ws i) ∙ at_mv (place_in ws i) j

    settle_mv : {X : Type 0} (ws : List Word) (next : Next) (k : Taken) (r : Reading X) → settle (map mv ws) (mv_next next) k r ≡ mv_read same (settle ws next k r)
    settle_mv ws next k (reads x) = refl
    settle_mv ws next k (refuses n i) = ap (refuse n) (place_in_mv ws i)
    settle_mv ws next k (lacks n) = missing_mv n next
    settle_mv ws next k (claims c i r) = bind_mv same same (at (place_in ws i) (taking k c)) _ _ _ (word_mv ws i (taking k c)) (λ k'. settle_mv ws next k' r)

    read_parts_mv : (t : Table) (end : Next) (k : Taken) (gs : List (List Word)) → read_parts t (mv_next end) k (map (map mv) gs) ≡ mv_read same (read_parts t end k gs)
    read_parts_mv t end k [] = refl
    read_parts_mv t end k (ws ∷ gs) =
        bind_mv same same (settle ws (next_word gs end) k (read_part t (texts ws))) _ _ _
        (ap₂ (λ (next : Next) (xs : List Bytes). settle (map mv ws) next k (read_part t xs)) (next_word_mv gs end) (texts_mv ws) ∙ settle_mv ws (next_word gs end) k (read_part t (texts ws)))
        (λ pk. bind_mv same same (read_parts t end pk.1 gs) _ _ _ (read_parts_mv t end pk.1 gs) (λ ps. refl))

    abbrev name_and_place : List Word → Bytes × ℕ
    name_and_place ws = (get_or (texts ws) 1 [], place_in ws 1)

    names_and_places_mv : (gs : List (List Word)) → map name_and_place (map (map mv) gs) ≡ map mv_entry (map name_and_place gs)
    names_and_places_mv [] = refl
    names_and_places_mv (ws ∷ gs) = ap₂ ◌∷◌ (ap₂ (λ (ts : List Bytes) (p : ℕ). (get_or ts 1 [], p)) (texts_mv ws) (place_in_mv ws 1)) (names_and_places_mv gs)

    part_places_mv : (gs : List (List Word)) → part_places (map (map mv) gs) ≡ map mv_entry (part_places gs)
    part_places_mv gs = ap sorted (names_and_places_mv gs) ∙ sorted_mv (map name_and_place gs)

    -- AFTER THE CLOSING STOP

    check_items_mv : {X : Type 0} (names : List Bytes) (ws : List Word) (r : Reading X) → check_items names (map mv ws) r ≡ mv_read same (check_items names ws r)
    check_items_mv names ws (reads x) = refl
    check_items_mv names ws (refuses n i) = refl
    check_items_mv names ws (lacks n) = refl
    check_items_mv names ws (claims (a_name n) i r) = check_items_mv names ws r
    check_items_mv names ws (claims (some_items e) i r) =
        let known : Judged (Unit {0}) = check (all (item_known names) e) 22 in
        bind_mv same same (at (place_in ws i) known) _ _ _ (word_mv ws i known) (λ u. check_items_mv names ws r)
    check_items_mv names ws (claims (some_words n) i r) = check_items_mv names ws r

    check_expressions_mv : (t : Table) (names : List Bytes) (gs : List (List Word)) → check_expressions t names (map (map mv) gs) ≡ mv_read same (check_expressions t names gs)
    check_expressions_mv t names [] = refl
    check_expressions_mv t names (ws ∷ gs) =
        bind_mv same same (check_items names ws (read_part t (texts ws))) _ _ _
        (ap (λ (xs : List Bytes). check_items names (map mv ws) (read_part t xs)) (texts_mv ws) ∙ check_items_mv names ws (read_part t (texts ws)))
        (λ u. check_expressions_mv t names gs)

    check_whole_mv : (t : Table) (s : Sections) (ls ps : List (Bytes × ℕ)) → check_whole t (mv_sections s) (map mv_entry ls) (map mv_entry ps) ≡ mv_read same (check_whole t s ls ps)
    check_whole_mv t s ls ps =
        bind_mv same same (check_among 20 (names_of ps) ls) _ _ _ (ap (λ ns. check_among 20 ns (map mv_entry ls)) (names_mv ps) ∙ check_among_mv 20 (names_of ps) ls)
        (λ u. bind_mv same same (check_among 21 (names_of ls) ps) _ _ _ (ap (λ ns. check_among 21 ns (map mv_entry ps)) (names_mv ls) ∙ check_among_mv 21 (names_of ls) ps)
        (λ v. ap (λ ns. check_expressions t ns (map (map mv) s.parts)) (names_mv ps) ∙ check_expressions_mv t (names_of ps) s.parts))

    -- THE WHOLE

    -- the closing stop moves, and the place after it with it
    abbrev mv_drawn : Drawn → Drawn
    mv_drawn d = record { circuit = d.circuit; count = d.count; end = f (d.end - 1) + 1; names = map mv_entry d.names }

    abbrev result : List Bytes → List Part → ℕ → List (Bytes × ℕ) → Drawn
    result xs ps end names = record { circuit = circuit_of (map entry xs) ps; count = length ps; end = end; names = names }

    drawn_parts_mv : (t : Table) (s : Sections) → drawn_parts t (mv_sections s) ≡ mv_read mv_drawn (drawn_parts t s)
    drawn_parts_mv t s =
        bind_mv same mv_drawn (read_parts t s.after_parts nothing s.parts) _ _ _ (read_parts_mv t s.after_parts nothing s.parts)
        (λ ps. bind_mv f mv_drawn (stop_at s.after_parts) _ _ _ (stop_at_mv s.after_parts)
        (λ stop. bind_mv same mv_drawn (check_whole t s (list_places s.listed) (part_places s.parts)) _ _ _
        (ap₂ (check_whole t (mv_sections s)) (list_places_mv s.listed) (part_places_mv s.parts) ∙ check_whole_mv t s (list_places s.listed) (part_places s.parts))
        (λ u.
        let back : stop ≡ stop + 1 - 1 = omega arith in
        ap (λ xs. read (result xs ps (f stop + 1) (part_places (map (map mv) s.parts)))) (texts_mv s.listed)
        ∙ ap₂ (λ (e : ℕ) (names : List (Bytes × ℕ)). read (result (texts s.listed) ps e names)) (ap (λ p. f p + 1) back) (part_places_mv s.parts))))

    macro_words_all : (ms : List (Word × Word)) (half : List Word) → map (λ (m : Word × Word). m.0) (map mv_pair ms) ++ map mv half ≡ map mv (map (λ (m : Word × Word). m.0) ms ++ half)
    macro_words_all [] half = refl
    macro_words_all (m ∷ ms) half = ap (λ ws. mv m.0 ∷ ws) (macro_words_all ms half)

    pub drawn_from_mv : (s : Sections) → drawn_from (mv_sections s) ≡ mv_read mv_drawn (drawn_from s)
    drawn_from_mv s =
        let ws : List Word = map (λ (m : Word × Word). m.0) s.macros ++ s.half in
        bind_mv same mv_drawn (check_macro_names [] ws) _ _ _ (ap (check_macro_names []) (macro_words_all s.macros s.half) ∙ check_macro_names_mv [] ws)
        (λ u. bind_mv same mv_drawn (check_macros (sorted (macro_table s.macros)) (places (macro_places s.macros))) _ _ _ (macros_checked_mv s.macros)
        (λ v. bind_mv same mv_drawn (check_list [] s.listed) _ _ _ (check_list_mv [] s.listed)
        (λ w. bind_mv f mv_drawn (stop_at s.after_list) _ _ _ (stop_at_mv s.after_list)
        (λ p. ap (λ (t : Table). drawn_parts (finished t) (mv_sections s)) (macro_table_mv s.macros) ∙ drawn_parts_mv (finished (macro_table s.macros)) s))))

    abbrev pub mv_verdict : Verdict → Verdict
    mv_verdict (refused n p) = refused n (f p)
    mv_verdict (accepted c n end) = accepted c n (f (end - 1) + 1)

    unless_mv : (u : Read (Unit {0})) (d : Drawn) → unless (mv_read same u) (mv_drawn d) ≡ mv_verdict (unless u d)
    unless_mv (read u) d = refl
    unless_mv (refuse n p) d = refl

    check_circles_mv : (d : Drawn) → check_circles (mv_drawn d) ≡ mv_read same (check_circles d)
    check_circles_mv d =
        let flags : List Bool = on_circle (length d.circuit.parts) (needs d.circuit.parts) in
        ap (refuse_first 23 flags) (places_mv d.names) ∙ refuse_first_mv 23 flags (places d.names)

    verdict_of_mv : (r : Read Drawn) → verdict_of (mv_read mv_drawn r) ≡ mv_verdict (verdict_of r)
    verdict_of_mv (read d) = ap (λ u. unless u (mv_drawn d)) (check_circles_mv d) ∙ unless_mv (check_circles d) d
    verdict_of_mv (refuse n p) = refl

    -- the same words at other places
    pub moved : (end : ℕ) (ws : List Word) → verdict_of (drawn_from (sections_from (f end) (macro_words (map mv ws)))) ≡ mv_verdict (verdict_of (drawn_from (sections_from end (macro_words ws))))
    moved end ws =
        ap (λ s. verdict_of (drawn_from s)) (sections_mv end ws)
        ∙ (ap verdict_of (drawn_from_mv (sections_from end (macro_words ws)))
        ∙ verdict_of_mv (drawn_from (sections_from end (macro_words ws))))
