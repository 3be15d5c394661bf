-- A text that differs from an accepted one only in the order of its parts is accepted as the same circuit.
use Rattle.std.proofs.Common.{◌≡◌, ℕ, suc, ◌+◌, Bool, false, not, leb, List, [], ◌∷◌, ◌++◌, map, length, get_or, sym, refl, ap, ◌∙◌, subst, ap₂, arith}
use mathlib.Core.List.{map-map}
use lib.ListN.{length-map}
use Rattle.std.proofs.lemmas.Bool.{cond-false, le-leb}
use Rattle.scan.specs.Names.{Bytes, among}
use Rattle.scan.specs.Words.{Word, texts}
use Rattle.verdict.specs.Macros.{Table, names_of, finished, all_known}
use Rattle.verdict.specs.Parts.{Part, read_part}
use Rattle.verdict.specs.Limits.{nothing}
use Rattle.verdict.specs.Sections.{word_from, Sections, sections}
use Rattle.verdict.specs.Circles.{on_circle}
use Rattle.verdict.specs.Circuit.{sorted, ranked, Circuit, circuit_of, needs}
use Rattle.verdict.specs.Verdict.{Read, read, refuse, refuse_first, places, stop_at, check_macro_names, macro_table, macro_places, macro_needs, check_macros, entry, check_list, place_in, read_parts, list_places, part_places, check_among, check_expressions, check_whole, Drawn, drawn_parts, drawn_from, if_short, drawn, check_circles, accepted, unless, verdict_of}
use Rattle.verdict.specs.Lines.{Reordered, part_texts, SameButOrder, Complete, AcceptedAlike}
use Rattle.verdict.proofs.Orders.{map_reordered, sorted_reordered}
use Rattle.verdict.proofs.Inversions.{read_same, bind_read}
use Rattle.verdict.proofs.Readings.{made, read_parts_made, read_parts_apart, apart_distinct}
use Rattle.verdict.proofs.Claims.{room_reordered}
use Rattle.verdict.proofs.Ranks.{second, read_parts_names, sort_names, names_sorted}
use Rattle.verdict.proofs.Circular.{first_read, flags_length, parts_length, places_length}
use Rattle.verdict.proofs.Uses.{table_length}
use Rattle.verdict.proofs.Theorem.{table_of, table_of_texts, length_reordered, short_read}
use Rattle.verdict.proofs.Alike.{read_bind, each_reordered, NewAll, macros_new, new_macros, ListNew, list_new, new_list, PartReads, claims_reordered, parts_room, room_parts, PartKnown, expressions_known, known_expressions}

pub first_clear : (m : ℕ) (fs : List Bool) (ps : List ℕ) → ((i : ℕ) → get_or fs i false ≡ false) → refuse_first m fs ps ≡ read tt
first_clear m [] ps h = refl
first_clear m (f ∷ fs) [] h = refl
first_clear m (f ∷ fs) (p ∷ ps) h = cond-false f (refuse m p) (refuse_first m fs ps) (h 0) ∙ first_clear m fs ps (λ i. h (suc i))

-- the macros are checked without their places
macros_other : (t : Table) (ps ps' : List ℕ) → length t ≡ length ps → check_macros t ps ≡ read tt → check_macros t ps' ≡ read tt
macros_other t ps ps' l e =
    let unknown : Bytes × Bytes → Bool = λ m. not (all_known (names_of t) m.1) in
    let b = bind_read (refuse_first 18 (map unknown t) ps) _ tt e in
    read_bind (refuse_first 18 (map unknown t) ps') _ tt (read tt)
    (first_clear 18 (map unknown t) ps' (first_read 18 (map unknown t) ps b.0 (length-map t unknown ∙ l) b.1))
    (first_clear 19 (on_circle (length t) (macro_needs t)) ps' (first_read 19 (on_circle (length t) (macro_needs t)) ps tt (flags_length (length t) (macro_needs t) ∙ l) b.2))

-- names are looked up without their places
among_other : (n : ℕ) (others : List Bytes) (es es' : List (Bytes × ℕ)) → names_of es ≡ names_of es' → check_among n others es ≡ read tt → check_among n others es' ≡ read tt
among_other n others es es' h e =
    let f : Bytes → Bool = λ x. not (among others x) in
    let flags : map (λ (x : Bytes × ℕ). f x.0) es ≡ map (λ (x : Bytes × ℕ). f x.0) es' =
    sym (map-map f (λ (x : Bytes × ℕ). x.0) es) ∙ (ap (map f) h ∙ map-map f (λ (x : Bytes × ℕ). x.0) es') in
    let down : (i : ℕ) → get_or (map (λ (x : Bytes × ℕ). f x.0) es) i false ≡ false =
    first_read n (map (λ (x : Bytes × ℕ). f x.0) es) (places es) tt (length-map es (λ (x : Bytes × ℕ). f x.0) ∙ sym (length-map es (λ (x : Bytes × ℕ). x.1))) e in
    first_clear n (map (λ (x : Bytes × ℕ). f x.0) es') (places es') (λ i. ap (λ fs. get_or fs i false) (sym flags) ∙ down i)

pub list_names : (ws : List Word) → names_of (list_places ws) ≡ sort_names (map (λ x. (entry x).0) (texts ws))
list_names ws =
    let place : Word → Bytes × ℕ = λ w. ((entry w.text).0, w.at) in
    names_sorted (map place ws) ∙ ap sort_names (map-map (λ (x : Bytes × ℕ). x.0) place ws ∙ sym (map-map (λ x. (entry x).0) (λ (w : Word). w.text) ws))

pub part_names : (gs : List (List Word)) → names_of (part_places gs) ≡ sort_names (map second gs)
part_names gs =
    let place : List Word → Bytes × ℕ = λ ws. (second ws, place_in ws 1) in
    names_sorted (map place gs) ∙ ap sort_names (map-map (λ (x : Bytes × ℕ). x.0) place gs)

-- what an accepted text has passed
pub record Passed (s : Sections) (d : Drawn) : Type 0 where
  pub names : check_macro_names [] (map (λ m. m.0) s.macros ++ s.half) ≡ read tt
  pub macros : check_macros (sorted (macro_table s.macros)) (places (macro_places s.macros)) ≡ read tt
  pub list : check_list [] s.listed ≡ read tt
  pub parts : drawn_parts (finished (macro_table s.macros)) s ≡ read d

pub passed : (s : Sections) (d : Drawn) → drawn_from s ≡ read d → Passed s d
passed s d e =
    let a = bind_read (check_macro_names [] (map (λ (m : Word × Word). m.0) s.macros ++ s.half)) _ d e in
    let b = bind_read (check_macros (sorted (macro_table s.macros)) (places (macro_places s.macros))) _ d a.2 in
    let c = bind_read (check_list [] s.listed) _ d b.2 in
    let f = bind_read (stop_at s.after_list) _ d c.2 in
    record { names = a.1; macros = b.1; list = c.1; parts = f.2 }

pub record PartsPassed (t : Table) (s : Sections) (d : Drawn) : Type 0 where
  pub made_of : List Part
  pub is_read : read_parts t s.after_parts nothing s.parts ≡ read made_of
  pub twenty : check_among 20 (names_of (part_places s.parts)) (list_places s.listed) ≡ read tt
  pub twenty_one : check_among 21 (names_of (list_places s.listed)) (part_places s.parts) ≡ read tt
  pub twenty_two : check_expressions t (names_of (part_places s.parts)) s.parts ≡ read tt
  pub circuit : d.circuit ≡ circuit_of (map entry (texts s.listed)) made_of
  pub count : d.count ≡ length made_of

pub parts_passed : (t : Table) (s : Sections) (d : Drawn) → drawn_parts t s ≡ read d → PartsPassed t s d
parts_passed t s d e =
    let a = bind_read (read_parts t s.after_parts nothing s.parts) _ d e in
    let b = bind_read (stop_at s.after_parts) _ d a.2 in
    let c = bind_read (check_whole t s (list_places s.listed) (part_places s.parts)) _ d b.2 in
    let f = bind_read (check_among 20 (names_of (part_places s.parts)) (list_places s.listed)) _ c.0 c.1 in
    let g = bind_read (check_among 21 (names_of (list_places s.listed)) (part_places s.parts)) _ c.0 f.2 in
    let z = read_same _ d c.2 in
    record { made_of = a.0; is_read = a.1; twenty = f.1; twenty_one = g.1; twenty_two = g.2; circuit = sym (ap (λ (x : Drawn). x.circuit) z); count = sym (ap (λ (x : Drawn). x.count) z) }

-- the other text's parts, with the same macros
module _ (t : Table) (s s' : Sections) (d : Drawn) (p : PartsPassed t s d) (list : texts s.listed ≡ texts s'.listed) (parts : Reordered (part_texts s) (part_texts s')) where
  pub read_too : (ps : List Part) × (read_parts t s'.after_parts nothing s'.parts ≡ read ps)
  read_too =
      let r = parts_room t s.after_parts nothing s.parts p.made_of p.is_read in
      room_parts t s'.after_parts nothing s'.parts (each_reordered (PartReads t) parts r.0) (room_reordered (claims_reordered t parts) nothing r.1)

  reordered : Reordered p.made_of read_too.0
  reordered =
      let one : List Bytes → Part = λ ws. made (read_part t ws) in
      subst (λ (xs : List Part). Reordered xs read_too.0) (read_parts_made t s.after_parts nothing s.parts p.made_of p.is_read)
      (subst (λ (ys : List Part). Reordered (map one (part_texts s)) ys) (read_parts_made t s'.after_parts nothing s'.parts read_too.0 read_too.1) (map_reordered one parts))

  sorted_same : sorted p.made_of ≡ sorted read_too.0
  sorted_same = sorted_reordered reordered (apart_distinct [] (names_of p.made_of) (read_parts_apart t s.after_parts nothing s.parts p.made_of p.is_read))

  names_same : names_of (part_places s.parts) ≡ names_of (part_places s'.parts)
  names_same =
      (part_names s.parts ∙ (ap sort_names (read_parts_names t s.after_parts nothing s.parts p.made_of p.is_read) ∙ sym (names_sorted p.made_of)))
      ∙ (ap names_of sorted_same
      ∙ sym (part_names s'.parts ∙ (ap sort_names (read_parts_names t s'.after_parts nothing s'.parts read_too.0 read_too.1) ∙ sym (names_sorted read_too.0))))

  listed_same : names_of (list_places s.listed) ≡ names_of (list_places s'.listed)
  listed_same = list_names s.listed ∙ (ap (λ ws. sort_names (map (λ x. (entry x).0) ws)) list ∙ sym (list_names s'.listed))

  whole_too : check_whole t s' (list_places s'.listed) (part_places s'.parts) ≡ read tt
  whole_too =
      let N = names_of (part_places s.parts) in
      let twenty = subst (λ ns. check_among 20 ns (list_places s'.listed) ≡ read tt) names_same (among_other 20 N (list_places s.listed) (list_places s'.listed) listed_same p.twenty) in
      let twenty_one = subst (λ ns. check_among 21 ns (part_places s'.parts) ≡ read tt) listed_same (among_other 21 (names_of (list_places s.listed)) (part_places s.parts) (part_places s'.parts) names_same p.twenty_one) in
      let twenty_two = subst (λ ns. check_expressions t ns s'.parts ≡ read tt) names_same (known_expressions N t s'.parts (each_reordered (PartKnown N t) parts (expressions_known N t s.parts tt p.twenty_two))) in
      read_bind (check_among 20 (names_of (part_places s'.parts)) (list_places s'.listed)) _ tt (read tt) twenty
      (read_bind (check_among 21 (names_of (list_places s'.listed)) (part_places s'.parts)) _ tt (read tt) twenty_one twenty_two)

  abbrev pub other : ℕ → Drawn
  other stop = record { circuit = circuit_of (map entry (texts s'.listed)) read_too.0; count = length read_too.0; end = stop + 1; names = part_places s'.parts }

  pub drawn_too : (stop : ℕ) → s'.after_parts ≡ word_from stop → drawn_parts t s' ≡ read (other stop)
  drawn_too stop e =
      read_bind (read_parts t s'.after_parts nothing s'.parts) _ read_too.0 (read (other stop)) read_too.1
      (read_bind (stop_at s'.after_parts) _ stop (read (other stop)) (ap stop_at e)
      (read_bind (check_whole t s' (list_places s'.listed) (part_places s'.parts)) _ tt (read (other stop)) whole_too refl))

  pub circuit_too : d.circuit ≡ circuit_of (map entry (texts s'.listed)) read_too.0
  circuit_too = p.circuit ∙ ap₂ (λ (l : List (Bytes × Bool)) (ps : List Part). record { listed = l; parts = ranked ps }) (ap (map entry) list) sorted_same

  pub count_too : d.count ≡ length read_too.0
  count_too = p.count ∙ length_reordered reordered

-- CIRCLES

unless_read : (u : Read (Unit {0})) (d : Drawn) (c : Circuit) (n p : ℕ) → unless u d ≡ accepted c n p → (u ≡ read tt) × (d.circuit ≡ c) × (d.count ≡ n)
unless_read (read u) d c n p e = (refl, cc, cc)
unless_read (refuse m q) d c n p e = absurd (let z : ◌≡◌ {A = ℕ} 0 1 = cc in omega arith)

pub accepted_drawn : (v : Read Drawn) (c : Circuit) (n p : ℕ) → verdict_of v ≡ accepted c n p → (d : Drawn) × (v ≡ read d) × ((check_circles d ≡ read tt) × (d.circuit ≡ c) × (d.count ≡ n))
accepted_drawn (read d) c n p e = (d, refl, unless_read (check_circles d) d c n p e)
accepted_drawn (refuse m q) c n p e = absurd (let z : ◌≡◌ {A = ℕ} 0 1 = cc in omega arith)

-- a circuit's circles do not depend on places
circles_too : (d : Drawn) (c : Circuit) (ps : List ℕ) → d.circuit ≡ c → length d.circuit.parts ≡ length (places d.names) → check_circles d ≡ read tt → refuse_first 23 (on_circle (length c.parts) (needs c.parts)) ps ≡ read tt
circles_too d c ps h l e =
    first_clear 23 (on_circle (length c.parts) (needs c.parts)) ps
    (subst (λ (x : Circuit). (i : ℕ) → get_or (on_circle (length x.parts) (needs x.parts)) i false ≡ false) h
    (first_read 23 (on_circle (length d.circuit.parts) (needs d.circuit.parts)) (places d.names) tt (flags_length (length d.circuit.parts) (needs d.circuit.parts) ∙ l) e))

-- THE WHOLE

module _ (s s' : Sections) (d : Drawn) (p : Passed s d) (whole : Complete s') (alike : SameButOrder s s') where
  tables : macro_table s.macros ≡ macro_table s'.macros
  tables = sym (table_of_texts s) ∙ (ap table_of alike.macros ∙ table_of_texts s')

  abbrev pub τ : Table
  τ = finished (macro_table s.macros)

  pub passed_parts : PartsPassed τ s d
  passed_parts = parts_passed τ s d p.parts

  abbrev pub d' : Drawn
  d' = other τ s s' d passed_parts alike.list alike.parts whole.parts_stop

  names_too : check_macro_names [] (map (λ m. m.0) s'.macros ++ s'.half) ≡ read tt
  names_too = new_macros [] s'.macros s'.half whole.no_half (subst (λ (t : Table). NewAll [] (names_of t)) tables (macros_new [] s.macros s.half tt p.names))

  macros_too : check_macros (sorted (macro_table s'.macros)) (places (macro_places s'.macros)) ≡ read tt
  macros_too =
      subst (λ (t : Table). check_macros (sorted t) (places (macro_places s'.macros)) ≡ read tt) tables
      (macros_other (sorted (macro_table s.macros)) (places (macro_places s.macros)) (places (macro_places s'.macros)) (table_length s.macros p.macros) p.macros)

  parts_too : drawn_parts (finished (macro_table s'.macros)) s' ≡ read d'
  parts_too =
      subst (λ (t : Table). drawn_parts (finished t) s' ≡ read d') tables
      (drawn_too τ s s' d passed_parts alike.list alike.parts whole.parts_stop whole.parts_stopped)

  pub drawn_from_too : drawn_from s' ≡ read d'
  drawn_from_too =
      read_bind (check_macro_names [] (map (λ (m : Word × Word). m.0) s'.macros ++ s'.half)) _ tt (read d') names_too
      (read_bind (check_macros (sorted (macro_table s'.macros)) (places (macro_places s'.macros))) _ tt (read d') macros_too
      (read_bind (check_list [] s'.listed) _ tt (read d') (new_list [] s'.listed (subst (ListNew []) alike.list (list_new [] s.listed tt p.list)))
      (read_bind (stop_at s'.after_list) _ whole.list_stop (read d') (ap stop_at whole.list_stopped) parts_too)))

  pub circuit_same : d.circuit ≡ d'.circuit
  circuit_same = circuit_too τ s s' d passed_parts alike.list alike.parts

  pub count_same : d.count ≡ d'.count
  count_same = count_too τ s s' d passed_parts alike.list alike.parts

  pub circles_same : check_circles d ≡ read tt → check_circles d' ≡ read tt
  circles_same e = circles_too d d'.circuit (places d'.names) circuit_same (parts_length τ s d p.parts ∙ sym (places_length τ s d p.parts)) e

pub accepted_alike : AcceptedAlike
accepted_alike t t' c n p e l whole alike =
    let a = accepted_drawn (drawn t) c n p e in
    let q = passed (sections t) a.0 (short_read (leb (length t) 131072) t a.0 a.1) in
    let o : Drawn = d' (sections t) (sections t') a.0 q whole alike in
    let is-drawn : drawn t' ≡ read o = ap (λ b. if_short b t') (le-leb (length t') 131072 l) ∙ drawn_from_too (sections t) (sections t') a.0 q whole alike in
    let no-circles = circles_same (sections t) (sections t') a.0 q whole alike a.2.0 in
    ap verdict_of is-drawn
    ∙ (ap (λ u. unless u o) no-circles
    ∙ ap₂ (λ (x : Circuit) (k : ℕ). accepted x k (whole.parts_stop + 1))
    (sym (circuit_same (sections t) (sections t') a.0 q whole alike) ∙ a.2.1)
    (sym (count_same (sections t) (sections t') a.0 q whole alike) ∙ a.2.2))
