-- Two accepted texts that differ only in the order of their parts give one circuit: each part is read by itself,
-- and parts with different names are sorted in one way.
use Rattle.std.proofs.Common.{◌≡◌, ℕ, suc, Bool, true, false, leb, List, [], ◌++◌, map, length, sym, refl, ap, ◌∙◌, subst, ap₂, arith}
use mathlib.Core.List.{map-map}
use Rattle.scan.specs.Names.{Bytes}
use Rattle.scan.specs.Words.{Word, texts}
use Rattle.verdict.specs.Macros.{Table, finished, names_of}
use Rattle.verdict.specs.Parts.{Part, read_part}
use Rattle.verdict.specs.Limits.{nothing}
use Rattle.verdict.specs.Sections.{Sections, sections}
use Rattle.verdict.specs.Circuit.{sorted, ranked, Circuit, circuit_of}
use Rattle.verdict.specs.Verdict.{Read, read, refuse, stop_at, macro_name, macro_table, macro_places, places, check_macro_names, check_macros, check_list, entry, read_parts, check_whole, list_places, part_places, Drawn, drawn_parts, drawn_from, if_short, drawn, check_circles, accepted, unless, verdict_of, verdict}
use Rattle.verdict.specs.Lines.{Reordered, keep, swap, twice, macro_texts, part_texts, LinesMeanNothing}
use Rattle.verdict.proofs.Orders.{Distinct, map_reordered, sorted_reordered}
use Rattle.verdict.proofs.Inversions.{read_same, not_read, bind_read}
use Rattle.verdict.proofs.Readings.{made, read_parts_made, read_parts_apart, apart_distinct}

-- the macros' table, from their words alone
abbrev pub table_of : List (Bytes × Bytes) → Table
table_of ms = map (λ m. (macro_name m.0, m.1)) ms

pub table_of_texts : (s : Sections) → table_of (macro_texts s) ≡ macro_table s.macros
table_of_texts s = map-map (λ (m : Bytes × Bytes). (macro_name m.0, m.1)) (λ (m : Word × Word). (m.0.text, m.1.text)) s.macros

-- the parts that the words mean
abbrev parts_of : List (Bytes × Bytes) → List (List Bytes) → List Part
parts_of ms gs = map (λ ws. made (read_part (finished (table_of ms)) ws)) gs

-- what an accepted text's circuit is: a function of the words alone
pub record Means (s : Sections) (c : Circuit) (n : ℕ) : Type 0 where
  pub circuit : c ≡ circuit_of (map entry (texts s.listed)) (parts_of (macro_texts s) (part_texts s))
  pub count : n ≡ length (parts_of (macro_texts s) (part_texts s))
  pub distinct : Distinct (names_of (parts_of (macro_texts s) (part_texts s)))

pub drawn_parts_means : (t : Table) (s : Sections) (d : Drawn) → drawn_parts t s ≡ read d → (ps : List Part) × (read_parts t s.after_parts nothing s.parts ≡ read ps) × (d.circuit ≡ circuit_of (map entry (texts s.listed)) ps) × (d.count ≡ length ps) × (d.names ≡ part_places s.parts)
drawn_parts_means t s d e =
    let a = bind_read (read_parts t s.after_parts nothing s.parts) _ d e in
    let b = bind_read (stop_at s.after_parts) _ d a.2 in
    let c = bind_read (check_whole t s (list_places s.listed) (part_places s.parts)) _ d b.2 in
    let z = read_same _ d c.2 in
    (a.0, a.1, sym (ap (λ (x : Drawn). x.circuit) z), sym (ap (λ (x : Drawn). x.count) z), sym (ap (λ (x : Drawn). x.names) z))

pub drawn_from_parts : (s : Sections) (d : Drawn) → drawn_from s ≡ read d → drawn_parts (finished (macro_table s.macros)) s ≡ read d
drawn_from_parts s d e =
    let a = bind_read (check_macro_names [] (map (λ (m : Word × Word). m.0) s.macros ++ s.half)) _ d e in
    let b = bind_read (check_macros (sorted (macro_table s.macros)) (places (macro_places s.macros))) _ d a.2 in
    let c = bind_read (check_list [] s.listed) _ d b.2 in
    let f = bind_read (stop_at s.after_list) _ d c.2 in
    f.2

unless_accepted : (u : Read (Unit {0})) (d : Drawn) (c : Circuit) (n p : ℕ) → unless u d ≡ accepted c n p → (d.circuit ≡ c) × (d.count ≡ n)
unless_accepted (read u) d c n p e = (cc, cc)
unless_accepted (refuse m q) d c n p e = absurd (let z : ◌≡◌ {A = ℕ} 0 1 = cc in omega arith)

accepted_read : (v : Read Drawn) (c : Circuit) (n p : ℕ) → verdict_of v ≡ accepted c n p → (d : Drawn) × (v ≡ read d) × (d.circuit ≡ c) × (d.count ≡ n)
accepted_read (read d) c n p e = let u = unless_accepted (check_circles d) d c n p e in (d, refl, u.0, u.1)
accepted_read (refuse m q) c n p e = absurd (let z : ◌≡◌ {A = ℕ} 0 1 = cc in omega arith)

pub short_read : (b : Bool) (t : Bytes) (d : Drawn) → if_short b t ≡ read d → drawn_from (sections t) ≡ read d
short_read true t d e = e
short_read false t d e = not_read 10 0 d e

drawn_from_means : (s : Sections) (d : Drawn) → drawn_from s ≡ read d → Means s d.circuit d.count
drawn_from_means s d e =
    let j = drawn_parts_means (finished (macro_table s.macros)) s d (drawn_from_parts s d e) in
    let m : parts_of (macro_texts s) (part_texts s) ≡ j.0 =
    ap (λ (t : Table). map (λ ws. made (read_part (finished t) ws)) (part_texts s)) (table_of_texts s)
    ∙ read_parts_made (finished (macro_table s.macros)) s.after_parts nothing s.parts j.0 j.1 in
    record {
      circuit = j.2 ∙ ap (circuit_of (map entry (texts s.listed))) (sym m);
      count = j.3 ∙ ap length (sym m);
      distinct = subst (λ (ps : List Part). Distinct (names_of ps)) (sym m) (apart_distinct [] (names_of j.0) (read_parts_apart (finished (macro_table s.macros)) s.after_parts nothing s.parts j.0 j.1));
    }

pub accepted_means : (t : Bytes) (c : Circuit) (n p : ℕ) → verdict t ≡ accepted c n p → Means (sections t) c n
accepted_means t c n p e =
    let a = accepted_read (drawn t) c n p e in
    let m = drawn_from_means (sections t) a.0 (short_read (leb (length t) 131072) t a.0 a.1) in
    record { circuit = sym a.2 ∙ m.circuit; count = sym a.3 ∙ m.count; distinct = m.distinct }

pub length_reordered : {X : Type 0} {xs ys : List X} → Reordered xs ys → length xs ≡ length ys
length_reordered Reordered.nothing = refl
length_reordered (keep x r) = ap suc (length_reordered r)
length_reordered (swap x y xs) = refl
length_reordered (twice r s) = length_reordered r ∙ length_reordered s

pub lines_mean_nothing : LinesMeanNothing
lines_mean_nothing t t' c c' n n' p p' e e' alike =
    let s = sections t in
    let s' = sections t' in
    let m = accepted_means t c n p e in
    let m' = accepted_means t' c' n' p' e' in
    let read_by : List Bytes → Part = λ ws. made (read_part (finished (table_of (macro_texts s))) ws) in
    let r : Reordered (parts_of (macro_texts s) (part_texts s)) (parts_of (macro_texts s) (part_texts s')) = map_reordered read_by alike.parts in
    let q : parts_of (macro_texts s) (part_texts s') ≡ parts_of (macro_texts s') (part_texts s') = ap (λ ms. parts_of ms (part_texts s')) alike.macros in
    let o : sorted (parts_of (macro_texts s) (part_texts s)) ≡ sorted (parts_of (macro_texts s') (part_texts s')) = sorted_reordered r m.distinct ∙ ap sorted q in
    let same : circuit_of (map entry (texts s.listed)) (parts_of (macro_texts s) (part_texts s)) ≡ circuit_of (map entry (texts s'.listed)) (parts_of (macro_texts s') (part_texts s')) =
    ap₂ (λ (l : List (Bytes × Bool)) (ps : List Part). record { listed = l; parts = ranked ps }) (ap (map entry) alike.list) o in
    (m.circuit ∙ (same ∙ sym m'.circuit), m.count ∙ ((length_reordered r ∙ ap length q) ∙ sym m'.count))
