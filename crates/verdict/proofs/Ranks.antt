-- A part's name is its second word, and sorting looks at names alone: so the places told go with the circuit's parts.
use Rattle.std.proofs.Common.{◌≡◌, ℕ, Bool, true, false, cond, leb, List, [], ◌∷◌, map, length, get_or, drop, sym, refl, ap, ◌∙◌, ap₂}
use mathlib.Core.List.{map-map}
use Rattle.scan.specs.Names.{Bytes, before}
use Rattle.scan.specs.Words.{Word, texts}
use Rattle.verdict.specs.Macros.{Table, names_of, finished}
use Rattle.verdict.specs.Parts as parts
use Rattle.verdict.specs.Parts.{Part, Reading, reads, refuses, lacks, claims, Kind, an_alu, a_selector, a_memory, none, kind_of, read_kind, read_part, word_at, judged, ends_at, expression_at, has_case, cases_from, first_words}
use Rattle.verdict.specs.Limits.{Taken, nothing, taking}
use Rattle.verdict.specs.Sections.{Next, Sections, sections}
use Rattle.verdict.specs.Circuit.{insert, sorted, rank_body, Circuit}
use Rattle.verdict.specs.Verdict.{read, at, place_in, next_word, settle, read_parts, Drawn, drawn_parts, macro_table}
use Rattle.verdict.specs.Lines.{NamesByRank}
use Rattle.verdict.proofs.Inversions.{read_same, not_read, bind_read}
use Rattle.verdict.proofs.Readings.{not_missing}
use Rattle.verdict.proofs.Theorem.{drawn_parts_means, drawn_from_parts, short_read}

-- what is read at the end is a part of this name
NamedBy : Bytes → Reading Part → Type 0
NamedBy n (reads p) = p.0 ≡ n
NamedBy n (refuses m i) = Unit {0}
NamedBy n (lacks m) = Unit {0}
NamedBy n (claims c i r) = NamedBy n r

named_bind : {X : Type 0} (n : Bytes) (r : Reading X) (f : X → Reading Part) → ((x : X) → NamedBy n (f x)) → NamedBy n (parts.◌>>=◌ r f)
unfolding NamedBy
named_bind n (reads x) f h = h x
named_bind n (refuses m i) f h = tt
named_bind n (lacks m) f h = tt
named_bind n (claims c i r) f h = named_bind n r f h

read_kind_named : (k : Kind) (t : Table) (ws : List Bytes) → NamedBy (get_or ws 1 []) (read_kind k t ws)
unfolding NamedBy
read_kind_named none t ws = tt
read_kind_named an_alu t [] = tt
read_kind_named an_alu t (w ∷ []) = tt
read_kind_named an_alu t (w ∷ n ∷ more) =
    named_bind n (expression_at t (w ∷ n ∷ more) 2) _ (λ f. named_bind n (expression_at t (w ∷ n ∷ more) 3) _ (λ l. named_bind n (expression_at t (w ∷ n ∷ more) 4) _ (λ r. named_bind n (ends_at (w ∷ n ∷ more) 5) _ (λ u. refl))))
read_kind_named a_selector t [] = tt
read_kind_named a_selector t (w ∷ []) = tt
read_kind_named a_selector t (w ∷ n ∷ more) =
    named_bind n (expression_at t (w ∷ n ∷ more) 2) _ (λ s. named_bind n (has_case (drop 3 (w ∷ n ∷ more))) _ (λ u. named_bind n (cases_from t 3 (drop 3 (w ∷ n ∷ more))) _ (λ cs. refl)))
read_kind_named a_memory t [] = tt
read_kind_named a_memory t (w ∷ []) = tt
read_kind_named a_memory t (w ∷ n ∷ more) =
    named_bind n (expression_at t (w ∷ n ∷ more) 2) _ (λ a. named_bind n (expression_at t (w ∷ n ∷ more) 3) _ (λ d. named_bind n (expression_at t (w ∷ n ∷ more) 4) _ (λ o.
    named_bind n (word_at (w ∷ n ∷ more) 5) _ (λ v. named_bind n (judged 5 (Rattle.verdict.specs.Macros.size_field t v)) _ (λ s. named_bind n (first_words t (w ∷ n ∷ more) s) _ (λ vs. refl))))))

read_part_named : (t : Table) (ws : List Bytes) → NamedBy (get_or ws 1 []) (read_part t ws)
unfolding NamedBy
read_part_named t [] = tt
read_part_named t (w ∷ ws) = read_kind_named (kind_of w) t (w ∷ ws)

settle_named : (n : Bytes) (ws : List Word) (next : Next) (k : Taken) (r : Reading Part) (pk : Part × Taken) → NamedBy n r → settle ws next k r ≡ read pk → n ≡ pk.0.0
unfolding NamedBy
settle_named n ws next k (reads p) pk h e = sym h ∙ ap (λ (q : Part × Taken). q.0.0) (read_same (p, k) pk e)
settle_named n ws next k (refuses m i) pk h e = not_read m (place_in ws i) pk e
settle_named n ws next k (lacks m) pk h e = not_missing m next pk e
settle_named n ws next k (claims c i r) pk h e =
    let b = bind_read (at (place_in ws i) (taking k c)) (λ k'. settle ws next k' r) pk e in
    settle_named n ws next b.0 r pk h b.2

-- the name of a part's words
abbrev pub second : List Word → Bytes
second ws = get_or (texts ws) 1 []

pub read_parts_names : (t : Table) (end : Next) (k : Taken) (gs : List (List Word)) (ps : List Part) → read_parts t end k gs ≡ read ps → map second gs ≡ names_of ps
read_parts_names t end k [] ps e = ap names_of (read_same [] ps e)
read_parts_names t end k (ws ∷ more) ps e =
    let b = bind_read (settle ws (next_word more end) k (read_part t (texts ws))) _ ps e in
    let c = bind_read (read_parts t end b.0.1 more) _ ps b.2 in
    ap₂ (λ (n : Bytes) (ns : List Bytes). n ∷ ns) (settle_named (second ws) ws (next_word more end) k (read_part t (texts ws)) b.0 (read_part_named t (texts ws)) b.1) (read_parts_names t end b.0.1 more c.0 c.1)
    ∙ ap names_of (read_same (b.0.0 ∷ c.0) ps c.2)

-- names in order
abbrev pub insert_name : Bytes → List Bytes → List Bytes
insert_name n [] = n ∷ []
insert_name n (m ∷ ms) = cond (before n m) (n ∷ m ∷ ms) (m ∷ insert_name n ms)

abbrev pub sort_names : List Bytes → List Bytes
sort_names [] = []
sort_names (n ∷ ns) = insert_name n (sort_names ns)

names_insert : {X : Type 0} (e : Bytes × X) (es : List (Bytes × X)) → names_of (insert e es) ≡ insert_name e.0 (names_of es)
names_insert e [] = refl
names_insert e (x ∷ es) = by (before e.0 x.0) (names_insert e es)
  where
    by : (b : Bool) → names_of (insert e es) ≡ insert_name e.0 (names_of es) → names_of (cond b (e ∷ x ∷ es) (x ∷ insert e es)) ≡ cond b (e.0 ∷ x.0 ∷ names_of es) (x.0 ∷ insert_name e.0 (names_of es))
    by true h = refl
    by false h = ap (λ ns. x.0 ∷ ns) h

pub names_sorted : {X : Type 0} (es : List (Bytes × X)) → names_of (sorted es) ≡ sort_names (names_of es)
names_sorted [] = refl
names_sorted (e ∷ es) = names_insert e (sorted es) ∙ ap (insert_name e.0) (names_sorted es)

by_rank : (t : Table) (s : Sections) (d : Drawn) → drawn_parts t s ≡ read d → names_of d.names ≡ names_of d.circuit.parts
by_rank t s d e =
    let m = drawn_parts_means t s d e in
    let entry_of : List Word → Bytes × ℕ = λ ws. (second ws, place_in ws 1) in
    ap names_of m.4
    ∙ (names_sorted (map entry_of s.parts)
    ∙ (ap sort_names (map-map (λ (x : Bytes × ℕ). x.0) entry_of s.parts ∙ read_parts_names t s.after_parts nothing s.parts m.0 m.1)
    ∙ (sym (names_sorted m.0)
    ∙ (sym (map-map (λ (x : Bytes × parts.Body ℕ). x.0) (λ (p : Part). (p.0, rank_body (names_of (sorted m.0)) p.1)) (sorted m.0))
    ∙ sym (ap (λ (c : Circuit). names_of c.parts) m.2)))))

pub names_by_rank : NamesByRank
names_by_rank t d e =
    by_rank (finished (macro_table (sections t).macros)) (sections t) d (drawn_from_parts (sections t) d (short_read (leb (length t) 131072) t d e))
