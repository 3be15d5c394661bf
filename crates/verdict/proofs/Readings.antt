-- What reading one part comes to: its name is claimed once, first.
use Rattle.std.proofs.Common.{◌≡◌, ℕ, zero, suc, ◌+◌, true, false, not, ltb, leb, List, [], ◌∷◌, map, length, drop, sym, refl, ap, ◌∙◌, subst, ap₂}
use Rattle.std.proofs.lemmas.Bool.{not-true, or_from, or_left, or_right, both_ways}
use Rattle.scan.specs.Names.{Bytes, is_name, same, among}
use Rattle.scan.specs.Words.{Word, texts}
use Rattle.numbers.specs.Judged.{Judged, good, bad, check}
use Rattle.verdict.specs.Items.{Expression}
use Rattle.verdict.specs.Macros.{Table, Size, zeros, given, size_field, number_field, expression_field, names_of}
use Rattle.verdict.specs.Parts as parts
use Rattle.verdict.specs.Parts.{memory, Part, a_name, some_items, some_words, Reading, reads, refuses, lacks, claims, judged, word_at, ends_at, expression_in, expression_at, cases_from, has_case, numbers_from, first_words, Kind, an_alu, a_selector, a_memory, none, kind_of, read_kind, read_part}
use Rattle.verdict.specs.Limits.{new_name, Taken, taking}
use Rattle.verdict.specs.Sections.{Next, word_from, text_end}
use Rattle.verdict.specs.Verdict.{read, at, place_in, next_word, settle, read_parts}
use Rattle.verdict.proofs.Orders.{same_refl, same_not, Distinct}
use Rattle.verdict.proofs.Inversions.{read_same, good_same, not_read, bind_read, at_read, bind_good, check_good}

-- no name is claimed, and what is read at the end has the property P
abbrev pub Ends : {X : Type 0} → (X → Type 0) → Reading X → Type 0
Ends P (reads x) = P x
Ends P (refuses n i) = Unit {0}
Ends P (lacks n) = Unit {0}
Ends P (claims (a_name n) i r) = ⊥
Ends P (claims (some_items e) i r) = Ends P r
Ends P (claims (some_words n) i r) = Ends P r

abbrev Any : {X : Type 0} → X → Type 0
Any x = Unit {0}

ends_bind : {X Y : Type 0} (Q : Y → Type 0) (r : Reading X) (f : X → Reading Y) → Ends Any r → ((x : X) → Ends Q (f x)) → Ends Q (parts.◌>>=◌ r f)
ends_bind Q (reads x) f e h = h x
ends_bind Q (refuses n i) f e h = tt
ends_bind Q (lacks n) f e h = tt
ends_bind Q (claims (a_name n) i r) f e h = absurd e
ends_bind Q (claims (some_items s) i r) f e h = ends_bind Q r f e h
ends_bind Q (claims (some_words n) i r) f e h = ends_bind Q r f e h

judged_ends : {X : Type 0} (i : ℕ) (j : Judged X) → Ends Any (judged i j)
judged_ends i (good x) = tt
judged_ends i (bad n) = tt

word_at_ends : (ws : List Bytes) (i : ℕ) → Ends Any (word_at ws i)
word_at_ends [] i = tt
word_at_ends (w ∷ ws) zero = tt
word_at_ends (w ∷ ws) (suc i) = word_at_ends ws i

ends_at_ends : (ws : List Bytes) (i : ℕ) → Ends Any (ends_at ws i)
ends_at_ends ws i = judged_ends i (check (leb (length ws) i) 11)

expression_in_ends : (t : Table) (w : Bytes) (i : ℕ) → Ends Any (expression_in t w i)
expression_in_ends t w i = ends_bind Any (judged i (expression_field t w)) _ (judged_ends i (expression_field t w)) (λ e. tt)

expression_at_ends : (t : Table) (ws : List Bytes) (i : ℕ) → Ends Any (expression_at t ws i)
expression_at_ends t ws i = ends_bind Any (word_at ws i) _ (word_at_ends ws i) (λ w. expression_in_ends t w i)

has_case_ends : (ws : List Bytes) → Ends Any (has_case ws)
has_case_ends [] = tt
has_case_ends (w ∷ ws) = tt

cases_from_ends : (t : Table) (i : ℕ) (ws : List Bytes) → Ends Any (cases_from t i ws)
cases_from_ends t i [] = tt
cases_from_ends t i (w ∷ ws) =
    ends_bind Any (expression_in t w i) _ (expression_in_ends t w i) (λ e.
    ends_bind Any (judged i (check (leb i 130) 16)) _ (judged_ends i (check (leb i 130) 16)) (λ u.
    ends_bind Any (cases_from t (i + 1) ws) _ (cases_from_ends t (i + 1) ws) (λ es. tt)))

numbers_from_ends : (t : Table) (ws : List Bytes) (i k : ℕ) → Ends Any (numbers_from t ws i k)
numbers_from_ends t ws i zero = tt
numbers_from_ends t ws i (suc k) =
    ends_bind Any (word_at ws i) _ (word_at_ends ws i) (λ w.
    ends_bind Any (judged i (number_field t w)) _ (judged_ends i (number_field t w)) (λ v.
    ends_bind Any (numbers_from t ws (i + 1) k) _ (numbers_from_ends t ws (i + 1) k) (λ vs. tt)))

first_words_ends : (t : Table) (ws : List Bytes) (s : Size) → Ends Any (first_words t ws s)
first_words_ends t ws (zeros n) = ends_bind Any (ends_at ws 6) _ (ends_at_ends ws 6) (λ u. tt)
first_words_ends t ws (given n) =
    ends_bind Any (numbers_from t ws 6 n) _ (numbers_from_ends t ws 6 n) (λ vs.
    ends_bind Any (ends_at ws (6 + n)) _ (ends_at_ends ws (6 + n)) (λ u. tt))

-- the first claim, if any, is of the part's name, and no other is of a name
abbrev pub Opens : Reading Part → Type 0
Opens (reads p) = ⊥
Opens (refuses n i) = Unit {0}
Opens (lacks n) = Unit {0}
Opens (claims (a_name n) i r) = Ends (λ (p : Part). p.0 ≡ n) r
Opens (claims (some_items e) i r) = ⊥
Opens (claims (some_words n) i r) = ⊥

-- the part's name is n
abbrev Named : Bytes → Part → Type 0
Named n p = p.0 ≡ n

read_kind_opens : (k : Kind) (t : Table) (ws : List Bytes) → Opens (read_kind k t ws)
read_kind_opens none t ws = tt
read_kind_opens an_alu t [] = tt
read_kind_opens an_alu t (w ∷ []) = tt
read_kind_opens an_alu t (w ∷ n ∷ more) =
    let ws : List Bytes = w ∷ n ∷ more in
    ends_bind (Named n) (expression_at t ws 2) _ (expression_at_ends t ws 2) (λ f.
    ends_bind (Named n) (expression_at t ws 3) _ (expression_at_ends t ws 3) (λ l.
    ends_bind (Named n) (expression_at t ws 4) _ (expression_at_ends t ws 4) (λ r.
    ends_bind (Named n) (ends_at ws 5) _ (ends_at_ends ws 5) (λ u. refl))))
read_kind_opens a_selector t [] = tt
read_kind_opens a_selector t (w ∷ []) = tt
read_kind_opens a_selector t (w ∷ n ∷ more) =
    let ws : List Bytes = w ∷ n ∷ more in
    ends_bind (Named n) (expression_at t ws 2) _ (expression_at_ends t ws 2) (λ s.
    ends_bind (Named n) (has_case (drop 3 ws)) _ (has_case_ends (drop 3 ws)) (λ u.
    ends_bind (Named n) (cases_from t 3 (drop 3 ws)) _ (cases_from_ends t 3 (drop 3 ws)) (λ cs. refl)))
read_kind_opens a_memory t [] = tt
read_kind_opens a_memory t (w ∷ []) = tt
read_kind_opens a_memory t (w ∷ n ∷ more) =
    let ws : List Bytes = w ∷ n ∷ more in
    ends_bind (Named n) (expression_at t ws 2) _ (expression_at_ends t ws 2) (λ a.
    ends_bind (Named n) (expression_at t ws 3) _ (expression_at_ends t ws 3) (λ d.
    ends_bind (Named n) (expression_at t ws 4) _ (expression_at_ends t ws 4) (λ o.
    ends_bind (Named n) (word_at ws 5) _ (word_at_ends ws 5) (λ v.
    ends_bind (Named n) (judged 5 (size_field t v)) _ (judged_ends 5 (size_field t v)) (λ s.
    ends_bind (Named n) (first_words t ws s) _ (first_words_ends t ws s) (λ vs. refl))))))

pub read_part_opens : (t : Table) (ws : List Bytes) → Opens (read_part t ws)
read_part_opens t [] = tt
read_part_opens t (w ∷ ws) = read_kind_opens (kind_of w) t (w ∷ ws)

-- what was read, whatever was claimed
abbrev pub made : Reading Part → Part
made (reads p) = p
made (refuses n i) = ([], memory [] [] [] [])
made (lacks n) = ([], memory [] [] [] [])
made (claims c i r) = made r

pub not_missing : {X Y : Type 0} (n : ℕ) (next : Next) (x : X) → Rattle.verdict.specs.Verdict.missing n next ≡ read x → Y
not_missing n (word_from p) x e = not_read n p x e
not_missing n (text_end p) x e = not_read 12 p x e

pub settle_made : (ws : List Word) (next : Next) (k : Taken) (r : Reading Part) (pk : Part × Taken) → settle ws next k r ≡ read pk → made r ≡ pk.0
settle_made ws next k (reads p) pk e = ap (λ (q : Part × Taken). q.0) (read_same (p, k) pk e)
settle_made ws next k (refuses n i) pk e = not_read n (place_in ws i) pk e
settle_made ws next k (lacks n) pk e = not_missing n next pk e
settle_made ws next k (claims c i r) pk e =
    let h = bind_read (at (place_in ws i) (taking k c)) (λ k'. settle ws next k' r) pk e in
    settle_made ws next h.0 r pk h.2

-- items and memory words leave the names as they are
items_names : (k k' : Taken) (e : Expression Bytes) → taking k (some_items e) ≡ good k' → k.names ≡ k'.names
items_names k k' e h =
    let b = bind_good (check (leb (k.items + length e) 2048) 16) _ k' h in
    ap (λ (x : Taken). x.names) (good_same _ k' b.2)

words_names : (k k' : Taken) (n : ℕ) → taking k (some_words n) ≡ good k' → k.names ≡ k'.names
words_names k k' n h =
    let b = bind_good (check (leb (k.memory + n) 4096) 16) _ k' h in
    ap (λ (x : Taken). x.names) (good_same _ k' b.2)

-- a name that was taken is new, and is then met
pub name_new : (met : List Bytes) (n : Bytes) (u : Unit {0}) → new_name met n ≡ good u → among met n ≡ false
name_new met n u h =
    let b = bind_good (check (is_name n) 11) _ u h in
    let c = bind_good (check (ltb (length met) 64) 16) _ u b.2 in
    not-true (among met n) (check_good (not (among met n)) 17 u c.2)

name_taken : (k k' : Taken) (n : Bytes) → taking k (a_name n) ≡ good k' → (among k.names n ≡ false) × (n ∷ k.names ≡ k'.names)
name_taken k k' n h =
    let b = bind_good (new_name k.names n) _ k' h in
    (name_new k.names n b.0 b.1, ap (λ (x : Taken). x.names) (good_same _ k' b.2))

module _ {X : Type 0} (P : X → Type 0) (ws : List Word) (next : Next) where
  settle_ends : (k : Taken) (r : Reading X) (xk : X × Taken) → Ends P r → settle ws next k r ≡ read xk → P xk.0 × (k.names ≡ xk.1.names)
  settle_ends k (reads x) xk h e =
      let s = read_same (x, k) xk e in
      (subst P (ap (λ (q : X × Taken). q.0) s) h, ap (λ (q : X × Taken). q.1.names) s)
  settle_ends k (refuses n i) xk h e = not_read n (place_in ws i) xk e
  settle_ends k (lacks n) xk h e = not_missing n next xk e
  settle_ends k (claims (a_name n) i r) xk h e = absurd h
  settle_ends k (claims (some_items s) i r) xk h e =
      let b = bind_read (at (place_in ws i) (taking k (some_items s))) (λ k'. settle ws next k' r) xk e in
      let c = settle_ends b.0 r xk h b.2 in
      (c.0, items_names k b.0 s (at_read (place_in ws i) (taking k (some_items s)) b.0 b.1) ∙ c.1)
  settle_ends k (claims (some_words n) i r) xk h e =
      let b = bind_read (at (place_in ws i) (taking k (some_words n))) (λ k'. settle ws next k' r) xk e in
      let c = settle_ends b.0 r xk h b.2 in
      (c.0, words_names k b.0 n (at_read (place_in ws i) (taking k (some_words n)) b.0 b.1) ∙ c.1)

-- the name of a part that was read was not met before it, and is met after it
pub settle_opens : (ws : List Word) (next : Next) (k : Taken) (r : Reading Part) (pk : Part × Taken) → Opens r → settle ws next k r ≡ read pk → (among k.names pk.0.0 ≡ false) × (pk.0.0 ∷ k.names ≡ pk.1.names)
settle_opens ws next k (reads p) pk h e = absurd h
settle_opens ws next k (refuses n i) pk h e = not_read n (place_in ws i) pk e
settle_opens ws next k (lacks n) pk h e = not_missing n next pk e
settle_opens ws next k (claims (a_name n) i r) pk h e =
    let b = bind_read (at (place_in ws i) (taking k (a_name n))) (λ k'. settle ws next k' r) pk e in
    let c = settle_ends (Named n) ws next b.0 r pk h b.2 in
    let d = name_taken k b.0 n (at_read (place_in ws i) (taking k (a_name n)) b.0 b.1) in
    (ap (among k.names) c.0 ∙ d.0, ap (λ m. m ∷ k.names) c.0 ∙ (d.1 ∙ c.1))
settle_opens ws next k (claims (some_items s) i r) pk h e = absurd h
settle_opens ws next k (claims (some_words n) i r) pk h e = absurd h

-- the parts are what the reader of one part makes of each part's words
pub read_parts_made : (t : Table) (end : Next) (k : Taken) (gs : List (List Word)) (ps : List Part) → read_parts t end k gs ≡ read ps → map (λ ws. made (read_part t ws)) (map texts gs) ≡ ps
read_parts_made t end k [] ps e = read_same [] ps e
read_parts_made t end k (ws ∷ more) ps e =
    let b = bind_read (settle ws (next_word more end) k (read_part t (texts ws))) _ ps e in
    let c = bind_read (read_parts t end b.0.1 more) _ ps b.2 in
    ap₂ (λ (p : Part) (qs : List Part). p ∷ qs) (settle_made ws (next_word more end) k (read_part t (texts ws)) b.0 b.1) (read_parts_made t end b.0.1 more c.0 c.1)
    ∙ read_same (b.0.0 ∷ c.0) ps c.2

-- names of which each was met neither among the first ones nor before it
abbrev pub Apart : List Bytes → List Bytes → Type 0
Apart met [] = Unit {0}
Apart met (n ∷ ns) = (among met n ≡ false) × Apart (n ∷ met) ns

pub read_parts_apart : (t : Table) (end : Next) (k : Taken) (gs : List (List Word)) (ps : List Part) → read_parts t end k gs ≡ read ps → Apart k.names (names_of ps)
read_parts_apart t end k [] ps e = subst (λ (qs : List Part). Apart k.names (names_of qs)) (read_same [] ps e) tt
read_parts_apart t end k (ws ∷ more) ps e =
    let b = bind_read (settle ws (next_word more end) k (read_part t (texts ws))) _ ps e in
    let c = bind_read (read_parts t end b.0.1 more) _ ps b.2 in
    let d = settle_opens ws (next_word more end) k (read_part t (texts ws)) b.0 (read_part_opens t (texts ws)) b.1 in
    let rest = read_parts_apart t end b.0.1 more c.0 c.1 in
    subst (λ (qs : List Part). Apart k.names (names_of qs)) (read_same (b.0.0 ∷ c.0) ps c.2)
    (d.0, subst (λ (met : List Bytes). Apart met (names_of c.0)) (sym d.1) rest)

apart_from : (met ns : List Bytes) → Apart met ns → (n : Bytes) → among met n ≡ true → among ns n ≡ false
apart_from met [] a n h = refl
apart_from met (m ∷ ns) a n h =
    or_from (same m n) (among ns n)
    (same_not m n (λ e. both_ways (among met m) a.0 (subst (λ x. among met x ≡ true) (sym e) h)))
    (apart_from (m ∷ met) ns a.1 n (or_right (same m n) (among met n) h))

pub apart_distinct : (met ns : List Bytes) → Apart met ns → Distinct ns
apart_distinct met [] a = tt
apart_distinct met (n ∷ ns) a = (apart_from (n ∷ met) ns a.1 n (or_left (same n n) (among met n) (same_refl n)), apart_distinct (n ∷ met) ns a.1)
