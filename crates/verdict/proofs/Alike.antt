-- A text that differs from an accepted one only in the order of its parts is accepted too: each check looks at words without their
-- places, and what the parts claim together does not depend on their order.
use Rattle.std.proofs.Common.{◌≡◌, ℕ, not, List, [], ◌∷◌, ◌++◌, map, sym, refl, ap, ◌∙◌, subst}
use Rattle.scan.specs.Names.{Bytes, all}
use Rattle.scan.specs.Words.{Word, texts}
use Rattle.numbers.specs.Judged as judging
use Rattle.numbers.specs.Judged.{Judged, good, check}
use Rattle.verdict.specs.Letters.{is_part_letter}
use Rattle.verdict.specs.Macros.{Table, names_of}
use Rattle.verdict.specs.Parts.{Part, Claim, a_name, some_items, some_words, Reading, reads, refuses, lacks, claims, read_part}
use Rattle.verdict.specs.Limits.{new_name, Taken, taking}
use Rattle.verdict.specs.Sections.{Next}
use Rattle.verdict.specs.Verdict.{Read, read, ◌>>=◌, at, macro_name, check_macro_names, macro_table, entry, check_list, place_in, next_word, settle, read_parts, item_known, check_items, check_expressions}
use Rattle.verdict.specs.Lines.{Reordered, keep, swap, twice}
use Rattle.verdict.proofs.Inversions.{read_same, good_same, not_read, bind_read, at_read, bind_good}
use Rattle.verdict.proofs.Readings.{made, not_missing}
use Rattle.verdict.proofs.Claims.{taking_all, AllRoom, plus_all, all_from, all_to, room_append, room_split}

-- READ AGAIN

pub read_bind : {X Y : Type 0} (m : Read X) (f : X → Read Y) (x : X) (y : Read Y) → m ≡ read x → f x ≡ y → (m >>= f) ≡ y
read_bind m f x y e h = ap (λ z. z >>= f) e ∙ h

at_good : {X : Type 0} (p : ℕ) (j : Judged X) (x : X) → j ≡ good x → at p j ≡ read x
at_good p j x e = ap (at p) e

-- each element has the property
abbrev pub Each : {X : Type 0} → (X → Type 0) → List X → Type 0
Each P [] = Unit {0}
Each P (x ∷ xs) = P x × Each P xs

pub each_reordered : {X : Type 0} (P : X → Type 0) {xs ys : List X} → Reordered xs ys → Each P xs → Each P ys
each_reordered P Reordered.nothing h = h
each_reordered P (keep x r) h = (h.0, each_reordered P r h.1)
each_reordered P (swap x y xs) h = (h.1.0, (h.0, h.1.1))
each_reordered P (twice r s) h = each_reordered P s (each_reordered P r h)

same_order : {X : Type 0} (xs : List X) → Reordered xs xs
same_order [] = Reordered.nothing
same_order (x ∷ xs) = keep x (same_order xs)

behind : {X : Type 0} (ls : List X) {xs ys : List X} → Reordered xs ys → Reordered (ls ++ xs) (ls ++ ys)
behind [] r = r
behind (a ∷ ls) r = keep a (behind ls r)

move : {X : Type 0} (a : X) (bs xs : List X) → Reordered (a ∷ (bs ++ xs)) (bs ++ (a ∷ xs))
move a [] xs = same_order (a ∷ xs)
move a (b ∷ bs) xs = twice (swap a b (bs ++ xs)) (keep b (move a bs xs))

swap_rows : {X : Type 0} (ls bs xs : List X) → Reordered (ls ++ (bs ++ xs)) (bs ++ (ls ++ xs))
swap_rows [] bs xs = same_order (bs ++ xs)
swap_rows (a ∷ ls) bs xs = twice (keep a (swap_rows ls bs xs)) (move a bs (ls ++ xs))

-- NAMES OF MACROS AND OF THE LIST

abbrev pub NewAll : List Bytes → List Bytes → Type 0
NewAll met [] = Unit {0}
NewAll met (n ∷ ns) = (new_name met n ≡ good tt) × NewAll (n ∷ met) ns

unit_good : (j : Judged (Unit {0})) (u : Unit {0}) → j ≡ good u → j ≡ good tt
unit_good j u e = e

pub macros_new : (met : List Bytes) (ms : List (Word × Word)) (half : List Word) (u : Unit {0}) → check_macro_names met (map (λ m. m.0) ms ++ half) ≡ read u → NewAll met (names_of (macro_table ms))
macros_new met [] half u e = tt
macros_new met (m ∷ ms) half u e =
    let b = bind_read (at m.0.at (new_name met (macro_name m.0.text))) _ u e in
    (at_read m.0.at (new_name met (macro_name m.0.text)) b.0 b.1, macros_new (macro_name m.0.text ∷ met) ms half u b.2)

pub new_macros : (met : List Bytes) (ms : List (Word × Word)) (half : List Word) → half ≡ [] → NewAll met (names_of (macro_table ms)) → check_macro_names met (map (λ m. m.0) ms ++ half) ≡ read tt
new_macros met [] half z h = ap (check_macro_names met) z
new_macros met (m ∷ ms) half z h =
    read_bind (at m.0.at (new_name met (macro_name m.0.text))) _ tt (read tt) (at_good m.0.at (new_name met (macro_name m.0.text)) tt h.0) (new_macros (macro_name m.0.text ∷ met) ms half z h.1)

abbrev pub ListNew : List Bytes → List Bytes → Type 0
ListNew met [] = Unit {0}
ListNew met (w ∷ ws) = (check (not (is_part_letter w)) 11 ≡ good tt) × ((new_name met (entry w).0 ≡ good tt) × ListNew ((entry w).0 ∷ met) ws)

pub list_new : (met : List Bytes) (ws : List Word) (u : Unit {0}) → check_list met ws ≡ read u → ListNew met (texts ws)
list_new met [] u e = tt
list_new met (w ∷ ws) u e =
    let b = bind_read (at w.at (check (not (is_part_letter w.text)) 11)) _ u e in
    let c = bind_read (at w.at (new_name met (entry w.text).0)) _ u b.2 in
    (at_read w.at (check (not (is_part_letter w.text)) 11) b.0 b.1, (at_read w.at (new_name met (entry w.text).0) c.0 c.1, list_new ((entry w.text).0 ∷ met) ws u c.2))

pub new_list : (met : List Bytes) (ws : List Word) → ListNew met (texts ws) → check_list met ws ≡ read tt
new_list met [] h = refl
new_list met (w ∷ ws) h =
    read_bind (at w.at (check (not (is_part_letter w.text)) 11)) _ tt (read tt) (at_good w.at (check (not (is_part_letter w.text)) 11) tt h.0)
    (read_bind (at w.at (new_name met (entry w.text).0)) _ tt (read tt) (at_good w.at (new_name met (entry w.text).0) tt h.1.0) (new_list ((entry w.text).0 ∷ met) ws h.1.1))

-- PARTS

abbrev pub claims_of : {X : Type 0} → Reading X → List Claim
claims_of (reads x) = []
claims_of (refuses n i) = []
claims_of (lacks n) = []
claims_of (claims c i r) = c ∷ claims_of r

-- something is read at the end
abbrev pub Reads : {X : Type 0} → Reading X → Type 0
Reads (reads x) = Unit {0}
Reads (refuses n i) = ⊥
Reads (lacks n) = ⊥
Reads (claims c i r) = Reads r

settle_reads : (ws : List Word) (next : Next) (k : Taken) (r : Reading Part) (pk : Part × Taken) → settle ws next k r ≡ read pk → Reads r × (taking_all k (claims_of r) ≡ good pk.1)
settle_reads ws next k (reads p) pk e = (tt, ap (λ (q : Part × Taken). good q.1) (read_same (p, k) pk e))
settle_reads ws next k (refuses n i) pk e = not_read n (place_in ws i) pk e
settle_reads ws next k (lacks n) pk e = not_missing n next pk e
settle_reads ws next k (claims c i r) pk e =
    let b = bind_read (at (place_in ws i) (taking k c)) (λ k'. settle ws next k' r) pk e in
    let s = settle_reads ws next b.0 r pk b.2 in
    (s.0, ap (λ j. judging.◌>>=◌ j (λ k'. taking_all k' (claims_of r))) (at_read (place_in ws i) (taking k c) b.0 b.1) ∙ s.1)

reads_settle : (ws : List Word) (next : Next) (k k' : Taken) (r : Reading Part) → Reads r → taking_all k (claims_of r) ≡ good k' → settle ws next k r ≡ read (made r, k')
reads_settle ws next k k' (reads p) h e = ap (λ (j : Taken). read (p, j)) (good_same k k' e)
reads_settle ws next k k' (refuses n i) h e = absurd h
reads_settle ws next k k' (lacks n) h e = absurd h
reads_settle ws next k k' (claims c i r) h e =
    let b = bind_good (taking k c) (λ j. taking_all j (claims_of r)) k' e in
    read_bind (at (place_in ws i) (taking k c)) _ b.0 (read (made r, k')) (at_good (place_in ws i) (taking k c) b.0 b.1) (reads_settle ws next b.0 k' r h b.2)

module _ (t : Table) where
  abbrev pub PartReads : List Bytes → Type 0
  PartReads ws = Reads (read_part t ws)

  abbrev pub all_claims : List (List Bytes) → List Claim
  all_claims [] = []
  all_claims (ws ∷ more) = claims_of (read_part t ws) ++ all_claims more

  pub claims_reordered : {gs hs : List (List Bytes)} → Reordered gs hs → Reordered (all_claims gs) (all_claims hs)
  claims_reordered Reordered.nothing = Reordered.nothing
  claims_reordered (keep g r) = behind (claims_of (read_part t g)) (claims_reordered r)
  claims_reordered (swap g h gs) = swap_rows (claims_of (read_part t g)) (claims_of (read_part t h)) (all_claims gs)
  claims_reordered (twice r s) = twice (claims_reordered r) (claims_reordered s)

  pub parts_room : (end : Next) (k : Taken) (gs : List (List Word)) (ps : List Part) → read_parts t end k gs ≡ read ps → Each PartReads (map texts gs) × AllRoom k (all_claims (map texts gs))
  parts_room end k [] ps e = (tt, tt)
  parts_room end k (ws ∷ more) ps e =
      let b = bind_read (settle ws (next_word more end) k (read_part t (texts ws))) _ ps e in
      let c = bind_read (read_parts t end b.0.1 more) _ ps b.2 in
      let s = settle_reads ws (next_word more end) k (read_part t (texts ws)) b.0 b.1 in
      let a = all_from k b.0.1 (claims_of (read_part t (texts ws))) s.1 in
      let r = parts_room end b.0.1 more c.0 c.1 in
      ((s.0, r.0), room_append k (claims_of (read_part t (texts ws))) (all_claims (map texts more)) a.0 (subst (λ j. AllRoom j (all_claims (map texts more))) (sym a.1) r.1))

  pub room_parts : (end : Next) (k : Taken) (gs : List (List Word)) → Each PartReads (map texts gs) → AllRoom k (all_claims (map texts gs)) → (ps : List Part) × (read_parts t end k gs ≡ read ps)
  room_parts end k [] h a = ([], refl)
  room_parts end k (ws ∷ more) h a =
      let s = room_split k (claims_of (read_part t (texts ws))) (all_claims (map texts more)) a in
      let k' = plus_all k (claims_of (read_part t (texts ws))) in
      let r = room_parts end k' more h.1 s.1 in (
        made (read_part t (texts ws)) ∷ r.0,
        read_bind (settle ws (next_word more end) k (read_part t (texts ws))) _ (made (read_part t (texts ws)), k') (read (made (read_part t (texts ws)) ∷ r.0))
            (reads_settle ws (next_word more end) k k' (read_part t (texts ws)) h.0 (all_to k (claims_of (read_part t (texts ws))) s.0))
            (read_bind (read_parts t end k' more) _ r.0 (read (made (read_part t (texts ws)) ∷ r.0)) r.1 refl),
      )

-- ITEMS

module _ (names : List Bytes) where
  abbrev pub KnownItems : {X : Type 0} → Reading X → Type 0
  KnownItems (reads x) = Unit {0}
  KnownItems (refuses n i) = Unit {0}
  KnownItems (lacks n) = Unit {0}
  KnownItems (claims (a_name n) i r) = KnownItems r
  KnownItems (claims (some_items e) i r) = (check (all (item_known names) e) 22 ≡ good tt) × KnownItems r
  KnownItems (claims (some_words n) i r) = KnownItems r

  pub items_known : {X : Type 0} (ws : List Word) (r : Reading X) (u : Unit {0}) → check_items names ws r ≡ read u → KnownItems r
  items_known ws (reads x) u e = tt
  items_known ws (refuses n i) u e = tt
  items_known ws (lacks n) u e = tt
  items_known ws (claims (a_name n) i r) u e = items_known ws r u e
  items_known ws (claims (some_items s) i r) u e =
      let b = bind_read (at (place_in ws i) (check (all (item_known names) s) 22)) _ u e in
      (at_read (place_in ws i) (check (all (item_known names) s) 22) b.0 b.1, items_known ws r u b.2)
  items_known ws (claims (some_words n) i r) u e = items_known ws r u e

  pub known_items : {X : Type 0} (ws : List Word) (r : Reading X) → KnownItems r → check_items names ws r ≡ read tt
  known_items ws (reads x) h = refl
  known_items ws (refuses n i) h = refl
  known_items ws (lacks n) h = refl
  known_items ws (claims (a_name n) i r) h = known_items ws r h
  known_items ws (claims (some_items s) i r) h =
      read_bind (at (place_in ws i) (check (all (item_known names) s) 22)) _ tt (read tt) (at_good (place_in ws i) (check (all (item_known names) s) 22) tt h.0) (known_items ws r h.1)
  known_items ws (claims (some_words n) i r) h = known_items ws r h

  module _ (t : Table) where
    abbrev pub PartKnown : List Bytes → Type 0
    PartKnown ws = KnownItems (read_part t ws)

    pub expressions_known : (gs : List (List Word)) (u : Unit {0}) → check_expressions t names gs ≡ read u → Each PartKnown (map texts gs)
    expressions_known [] u e = tt
    expressions_known (ws ∷ more) u e =
        let b = bind_read (check_items names ws (read_part t (texts ws))) _ u e in
        (items_known ws (read_part t (texts ws)) b.0 b.1, expressions_known more u b.2)

    pub known_expressions : (gs : List (List Word)) → Each PartKnown (map texts gs) → check_expressions t names gs ≡ read tt
    known_expressions [] h = refl
    known_expressions (ws ∷ more) h = read_bind (check_items names ws (read_part t (texts ws))) _ tt (read tt) (known_items ws (read_part t (texts ws)) h.0) (known_expressions more h.1)
