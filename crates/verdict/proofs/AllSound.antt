-- Every accepted circuit is sound: each check that its text passed is one of the facts.
use Rattle.std.proofs.Common.{◌≡◌, ℕ, suc, ◌+◌, ◌-◌, ◌<◌, ◌≤◌, Bool, true, false, cond, not, ltb, leb, ◌⊎◌, List, [], ◌∷◌, map, length, get_or, sym, refl, ap, ◌∙◌, subst, inl, inr, arith}
use mathlib.Core.List.{map-map}
use lib.ListN.{length-map}
use Rattle.std.proofs.lemmas.Bool.{or_parts}
use Rattle.scan.specs.Names.{Bytes, is_name, same, before, among}
use Rattle.scan.specs.Words.{Word, texts, words}
use Rattle.numbers.specs.Judged.{check}
use Rattle.numbers.specs.Numbers.{sum}
use Rattle.verdict.specs.Letters.{is_part_letter}
use Rattle.verdict.specs.Macros.{Table, names_of, finished}
use Rattle.verdict.specs.Parts.{Body, Part, Claim, a_name, some_items, some_words, Reading, reads, refuses, lacks, claims, read_part}
use Rattle.verdict.specs.Limits.{Taken, nothing, taking}
use Rattle.verdict.specs.Sections.{Next, macro_words, up_to_stop, add_to_part, part_words, Sections, sections}
use Rattle.verdict.specs.Circuit.{insert, sorted, ranked, rank_body, Circuit, circuit_of}
use Rattle.verdict.specs.Verdict.{read, refuse, at, refuse_first, places, entry, check_list, place_in, next_word, settle, read_parts, list_places, part_places, check_among, macro_table, Drawn, drawn, accepted, refused, verdict}
use Rattle.verdict.specs.Lines.{SetsInOrder, Ordered, Circular}
use Rattle.verdict.specs.Listing.{listing}
use Rattle.verdict.specs.Sound.{All, ProperName, Ascending, Once, SoundBody, item_count, word_count, Sound, AcceptedSound, ListingAccepted}
use Rattle.verdict.proofs.Orders.{Distinct, not_same, before_trans, before_flip}
use Rattle.verdict.proofs.Inversions.{read_same, not_read, bind_read, at_read, check_good, bind_good}
use Rattle.verdict.proofs.Readings.{not_missing, Apart, read_parts_apart, apart_distinct, name_new}
use Rattle.verdict.proofs.Claims.{Room, plus, room_from}
use Rattle.verdict.proofs.Ranks.{second, read_parts_names, insert_name, sort_names, names_sorted}
use Rattle.verdict.proofs.Theorem.{short_read}
use Rattle.verdict.proofs.Alike.{Each, ListNew, list_new, PartKnown, expressions_known}
use Rattle.verdict.proofs.Accepted.{list_names, part_names, passed, PartsPassed, parts_passed, accepted_drawn}
use Rattle.verdict.proofs.Circular.{circular_exactly}
use Rattle.verdict.proofs.Circular.{length_sorted}
use Rattle.verdict.proofs.Unranked.{all_map, all_name_insert, among_sort, all_sort}
use Rattle.verdict.proofs.Sounds.{IsPart, read_part_res, settle_res}
use Rattle.verdict.proofs.ReadBack.{reads_back}

-- SORTING

module _ {X : Type 0} where
  all_insert : (P : Bytes × X → Type 0) (e : Bytes × X) (es : List (Bytes × X)) → P e → All P es → All P (insert e es)
  all_insert P e [] p h = (p, tt)
  all_insert P e (x ∷ es) p h = by (before e.0 x.0) (all_insert P e es p h.1)
    where
      by : (b : Bool) → All P (insert e es) → All P (cond b (e ∷ x ∷ es) (x ∷ insert e es))
      by true g = (p, h)
      by false g = (h.0, g)

  all_sorted : (P : Bytes × X → Type 0) (es : List (Bytes × X)) → All P es → All P (sorted es)
  all_sorted P [] h = tt
  all_sorted P (e ∷ es) h = all_insert P e (sorted es) h.0 (all_sorted P es h.1)

  sum_insert : (f : Bytes × X → ℕ) (e : Bytes × X) (es : List (Bytes × X)) → sum (map f (insert e es)) ≡ f e + sum (map f es)
  sum_insert f e [] = refl
  sum_insert f e (x ∷ es) = by (before e.0 x.0) (sum_insert f e es)
    where
      by : (b : Bool) → sum (map f (insert e es)) ≡ f e + sum (map f es) → sum (map f (cond b (e ∷ x ∷ es) (x ∷ insert e es))) ≡ f e + (f x + sum (map f es))
      by true g = refl
      by false g = omega (arith, g)

  sum_sorted : (f : Bytes × X → ℕ) (es : List (Bytes × X)) → sum (map f (sorted es)) ≡ sum (map f es)
  sum_sorted f [] = refl
  sum_sorted f (e ∷ es) = sum_insert f e (sorted es) ∙ ap (λ x. f e + x) (sum_sorted f es)

all_mapped : {X Y : Type 0} (P : Y → Type 0) (f : X → Y) (xs : List X) → All (λ x. P (f x)) xs → All P (map f xs)
all_mapped P f [] h = tt
all_mapped P f (x ∷ xs) h = (h.0, all_mapped P f xs h.1)

all_uninsert : (P : Bytes → Type 0) (n : Bytes) (ns : List Bytes) → All P (insert_name n ns) → P n × All P ns
all_uninsert P n [] h = (h.0, tt)
all_uninsert P n (x ∷ ns) h = by (before n x) h (all_uninsert P n ns)
  where
    by : (b : Bool) → All P (cond b (n ∷ x ∷ ns) (x ∷ insert_name n ns)) → (All P (insert_name n ns) → P n × All P ns) → P n × All P (x ∷ ns)
    by true h g = h
    by false h g = let r = g h.1 in (r.0, (h.0, r.1))

all_unsort : (P : Bytes → Type 0) (ns : List Bytes) → All P (sort_names ns) → All P ns
all_unsort P [] h = tt
all_unsort P (n ∷ ns) h = let r = all_uninsert P n (sort_names ns) h in (r.0, all_unsort P ns r.1)

ascending_insert : (n : Bytes) (ns : List Bytes) → Ascending ns → among ns n ≡ false → Ascending (insert_name n ns)
ascending_insert n [] h a = (tt, tt)
ascending_insert n (x ∷ ns) h a =
    let o = or_parts (same x n) (among ns n) a in
    by (before n x) refl (ascending_insert n ns h.1 o.1) (not_same x n o.0)
  where
    by : (b : Bool) → before n x ≡ b → Ascending (insert_name n ns) → (x ≡ n → ⊥) → Ascending (cond b (n ∷ x ∷ ns) (x ∷ insert_name n ns))
    by true e g d = ((e, all_map (λ m. before x m ≡ true) (λ m. before n m ≡ true) ns (λ m k. before_trans n x m e k) h.0), h)
    by false e g d = (all_name_insert (λ m. before x m ≡ true) n ns (before_flip x n d ∙ ap not e) h.0, g)

sort_ascends : (ns : List Bytes) → Distinct ns → Ascending (sort_names ns)
sort_ascends [] d = tt
sort_ascends (n ∷ ns) d = ascending_insert n (sort_names ns) (sort_ascends ns d.1) (among_sort ns n ∙ d.0)

distinct_once : (ns : List Bytes) → Distinct ns → Once ns
distinct_once [] d = tt
distinct_once (n ∷ ns) d = (d.0, distinct_once ns d.1)

-- THE LIST

list_apart : (met : List Bytes) (ws : List Bytes) → ListNew met ws → Apart met (map (λ x. (entry x).0) ws)
list_apart met [] h = tt
list_apart met (w ∷ ws) h = (name_new met (entry w).0 tt h.1.0, list_apart ((entry w).0 ∷ met) ws h.1.1)

list_few : (met : List Bytes) (ws : List Bytes) → length met ≤ 64 → ListNew met ws → length met + length ws ≤ 64
list_few met [] l h = omega arith
list_few met (w ∷ ws) l h =
    let b = bind_good (check (is_name (entry w).0) 11) _ tt h.1.0 in
    let c = bind_good (check (ltb (length met) 64) 16) _ tt b.2 in
    let r : length met < 64 = Rattle.std.proofs.lemmas.Bool.ltb-true (length met) 64 (check_good (ltb (length met) 64) 16 c.0 c.1) in
    let q : suc (length met) + length ws ≤ 64 = list_few ((entry w).0 ∷ met) ws (omega arith) h.1.1 in
    omega arith

-- PART LETTERS

abbrev NoLetters : List Word → Type 0
NoLetters [] = Unit {0}
NoLetters (w ∷ g) = All (λ (v : Word). is_part_letter v.text ≡ false) g

tails_add : (w : Word) (ps : List (List Word)) → All NoLetters ps → All NoLetters (add_to_part w ps)
tails_add w [] h = (tt, tt)
tails_add w ([] ∷ ps) h = (tt, h.1)
tails_add w ((v ∷ p) ∷ ps) h = by (is_part_letter v.text) refl
  where
    by : (b : Bool) → is_part_letter v.text ≡ b → All NoLetters (cond b ((w ∷ []) ∷ (v ∷ p) ∷ ps) ((w ∷ v ∷ p) ∷ ps))
    by true e = (tt, h)
    by false e = ((e, h.0), h.1)

tails : (ws : List Word) → All NoLetters (part_words ws)
tails [] = tt
tails (w ∷ ws) = tails_add w (part_words ws) (tails ws)

second_no_letter : (g : List Word) → NoLetters g → is_part_letter (second g) ≡ false
second_no_letter [] h = refl
second_no_letter (w ∷ []) h = refl
second_no_letter (w ∷ v ∷ g) h = h.0

seconds : (gs : List (List Word)) → All NoLetters gs → All (λ n. is_part_letter n ≡ false) (map second gs)
seconds [] h = tt
seconds (g ∷ gs) h = (second_no_letter g h.0, seconds gs h.1)

-- COUNTERS

record Fits (k : Taken) : Type 0 where
  pub count : length k.names ≤ 64
  pub formed : All (λ n. is_name n ≡ true) k.names
  pub items : k.items ≤ 2048
  pub memory : k.memory ≤ 4096

fits_plus : (k : Taken) (c : Claim) → Fits k → Room k c → Fits (plus k c)
fits_plus k (a_name n) f r = record { count = omega (arith, r.room); formed = (r.formed, f.formed); items = f.items; memory = f.memory }
fits_plus k (some_items e) f r = record { count = f.count; formed = f.formed; items = r; memory = f.memory }
fits_plus k (some_words n) f r = record { count = f.count; formed = f.formed; items = f.items; memory = r }

fits_settle : {X : Type 0} (ws : List Word) (next : Next) (k : Taken) (r : Reading X) (xk : X × Taken) → Fits k → settle ws next k r ≡ read xk → Fits xk.1
fits_settle {X} ws next k (reads x) xk f e = subst (λ (q : X × Taken). Fits q.1) (read_same (x, k) xk e) f
fits_settle ws next k (refuses n i) xk f e = not_read n (place_in ws i) xk e
fits_settle ws next k (lacks n) xk f e = not_missing n next xk e
fits_settle ws next k (claims c i r) xk f e =
    let b = bind_read (at (place_in ws i) (taking k c)) (λ k'. settle ws next k' r) xk e in
    let m = room_from k b.0 c (at_read (place_in ws i) (taking k c) b.0 b.1) in
    fits_settle ws next b.0 r xk (subst Fits m.1 (fits_plus k c f m.0)) b.2

record PartsGood (names : List Bytes) (k : Taken) (ps : List Part) : Type 0 where
  pub bodies : All (λ p. SoundBody (length names) (rank_body names p.1)) ps
  pub formed : All (λ n. is_name n ≡ true) (names_of ps)
  pub count : length k.names + length ps ≤ 64
  pub items : k.items + sum (map (λ p. item_count (rank_body names p.1)) ps) ≤ 2048
  pub memory : k.memory + sum (map (λ p. word_count (rank_body names p.1)) ps) ≤ 4096

parts_good : (names : List Bytes) (t : Table) (end : Next) (k : Taken) (gs : List (List Word)) (ps : List Part) → Fits k → read_parts t end k gs ≡ read ps → Each (PartKnown names t) (map texts gs) → PartsGood names k ps
parts_good names t end k [] ps f e a =
    subst (λ (qs : List Part). PartsGood names k qs) (read_same [] ps e)
    (record { bodies = tt; formed = tt; count = omega (arith, f.count); items = omega (arith, f.items); memory = omega (arith, f.memory) })
parts_good names t end k (ws ∷ more) ps f e a =
    let b = bind_read (settle ws (next_word more end) k (read_part t (texts ws))) _ ps e in
    let c = bind_read (read_parts t end b.0.1 more) _ ps b.2 in
    let i : IsPart names k b.0.0 b.0.1 = settle_res names (IsPart names k) ws (next_word more end) k (read_part t (texts ws)) b.0 (read_part_res names t k (texts ws)) a.0 b.1 in
    let g : Fits b.0.1 = fits_settle ws (next_word more end) k (read_part t (texts ws)) b.0 f b.1 in
    let m : PartsGood names b.0.1 c.0 = parts_good names t end b.0.1 more c.0 g c.1 a.1 in
    let nm : All (λ n. is_name n ≡ true) (b.0.0.0 ∷ k.names) = subst (λ (ns : List Bytes). All (λ n. is_name n ≡ true) ns) i.name g.formed in
    subst (λ (qs : List Part). PartsGood names k qs) (read_same (b.0.0 ∷ c.0) ps c.2)
    (record {
      bodies = (i.sound, m.bodies);
      formed = (nm.0, m.formed);
      count = omega (arith, m.count, ap length i.name);
      items = omega (arith, m.items, i.items);
      memory = omega (arith, m.memory, i.memory);
    })

-- 20 AND 21

among_from : (n : ℕ) (others : List Bytes) (es : List (Bytes × ℕ)) → check_among n others es ≡ read tt → All (λ m. among others m ≡ true) (names_of es)
among_from n others [] e = tt
among_from n others (x ∷ es) e = let r = by (among others x.0) e in (r.0, among_from n others es r.1)
  where
    by : (b : Bool) → cond (not b) (refuse n x.1) (refuse_first n (map (λ (y : Bytes × ℕ). not (among others y.0)) es) (places es)) ≡ read tt →
        (b ≡ true) × (refuse_first n (map (λ (y : Bytes × ℕ). not (among others y.0)) es) (places es) ≡ read tt)
    by true h = (refl, h)
    by false h = not_read n x.1 tt h

proper_from : (ns : List Bytes) → All (λ n. is_name n ≡ true) ns → All (λ n. is_part_letter n ≡ false) ns → All ProperName ns
proper_from [] h g = tt
proper_from (n ∷ ns) h g = (record { formed = h.0; no_letter = g.0 }, proper_from ns h.1 g.1)

-- THE CIRCUIT

module _ (t : Table) (s : Sections) (d : Drawn) (p : PartsPassed t s d) (list : check_list [] s.listed ≡ read tt) (cut : All NoLetters s.parts) where
  abbrev ps : List Part
  ps = p.made_of

  abbrev names : List Bytes
  names = names_of (sorted ps)

  abbrev the_parts : List (Bytes × Body ℕ)
  the_parts = ranked (sorted ps)

  abbrev L : List Bytes
  L = map (λ x. (entry x).0) (texts s.listed)

  found : map second s.parts ≡ names_of ps
  found = read_parts_names t s.after_parts nothing s.parts ps p.is_read

  places_names : names_of (part_places s.parts) ≡ names
  places_names = part_names s.parts ∙ (ap sort_names found ∙ sym (names_sorted ps))

  listed_places : names_of (list_places s.listed) ≡ sort_names L
  listed_places = list_names s.listed

  listed_names : names_of (map entry (texts s.listed)) ≡ L
  listed_names = map-map (λ (e : Bytes × Bool). e.0) entry (texts s.listed)

  ranked_names : names_of the_parts ≡ names
  ranked_names = map-map (λ (e : Bytes × Body ℕ). e.0) (λ (q : Part). (q.0, rank_body names q.1)) (sorted ps)

  lengths : length names ≡ length the_parts
  lengths = length-map (sorted ps) (λ (e : Part). e.0) ∙ sym (length-map (sorted ps) (λ (q : Part). (q.0, rank_body names q.1)))

  pub part_count : length the_parts ≡ length ps
  part_count = length-map (sorted ps) (λ (q : Part). (q.0, rank_body names q.1)) ∙ length_sorted ps

  start : Fits nothing
  start = record { count = omega arith; formed = tt; items = omega arith; memory = omega arith }

  good_parts : PartsGood names nothing ps
  good_parts =
      parts_good names t s.after_parts nothing s.parts ps start p.is_read
      (expressions_known names t s.parts tt (subst (λ (ns : List Bytes). Rattle.verdict.specs.Verdict.check_expressions t ns s.parts ≡ read tt) places_names p.twenty_two))

  proper : All ProperName (names_of ps)
  proper = proper_from (names_of ps) good_parts.formed (subst (λ (ns : List Bytes). All (λ n. is_part_letter n ≡ false) ns) found (seconds s.parts cut))

  new : ListNew [] (texts s.listed)
  new = list_new [] s.listed tt list

  sum_ranked : (f : Body ℕ → ℕ) → sum (map (λ (q : Bytes × Body ℕ). f q.1) the_parts) ≡ sum (map (λ (q : Part). f (rank_body names q.1)) ps)
  sum_ranked f = ap sum (map-map (λ (q : Bytes × Body ℕ). f q.1) (λ (q : Part). (q.0, rank_body names q.1)) (sorted ps)) ∙ sum_sorted (λ (q : Part). f (rank_body names q.1)) ps

  pub sound_circuit : (order : (v : List ℕ) × SetsInOrder (circuit_of (map entry (texts s.listed)) ps) v) → Sound (circuit_of (map entry (texts s.listed)) ps)
  sound_circuit order = record {
    names = subst (λ (ns : List Bytes). All ProperName ns) (sym (ranked_names ∙ names_sorted ps)) (all_sort ProperName (names_of ps) proper);
    ascending = subst Ascending (sym (ranked_names ∙ names_sorted ps)) (sort_ascends (names_of ps) (apart_distinct [] (names_of ps) (read_parts_apart t s.after_parts nothing s.parts ps p.is_read)));
    few_parts = omega (arith, part_count, good_parts.count);
    bodies =
        subst (λ n. All (λ (q : Bytes × Body ℕ). SoundBody n q.1) the_parts) lengths
        (all_mapped (λ (q : Bytes × Body ℕ). SoundBody (length names) q.1) (λ (q : Part). (q.0, rank_body names q.1)) (sorted ps) (all_sorted (λ (q : Part). SoundBody (length names) (rank_body names q.1)) ps good_parts.bodies));
    few_items = omega (arith, sum_ranked (λ b. item_count b), good_parts.items);
    few_words = omega (arith, sum_ranked (λ b. word_count b), good_parts.memory);
    listed_are_parts =
        subst (λ (ns : List Bytes). All (λ n. among (names_of the_parts) n ≡ true) ns) (sym listed_names)
        (all_unsort (λ n. among (names_of the_parts) n ≡ true) L
        (subst (λ (ns : List Bytes). All (λ n. among (names_of the_parts) n ≡ true) ns) listed_places
        (subst (λ (ns : List Bytes). All (λ n. among ns n ≡ true) (names_of (list_places s.listed))) (places_names ∙ sym ranked_names)
        (among_from 20 (names_of (part_places s.parts)) (list_places s.listed) p.twenty))));
    parts_are_listed =
        subst (λ (ns : List Bytes). All (λ n. among ns n ≡ true) (names_of the_parts)) (sym listed_names)
        (all_map (λ n. among (sort_names L) n ≡ true) (λ n. among L n ≡ true) (names_of the_parts) (λ n h. sym (among_sort L n) ∙ h)
        (subst (λ (ns : List Bytes). All (λ n. among (sort_names L) n ≡ true) ns) (places_names ∙ sym ranked_names)
        (subst (λ (ns : List Bytes). All (λ n. among ns n ≡ true) (names_of (part_places s.parts))) listed_places
        (among_from 21 (names_of (list_places s.listed)) (part_places s.parts) p.twenty_one))));
    listed_once = subst Once (sym listed_names) (distinct_once L (apart_distinct [] L (list_apart [] (texts s.listed) new)));
    few_listed = omega (arith, length-map (texts s.listed) entry, list_few [] (texts s.listed) (omega arith) new);
    order = order;
  }

-- an accepted text has an order
order_of : (t : Bytes) (d : Drawn) (c : Circuit) (n p : ℕ) → verdict t ≡ accepted c n p → Ordered t d ⊎ Circular t d → (v : List ℕ) × SetsInOrder d.circuit v
order_of t d c n p e (inl o) = o.order
order_of t d c n p e (inr x) = absurd (let a : refused 23 (get_or d.names x.at ([], 0)).1 ≡ accepted c n p = sym x.verdict_is ∙ e in let z : ◌≡◌ {A = ℕ} 0 1 = cc in omega arith)

sound_too : (t : Bytes) (c : Circuit) (n p : ℕ) → verdict t ≡ accepted c n p → Sound c × (length c.parts ≡ n)
sound_too t c n p e =
    let a = accepted_drawn (drawn t) c n p e in
    let q = passed (sections t) a.0 (short_read (leb (length t) 131072) t a.0 a.1) in
    let τ : Table = finished (macro_table (sections t).macros) in
    let r : PartsPassed τ (sections t) a.0 = parts_passed τ (sections t) a.0 q.parts in
    let o = order_of t a.0 c n p e ((circular_exactly t).0 a.0 a.1) in
    let x : circuit_of (map entry (texts (sections t).listed)) r.made_of ≡ c = sym r.circuit ∙ a.2.1 in
    let k : All NoLetters (sections t).parts = tails (up_to_stop (length t) (up_to_stop (length t) (macro_words (words t)).later).later).row in (
      subst Sound x (sound_circuit τ (sections t) a.0 r q.list k (subst (λ (y : Circuit). (v : List ℕ) × SetsInOrder y v) r.circuit o)),
      sym (ap (λ (y : Circuit). length y.parts) x) ∙ (part_count τ (sections t) a.0 r q.list k ∙ (sym r.count ∙ a.2.2)),
    )

pub accepted_sound : AcceptedSound
accepted_sound t c n p e = (sound_too t c n p e).0

pub listing_accepted : ListingAccepted
listing_accepted t c n p e =
    let s = sound_too t c n p e in
    reads_back c s.0 ∙ ap (λ k. accepted c k (length (listing c) - 1)) s.1
