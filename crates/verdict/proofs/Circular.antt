-- A text that meets nothing else is refused as circular exactly if no order exists: the flags of `on_circle` are those of the nodes
-- on a circle, and without one an order exists.
use Rattle.std.proofs.Common.{◌≡◌, ℕ, zero, suc, ◌<◌, Bool, true, false, leb, ◌⊎◌, List, [], ◌∷◌, map, length, get_or, sym, refl, ap, ◌∙◌, inl, inr, ⊎_elim, arith}
use lib.ListN.{length-map}
use Rattle.std.proofs.lemmas.Bool.{cond_both}
use Rattle.std.proofs.lemmas.List.FromFn.{get_or-map-range_with_len, length-map-range_with_len}
use Rattle.graph.specs.Needs.{Orders, LeastOnCircle}
use Rattle.graph.specs.Reach.{reaches, rank, layers}
use Rattle.graph.proofs.Circles.{on_circle_holds, off_circle, no_circle_from_order, order_from_clear}
use Rattle.scan.specs.Names.{Bytes, before}
use Rattle.scan.specs.Words.{Word, texts}
use Rattle.verdict.specs.Macros.{Table, finished, names_of}
use Rattle.verdict.specs.Parts.{Part, read_part}
use Rattle.verdict.specs.Limits.{nothing}
use Rattle.verdict.specs.Sections.{Sections, sections}
use Rattle.verdict.specs.Circles.{on_circle}
use Rattle.verdict.specs.Circuit.{insert, sorted, rank_body, Circuit, needs}
use Rattle.verdict.specs.Verdict.{read, refuse, refuse_first, places, place_in, Drawn, drawn_parts, drawn, refused, unless, verdict_of, macro_table}
use Rattle.verdict.specs.Lines.{CircularExactly, Ordered, Circular}
use Rattle.verdict.proofs.Inversions.{not_read}
use Rattle.verdict.proofs.Readings.{made, read_parts_made}
use Rattle.verdict.proofs.Closed.{on_circle_is}
use Rattle.verdict.proofs.Low.{refused_low}
use Rattle.verdict.proofs.Theorem.{drawn_parts_means, drawn_from_parts, short_read}

-- no flag is up
AllDown : List Bool → Type 0
AllDown fs = (i : ℕ) → get_or fs i false ≡ false

-- the flag a is the first that is up
FirstUp : List Bool → ℕ → Type 0
FirstUp fs a = (a < length fs) × (get_or fs a false ≡ true) × ((b : ℕ) → b < a → get_or fs b false ≡ false)

-- what `refuse_first` answers on as many flags as places
Answers : ℕ → List Bool → List ℕ → Type 0
Answers m fs ps =
    (AllDown fs × (refuse_first m fs ps ≡ read tt))
    ⊎ ((a : ℕ) × FirstUp fs a × (refuse_first m fs ps ≡ refuse m (get_or ps a 0)))

more : (m : ℕ) (fs : List Bool) (p : ℕ) (ps : List ℕ) → Answers m fs ps → Answers m (false ∷ fs) (p ∷ ps)
unfolding Answers AllDown FirstUp
more m fs p ps (inl h) = inl (down, h.1)
  where
    down : (i : ℕ) → get_or (false ∷ fs) i false ≡ false
    down zero = refl
    down (suc i) = h.0 i
more m fs p ps (inr h) = inr (suc h.0, (omega (arith, h.1.0), h.1.1, down), h.2)
  where
    down : (b : ℕ) → b < suc h.0 → get_or (false ∷ fs) b false ≡ false
    down zero l = refl
    down (suc b) l = h.1.2 b (omega arith)

answers : (m : ℕ) (fs : List Bool) (ps : List ℕ) → length fs ≡ length ps → Answers m fs ps
unfolding Answers AllDown FirstUp
answers m [] ps e = inl (λ i. refl, refl)
answers m (f ∷ fs) [] e = absurd (omega arith)
answers m (true ∷ fs) (p ∷ ps) e = inr (0, (omega arith, refl, λ b l. absurd (omega arith)), refl)
answers m (false ∷ fs) (p ∷ ps) e = more m fs p ps (answers m fs ps (omega arith))

-- where nothing is refused, no flag is up
pub first_read : (m : ℕ) (fs : List Bool) (ps : List ℕ) (u : Unit {0}) → length fs ≡ length ps → refuse_first m fs ps ≡ read u → (i : ℕ) → get_or fs i false ≡ false
unfolding Answers AllDown
first_read m fs ps u e r = ⊎_elim (λ h. h.0) (λ h. not_read m (get_or ps h.0 0) u (sym h.2 ∙ r)) (answers m fs ps e)

pub length_insert : {X : Type 0} (e : Bytes × X) (es : List (Bytes × X)) → length (insert e es) ≡ suc (length es)
length_insert e [] = refl
length_insert e (x ∷ es) = cond_both (before e.0 x.0) (e ∷ x ∷ es) (x ∷ insert e es) (λ l. length l ≡ suc (suc (length es))) (λ h. refl) (λ h. ap suc (length_insert e es))

pub length_sorted : {X : Type 0} (es : List (Bytes × X)) → length (sorted es) ≡ length es
length_sorted [] = refl
length_sorted (e ∷ es) = length_insert e (sorted es) ∙ ap suc (length_sorted es)

-- as many places as parts
module _ (t : Table) (s : Sections) (d : Drawn) (e : drawn_parts t s ≡ read d) where
  pub parts_length : length d.circuit.parts ≡ length s.parts
  parts_length =
      let m = drawn_parts_means t s d e in
      let made_of : map (λ ws. made (read_part t ws)) (map texts s.parts) ≡ m.0 = read_parts_made t s.after_parts nothing s.parts m.0 m.1 in
      ap (λ (c : Circuit). length c.parts) m.2
      ∙ (length-map (sorted m.0) (λ (p : Part). (p.0, rank_body (names_of (sorted m.0)) p.1))
      ∙ (length_sorted m.0
      ∙ (ap length (sym made_of)
      ∙ (length-map (map texts s.parts) (λ ws. made (read_part t ws)) ∙ length-map s.parts texts))))

  pub places_length : length (places d.names) ≡ length s.parts
  places_length =
      let m = drawn_parts_means t s d e in
      let entry_of : List Word → Bytes × ℕ = λ ws. (get_or (texts ws) 1 [], place_in ws 1) in
      ap (λ ns. length (places ns)) m.4
      ∙ (length-map (sorted (map entry_of s.parts)) (λ (x : Bytes × ℕ). x.1)
      ∙ (length_sorted (map entry_of s.parts) ∙ length-map s.parts entry_of))

module _ (n : ℕ) (needs : ℕ → ℕ → Bool) where
  pub flag : (i : ℕ) → i < n → get_or (on_circle n needs) i false ≡ reaches needs n i i
  flag i l = ap (λ fs. get_or fs i false) (on_circle_is n needs) ∙ get_or-map-range_with_len (λ a. reaches needs n a a) 0 n i i false l (omega arith)

  pub flags_length : length (on_circle n needs) ≡ n
  flags_length = ap length (on_circle_is n needs) ∙ length-map-range_with_len (λ a. reaches needs n a a) 0 n

  down_order : AllDown (on_circle n needs) → Orders n needs (layers (rank n needs) n n)
  unfolding AllDown
  down_order h = order_from_clear n needs (λ a l. sym (flag a l) ∙ h a)

  up_least : (a : ℕ) → FirstUp (on_circle n needs) a → LeastOnCircle n needs a
  unfolding FirstUp
  up_least a h =
      let l : a < n = omega (arith, flags_length, h.0) in
      record {
        circle = on_circle_holds n needs a l (sym (flag a l) ∙ h.1);
        least = λ b lb c. off_circle n needs b (sym (flag b (omega arith)) ∙ h.2 b lb) c;
      }

get_or_places : (es : List (Bytes × ℕ)) (i : ℕ) → get_or (places es) i 0 ≡ (get_or es i ([], 0)).1
get_or_places [] i = refl
get_or_places (e ∷ es) zero = refl
get_or_places (e ∷ es) (suc i) = get_or_places es i

-- what the answer on the flags says of the text
decided : (t : Bytes) (d : Drawn) → drawn t ≡ read d → Answers 23 (on_circle (length d.circuit.parts) (needs d.circuit.parts)) (places d.names) → Ordered t d ⊎ Circular t d
unfolding Answers
decided t d e (inl h) =
    inl (record {
      order = (layers (rank (length d.circuit.parts) (needs d.circuit.parts)) (length d.circuit.parts) (length d.circuit.parts), down_order (length d.circuit.parts) (needs d.circuit.parts) h.0);
      verdict_is = ap verdict_of e ∙ ap (λ u. unless u d) h.1;
    })
decided t d e (inr h) =
    let least = up_least (length d.circuit.parts) (needs d.circuit.parts) h.0 h.1 in
    inr (record {
      no_order = λ v o. no_circle_from_order (length d.circuit.parts) (needs d.circuit.parts) v o h.0 least.circle;
      at = h.0;
      least = least;
      verdict_is = ap verdict_of e ∙ (ap (λ u. unless u d) h.2 ∙ ap (refused 23) (get_or_places d.names h.0));
    })

either_way : (t : Bytes) (d : Drawn) → drawn t ≡ read d → Ordered t d ⊎ Circular t d
either_way t d e =
    let p = drawn_from_parts (sections t) d (short_read (leb (length t) 131072) t d e) in
    let T : Table = finished (macro_table (sections t).macros) in
    decided t d e
    (answers 23 (on_circle (length d.circuit.parts) (needs d.circuit.parts)) (places d.names)
    (flags_length (length d.circuit.parts) (needs d.circuit.parts) ∙ (parts_length T (sections t) d p ∙ sym (places_length T (sections t) d p))))

pub circular_exactly : CircularExactly
circular_exactly t = (either_way t, λ n p e. (ap verdict_of e, refused_low t n p e))
