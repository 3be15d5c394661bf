-- What the reading of a part comes to, where its items name known parts: a sound body, and what it takes.
use Rattle.std.proofs.Common.{◌≡◌, ℕ, zero, suc, ◌+◌, ◌-◌, ◌<◌, ◌≤◌, true, leb, List, [], ◌∷◌, map, length, drop, replicate, sym, refl, ap, ◌∙◌, subst, ⊎_elim, arith}
use lib.ListN.{length-map}
use Rattle.std.proofs.lemmas.Bool.{and_parts, leb-true, cases_Bool, cond-true, cond-false, or_cases, false≢true, both_ways}
use Rattle.std.proofs.lemmas.List.{length-replicate}
use Rattle.scan.specs.Names.{Bytes, same, among, all}
use Rattle.scan.specs.Words.{Word}
use Rattle.numbers.specs.Judged.{Judged, good, bad, check}
use Rattle.numbers.specs.Numbers.{sum}
use Rattle.verdict.specs.Items.{constant, bits, Expression, width}
use Rattle.verdict.specs.Macros.{Table, Size, zeros, given, expression_field, number_field, size_field}
use Rattle.verdict.specs.Parts as parts
use Rattle.verdict.specs.Parts.{memory, Part, a_name, some_items, some_words, Reading, reads, refuses, lacks, claims, judged, word_at, name_at, expression_in, expression_at, cases_from, has_case, numbers_from, first_words, Kind, an_alu, a_selector, a_memory, none, kind_of, read_kind, read_part}
use Rattle.verdict.specs.Limits.{Taken, taking}
use Rattle.verdict.specs.Sections.{Next}
use Rattle.verdict.specs.Circuit.{rank_in, rank_item, rank_expression, rank_body}
use Rattle.verdict.specs.Verdict.{read, at, place_in, settle, item_known}
use Rattle.verdict.specs.Sound.{All, SoundItem, SoundExpression, SoundBody, item_count, word_count}
use Rattle.verdict.proofs.Inversions.{read_same, not_read, bind_read, at_read, check_good}
use Rattle.verdict.proofs.Readings.{not_missing}
use Rattle.verdict.proofs.Claims.{plus, room_from}
use Rattle.verdict.proofs.Alike.{KnownItems}
use Rattle.verdict.proofs.Judging.{J, check_j, Small, GoodItem, GoodExpression, expression_field_j, number_field_j, GoodSize, size_field_j}

rank_below : (ns : List Bytes) (n : Bytes) → among ns n ≡ true → rank_in ns n < length ns
rank_below [] n e = absurd (false≢true e)
rank_below (m ∷ ns) n e =
    ⊎_elim
    (λ s. let q : rank_in (m ∷ ns) n ≡ 0 = cond-true (same m n) 0 (suc (rank_in ns n)) s in omega (arith, q))
    (λ s.
    let q : rank_in (m ∷ ns) n ≡ suc (rank_in ns n) = cond-false (same m n) 0 (suc (rank_in ns n)) s in
    let a : among ns n ≡ true = ⊎_elim (λ z. absurd (both_ways (same m n) s z)) (λ z. z) (or_cases (same m n) (among ns n) e) in
    omega (arith, q, rank_below ns n a))
    (cases_Bool (same m n))

-- more items and memory words were taken, and no name
pub record Moved (k k' : Taken) (n m : ℕ) : Type 0 where
  pub names : k'.names ≡ k.names
  pub items : k'.items ≡ k.items + n
  pub memory : k'.memory ≡ k.memory + m

stayed : (k : Taken) → Moved k k 0 0
stayed k = record { names = refl; items = omega arith; memory = omega arith }

module _ (names : List Bytes) where
  -- what is read at the end, and what was taken then, have the property, where the claimed items are known
  abbrev pub Res : {X : Type 0} → (X → Taken → Type 0) → Taken → Reading X → Type 0
  Res P k (reads x) = P x k
  Res P k (refuses n i) = Unit {0}
  Res P k (lacks n) = Unit {0}
  Res P k (claims (a_name n) i r) = Res P (plus k (a_name n)) r
  Res P k (claims (some_items e) i r) = all (item_known names) e ≡ true → Res P (plus k (some_items e)) r
  Res P k (claims (some_words n) i r) = Res P (plus k (some_words n)) r

  res_bind : {X Y : Type 0} (P : X → Taken → Type 0) (Q : Y → Taken → Type 0) (k : Taken) (r : Reading X) (f : X → Reading Y) → Res P k r → ((x : X) (j : Taken) → P x j → Res Q j (f x)) → Res Q k (parts.◌>>=◌ r f)
  res_bind P Q k (reads x) f h g = g x k h
  res_bind P Q k (refuses n i) f h g = tt
  res_bind P Q k (lacks n) f h g = tt
  res_bind P Q k (claims (a_name n) i r) f h g = res_bind P Q (plus k (a_name n)) r f h g
  res_bind P Q k (claims (some_items e) i r) f h g = λ a. res_bind P Q (plus k (some_items e)) r f (h a) g
  res_bind P Q k (claims (some_words n) i r) f h g = res_bind P Q (plus k (some_words n)) r f h g

  res_judged : {X Y : Type 0} (P : X → Type 0) (Q : Y → Taken → Type 0) (k : Taken) (i : ℕ) (j : Judged X) (f : X → Reading Y) → J P j → ((x : X) → P x → Res Q k (f x)) → Res Q k (parts.◌>>=◌ (judged i j) f)
  res_judged P Q k i (good x) f h g = g x h
  res_judged P Q k i (bad n) f h g = tt

  res_word : {Y : Type 0} (Q : Y → Taken → Type 0) (k : Taken) (ws : List Bytes) (i : ℕ) (f : Bytes → Reading Y) → ((w : Bytes) → Res Q k (f w)) → Res Q k (parts.◌>>=◌ (word_at ws i) f)
  res_word Q k [] i f g = tt
  res_word Q k (w ∷ ws) zero f g = g w
  res_word Q k (w ∷ ws) (suc i) f g = res_word Q k ws i f g

  -- EXPRESSIONS

  sound_items : (e : Expression Bytes) → All GoodItem e → all (item_known names) e ≡ true → All (SoundItem (length names)) (map (rank_item names) e)
  sound_items [] h a = tt
  sound_items (constant v w ∷ e) h a = (h.0, sound_items e h.1 a)
  sound_items (bits n b t ∷ e) h a =
      let p = and_parts (among names n) (all (item_known names) e) a in
      ((rank_below names n p.0, h.0.0, h.0.1), sound_items e h.1 p.1)

  widths_ranked : (e : Expression Bytes) → sum (map width (map (rank_item names) e)) ≡ sum (map width e)
  widths_ranked [] = refl
  widths_ranked (constant v w ∷ e) = ap (λ x. w + x) (widths_ranked e)
  widths_ranked (bits r b t ∷ e) = ap (λ x. (suc t - b) + x) (widths_ranked e)

  abbrev pub SoundE : Expression Bytes → Type 0
  SoundE e = SoundExpression (length names) (map (rank_item names) e)

  sound_expression : (e : Expression Bytes) → GoodExpression e → all (item_known names) e ≡ true → SoundE e
  sound_expression e h a = record { some_item = omega (arith, length-map e (rank_item names), h.some_item); items = sound_items e h.items a; narrow = omega (arith, widths_ranked e, h.narrow) }

  abbrev IsExpression : Taken → Expression Bytes → Taken → Type 0
  IsExpression k e k' = SoundE e × Moved k k' (length e) 0

  expression_in_res : (t : Table) (k : Taken) (w : Bytes) (i : ℕ) → Res (IsExpression k) k (expression_in t w i)
  expression_in_res t k w i =
      res_judged GoodExpression (IsExpression k) k i (expression_field t w) _ (expression_field_j t w)
      (λ e h a. (sound_expression e h a, record { names = refl; items = refl; memory = omega arith }))

  expression_at_res : (t : Table) (k : Taken) (ws : List Bytes) (i : ℕ) → Res (IsExpression k) k (expression_at t ws i)
  expression_at_res t k ws i = res_word (IsExpression k) k ws i _ (λ w. expression_in_res t k w i)

  abbrev IsName : Taken → Bytes → Taken → Type 0
  IsName k n k' = (k'.names ≡ n ∷ k.names) × (k'.items ≡ k.items) × (k'.memory ≡ k.memory)

  name_at_res : (k : Taken) (ws : List Bytes) (i : ℕ) → Res (IsName k) k (name_at ws i)
  name_at_res k ws i = res_word (IsName k) k ws i _ (λ w. (refl, refl, refl))

  pub record IsCases (i n : ℕ) (k : Taken) (es : List (Expression Bytes)) (k' : Taken) : Type 0 where
    pub sound : All (SoundExpression (length names)) (map (rank_expression names) es)
    pub count : length es ≡ n
    pub few : i + length es ≤ 131
    pub moved : Moved k k' (sum (map (λ e. length e) (map (rank_expression names) es))) 0

  cases_from_res : (t : Table) (k : Taken) (i : ℕ) (ws : List Bytes) → i ≤ 131 → Res (IsCases i (length ws) k) k (cases_from t i ws)
  cases_from_res t k i [] l = record { sound = tt; count = refl; few = omega arith; moved = stayed k }
  cases_from_res t k i (w ∷ ws) l =
      res_bind (IsExpression k) (IsCases i (suc (length ws)) k) k (expression_in t w i) _ (expression_in_res t k w i) (λ e j h.
      res_judged (λ (u : Unit {0}). leb i 130 ≡ true) (IsCases i (suc (length ws)) k) j i (check (leb i 130) 16) _ (check_j (leb i 130) 16) (λ u b.
      res_bind (IsCases (i + 1) (length ws) j) (IsCases i (suc (length ws)) k) j (cases_from t (i + 1) ws) _ (cases_from_res t j (i + 1) ws (omega (arith, leb-true i 130 b))) (λ es j' g.
      record {
        sound = (h.0, g.sound);
        count = ap suc g.count;
        few = omega (arith, g.few);
        moved = record { names = g.moved.names ∙ h.1.names; items = omega (arith, g.moved.items, h.1.items, length-map e (rank_item names)); memory = omega (arith, g.moved.memory, h.1.memory) };
      })))

  abbrev IsNumbers : ℕ → Taken → List ℕ → Taken → Type 0
  IsNumbers n k vs k' = All Small vs × (length vs ≡ n) × Moved k k' 0 0

  numbers_from_res : (t : Table) (k : Taken) (ws : List Bytes) (i n : ℕ) → Res (IsNumbers n k) k (numbers_from t ws i n)
  numbers_from_res t k ws i zero = (tt, refl, stayed k)
  numbers_from_res t k ws i (suc n) =
      res_word (IsNumbers (suc n) k) k ws i _ (λ w.
      res_judged Small (IsNumbers (suc n) k) k i (number_field t w) _ (number_field_j t w) (λ v s.
      res_bind (IsNumbers n k) (IsNumbers (suc n) k) k (numbers_from t ws (i + 1) n) _ (numbers_from_res t k ws (i + 1) n) (λ vs j h. ((s, h.0), ap suc h.1, h.2))))

  zeros_small : (n : ℕ) → All Small (replicate n 0)
  zeros_small zero = tt
  zeros_small (suc n) = (omega arith, zeros_small n)

  pub record IsWords (k : Taken) (vs : List ℕ) (k' : Taken) : Type 0 where
    pub small : All Small vs
    pub some_word : 1 ≤ length vs
    pub few : length vs ≤ 4096
    pub moved : Moved k k' 0 (length vs)

  first_words_res : (t : Table) (k : Taken) (ws : List Bytes) (s : Size) → GoodSize s → Res (IsWords k) k (first_words t ws s)
  first_words_res t k ws (zeros n) h =
      let l : length {A = ℕ} (replicate n 0) ≡ n = length-replicate n 0 in
      res_judged (λ (u : Unit {0}). Unit {0}) (IsWords k) (plus k (some_words n)) 6 (check (leb (length ws) 6) 11) _ (any_j (check (leb (length ws) 6) 11)) (λ u a.
      record { small = zeros_small n; some_word = omega (arith, l, h.0); few = omega (arith, l, h.1); moved = record { names = refl; items = omega arith; memory = ap (λ x. k.memory + x) (sym l) } })
    where
      any_j : (j : Judged (Unit {0})) → J (λ (u : Unit {0}). Unit {0}) j
      any_j (good x) = tt
      any_j (bad n) = tt
  first_words_res t k ws (given n) h =
      res_bind (IsNumbers n (plus k (some_words n))) (IsWords k) (plus k (some_words n)) (numbers_from t ws 6 n) _ (numbers_from_res t (plus k (some_words n)) ws 6 n) (λ vs j g.
      res_judged (λ (u : Unit {0}). Unit {0}) (IsWords k) j (6 + n) (check (leb (length ws) (6 + n)) 11) _ (any_j (check (leb (length ws) (6 + n)) 11)) (λ u a.
      record { small = g.0; some_word = omega (arith, g.1, h.0); few = omega (arith, g.1, h.1); moved = record { names = g.2.names; items = omega (arith, g.2.items); memory = omega (arith, g.2.memory, g.1) } }))
    where
      any_j : (j : Judged (Unit {0})) → J (λ (u : Unit {0}). Unit {0}) j
      any_j (good x) = tt
      any_j (bad n) = tt

  -- PARTS

  pub record IsPart (k : Taken) (p : Part) (k' : Taken) : Type 0 where
    pub sound : SoundBody (length names) (rank_body names p.1)
    pub name : k'.names ≡ p.0 ∷ k.names
    pub items : k'.items ≡ k.items + item_count (rank_body names p.1)
    pub memory : k'.memory ≡ k.memory + word_count (rank_body names p.1)

  has_case_res : {Y : Type 0} (Q : Y → Taken → Type 0) (k : Taken) (ws : List Bytes) (f : Unit {0} → Reading Y) → (1 ≤ length ws → Res Q k (f tt)) → Res Q k (parts.◌>>=◌ (has_case ws) f)
  has_case_res Q k [] f g = tt
  has_case_res Q k (w ∷ ws) f g = g (omega arith)

  any : (j : Judged (Unit {0})) → J (λ (u : Unit {0}). Unit {0}) j
  any (good x) = tt
  any (bad n) = tt

  read_kind_res : (t : Table) (k : Taken) (d : Kind) (ws : List Bytes) → Res (IsPart k) k (read_kind d t ws)
  read_kind_res t k none ws = tt
  read_kind_res t k an_alu ws =
      res_bind (IsName k) (IsPart k) k (name_at ws 1) _ (name_at_res k ws 1) (λ n k₁ hn.
      res_bind (IsExpression k₁) (IsPart k) k₁ (expression_at t ws 2) _ (expression_at_res t k₁ ws 2) (λ f k₂ hf.
      res_bind (IsExpression k₂) (IsPart k) k₂ (expression_at t ws 3) _ (expression_at_res t k₂ ws 3) (λ l k₃ hl.
      res_bind (IsExpression k₃) (IsPart k) k₃ (expression_at t ws 4) _ (expression_at_res t k₃ ws 4) (λ r k₄ hr.
      res_judged (λ (u : Unit {0}). Unit {0}) (IsPart k) k₄ 5 (check (leb (length ws) 5) 11) _ (any (check (leb (length ws) 5) 11)) (λ u a.
      record {
        sound = record { function = hf.0; left = hl.0; right = hr.0 };
        name = hr.1.names ∙ (hl.1.names ∙ (hf.1.names ∙ hn.0));
        items = omega (arith, hr.1.items, hl.1.items, hf.1.items, hn.1, length-map f (rank_item names), length-map l (rank_item names), length-map r (rank_item names));
        memory = omega (arith, hr.1.memory, hl.1.memory, hf.1.memory, hn.2);
      })))))
  read_kind_res t k a_selector ws =
      res_bind (IsName k) (IsPart k) k (name_at ws 1) _ (name_at_res k ws 1) (λ n k₁ hn.
      res_bind (IsExpression k₁) (IsPart k) k₁ (expression_at t ws 2) _ (expression_at_res t k₁ ws 2) (λ s k₂ hs.
      has_case_res (IsPart k) k₂ (drop 3 ws) _ (λ some.
      res_bind (IsCases 3 (length (drop 3 ws)) k₂) (IsPart k) k₂ (cases_from t 3 (drop 3 ws)) _ (cases_from_res t k₂ 3 (drop 3 ws) (omega arith)) (λ cs k₃ hc.
      let lc : length (map (rank_expression names) cs) ≡ length cs = length-map cs (rank_expression names) in
      record {
        sound = record { select = hs.0; cases = hc.sound; some_case = omega (arith, lc, hc.count, some); few_cases = omega (arith, lc, hc.few) };
        name = hc.moved.names ∙ (hs.1.names ∙ hn.0);
        items = omega (arith, hc.moved.items, hs.1.items, hn.1, length-map s (rank_item names));
        memory = omega (arith, hc.moved.memory, hs.1.memory, hn.2);
      }))))
  read_kind_res t k a_memory ws =
      res_bind (IsName k) (IsPart k) k (name_at ws 1) _ (name_at_res k ws 1) (λ n k₁ hn.
      res_bind (IsExpression k₁) (IsPart k) k₁ (expression_at t ws 2) _ (expression_at_res t k₁ ws 2) (λ a k₂ ha.
      res_bind (IsExpression k₂) (IsPart k) k₂ (expression_at t ws 3) _ (expression_at_res t k₂ ws 3) (λ d k₃ hd.
      res_bind (IsExpression k₃) (IsPart k) k₃ (expression_at t ws 4) _ (expression_at_res t k₃ ws 4) (λ o k₄ ho.
      res_word (IsPart k) k₄ ws 5 _ (λ w.
      res_judged GoodSize (IsPart k) k₄ 5 (size_field t w) _ (size_field_j t w) (λ s hz.
      res_bind (IsWords k₄) (IsPart k) k₄ (first_words t ws s) _ (first_words_res t k₄ ws s hz) (λ vs k₅ hv.
      record {
        sound = record { address = ha.0; given = hd.0; operation = ho.0; some_word = hv.some_word; few_words = hv.few; words = hv.small };
        name = hv.moved.names ∙ (ho.1.names ∙ (hd.1.names ∙ (ha.1.names ∙ hn.0)));
        items = omega (arith, hv.moved.items, ho.1.items, hd.1.items, ha.1.items, hn.1, length-map a (rank_item names), length-map d (rank_item names), length-map o (rank_item names));
        memory = omega (arith, hv.moved.memory, ho.1.memory, hd.1.memory, ha.1.memory, hn.2);
      })))))))

  pub read_part_res : (t : Table) (k : Taken) (ws : List Bytes) → Res (IsPart k) k (read_part t ws)
  read_part_res t k [] = tt
  read_part_res t k (w ∷ ws) = read_kind_res t k (kind_of w) (w ∷ ws)

  pub settle_res : {X : Type 0} (P : X → Taken → Type 0) (ws : List Word) (next : Next) (k : Taken) (r : Reading X) (xk : X × Taken) → Res P k r → KnownItems names r → settle ws next k r ≡ read xk → P xk.0 xk.1
  settle_res {X} P ws next k (reads x) xk h a e = subst (λ (q : X × Taken). P q.0 q.1) (read_same (x, k) xk e) h
  settle_res P ws next k (refuses n i) xk h a e = not_read n (place_in ws i) xk e
  settle_res P ws next k (lacks n) xk h a e = not_missing n next xk e
  settle_res P ws next k (claims (a_name n) i r) xk h a e =
      let b = bind_read (at (place_in ws i) (taking k (a_name n))) (λ k'. settle ws next k' r) xk e in
      let c = room_from k b.0 (a_name n) (at_read (place_in ws i) (taking k (a_name n)) b.0 b.1) in
      settle_res P ws next b.0 r xk (subst (λ j. Res P j r) c.1 h) a b.2
  settle_res P ws next k (claims (some_items s) i r) xk h a e =
      let b = bind_read (at (place_in ws i) (taking k (some_items s))) (λ k'. settle ws next k' r) xk e in
      let c = room_from k b.0 (some_items s) (at_read (place_in ws i) (taking k (some_items s)) b.0 b.1) in
      settle_res P ws next b.0 r xk (subst (λ j. Res P j r) c.1 (h (check_good (all (item_known names) s) 22 tt a.0))) a.1 b.2
  settle_res P ws next k (claims (some_words n) i r) xk h a e =
      let b = bind_read (at (place_in ws i) (taking k (some_words n))) (λ k'. settle ws next k' r) xk e in
      let c = room_from k b.0 (some_words n) (at_read (place_in ws i) (taking k (some_words n)) b.0 b.1) in
      settle_res P ws next b.0 r xk (subst (λ j. Res P j r) c.1 h) a b.2
