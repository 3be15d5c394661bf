-- Names are ordered one after the other, so entries with different names are sorted in one way only.
use Rattle.std.proofs.Common.{◌≡◌, Bool, true, false, cond, not, ◌||◌, List, [], ◌∷◌, map, sym, refl, ap, ◌∙◌, subst, ⊎_elim}
use Rattle.std.proofs.lemmas.Bool.{both_ways, or_parts, or_from, cases_Bool, cond-true, cond-false}
use Rattle.scan.specs.Names.{Bytes, same, before, among}
use Rattle.scan.proofs.NameOrder.{names_ordered}
use Rattle.verdict.specs.Macros.{names_of}
use Rattle.verdict.specs.Circuit.{insert, sorted}
use Rattle.verdict.specs.Lines.{Reordered, nothing, keep, swap, twice}

pub same_refl : (n : Bytes) → same n n ≡ true
same_refl = names_ordered.self

pub same_eq : (m n : Bytes) → same m n ≡ true → m ≡ n
same_eq = names_ordered.told

pub same_not : (m n : Bytes) → (m ≡ n → ⊥) → same m n ≡ false
same_not m n h = ⊎_elim (λ e. absurd (h (same_eq m n e))) (λ e. e) (cases_Bool (same m n))

pub not_same : (m n : Bytes) → same m n ≡ false → m ≡ n → ⊥
not_same m n e h = both_ways (same m n) e (subst (λ x. same m x ≡ true) h (same_refl m))

pub before_trans : (a b c : Bytes) → before a b ≡ true → before b c ≡ true → before a c ≡ true
before_trans = names_ordered.onward

one_way : (a b : Bytes) → before a b ≡ true → before b a ≡ false
one_way a b p = ⊎_elim (λ q. absurd (both_ways (before a a) (names_ordered.never a) (before_trans a b a p q))) (λ q. q) (cases_Bool (before b a))

pub before_flip : (a b : Bytes) → (a ≡ b → ⊥) → before a b ≡ not (before b a)
before_flip a b h = ⊎_elim (λ p. p ∙ sym (ap not (one_way a b p))) (λ q. one_way b a q ∙ sym (ap not q)) (names_ordered.total a b h)

-- no two names are the same
abbrev pub Distinct : List Bytes → Type 0
Distinct [] = Unit {0}
Distinct (n ∷ ns) = (among ns n ≡ false) × Distinct ns

pub or_swap : (x y z : Bool) → (x || (y || z)) ≡ (y || (x || z))
or_swap true true z = refl
or_swap true false z = refl
or_swap false true z = refl
or_swap false false z = refl

pub among_reordered : {ms ns : List Bytes} → Reordered ms ns → (x : Bytes) → among ms x ≡ among ns x
among_reordered nothing x = refl
among_reordered (keep n r) x = ap (λ b. same n x || b) (among_reordered r x)
among_reordered (swap m n ns) x = or_swap (same m x) (same n x) (among ns x)
among_reordered (twice r s) x = among_reordered r x ∙ among_reordered s x

pub distinct_reordered : {ms ns : List Bytes} → Reordered ms ns → Distinct ms → Distinct ns
distinct_reordered nothing d = d
distinct_reordered (keep n r) d = (sym (among_reordered r n) ∙ d.0, distinct_reordered r d.1)
distinct_reordered (swap m n ns) d =
    let h = or_parts (same n m) (among ns m) d.0 in
    (or_from (same m n) (among ns n) (same_not m n (λ e. not_same n m h.0 (sym e))) d.1.0, (h.1, d.1.1))
distinct_reordered (twice r s) d = distinct_reordered s (distinct_reordered r d)

pub map_reordered : {X Y : Type 0} (f : X → Y) {xs ys : List X} → Reordered xs ys → Reordered (map f xs) (map f ys)
map_reordered f nothing = nothing
map_reordered f (keep x r) = keep (f x) (map_reordered f r)
map_reordered f (swap x y xs) = swap (f x) (f y) (map f xs)
map_reordered f (twice r s) = twice (map_reordered f r) (map_reordered f s)

module _ {X : Type 0} where
  -- into an empty list, and before a first entry, by the test
  two : (x y : Bytes × X) (t u : Bool) (rest : List (Bytes × X)) → t ≡ not u → cond t (x ∷ y ∷ rest) (y ∷ x ∷ rest) ≡ cond u (y ∷ x ∷ rest) (x ∷ y ∷ rest)
  two x y t true rest h = simp h
  two x y t false rest h = simp h

  insert_before : (x e : Bytes × X) (es : List (Bytes × X)) → before x.0 e.0 ≡ true → insert x (e ∷ es) ≡ x ∷ e ∷ es
  insert_before x e es h = cond-true (before x.0 e.0) _ _ h

  insert_after : (x e : Bytes × X) (es : List (Bytes × X)) → before x.0 e.0 ≡ false → insert x (e ∷ es) ≡ e ∷ insert x es
  insert_after x e es h = cond-false (before x.0 e.0) _ _ h

  -- both stand before the first
  both_first : (x y e : Bytes × X) (es : List (Bytes × X)) → before x.0 e.0 ≡ true → before y.0 e.0 ≡ true →
      insert x (insert y (e ∷ es)) ≡ cond (before x.0 y.0) (x ∷ y ∷ e ∷ es) (y ∷ x ∷ e ∷ es)
  both_first x y e es hx hy =
      ap (insert x) (insert_before y e es hy) ∙ ap (λ r. cond (before x.0 y.0) (x ∷ y ∷ e ∷ es) (y ∷ r)) (insert_before x e es hx)

  -- x stands before the first, and y after it
  one_first : (x y e : Bytes × X) (es : List (Bytes × X)) → before x.0 e.0 ≡ true → before y.0 e.0 ≡ false →
      insert x (insert y (e ∷ es)) ≡ insert y (insert x (e ∷ es))
  one_first x y e es hx hy =
      let n : before y.0 x.0 ≡ false =
      ⊎_elim (λ t. absurd (both_ways (before y.0 e.0) hy (before_trans y.0 x.0 e.0 t hx))) (λ f. f) (cases_Bool (before y.0 x.0)) in
      (ap (insert x) (insert_after y e es hy) ∙ insert_before x e (insert y es) hx)
      ∙ sym (ap (insert y) (insert_before x e es hx) ∙ (insert_after y x (e ∷ es) n ∙ ap (λ r. x ∷ r) (insert_after y e es hy)))

  pub insert_insert : (x y : Bytes × X) (es : List (Bytes × X)) → (x.0 ≡ y.0 → ⊥) → insert x (insert y es) ≡ insert y (insert x es)
  insert_insert x y [] h = two x y (before x.0 y.0) (before y.0 x.0) [] (before_flip x.0 y.0 h)
  insert_insert x y (e ∷ es) h =
      ⊎_elim
      (λ hx.
      ⊎_elim
      (λ hy.
      both_first x y e es hx hy
      ∙ (two x y (before x.0 y.0) (before y.0 x.0) (e ∷ es) (before_flip x.0 y.0 h)
      ∙ sym (both_first y x e es hy hx)))
      (λ hy. one_first x y e es hx hy)
      (cases_Bool (before y.0 e.0)))
      (λ hx.
      ⊎_elim
      (λ hy. sym (one_first y x e es hy hx))
      (λ hy.
      (ap (insert x) (insert_after y e es hy) ∙ (insert_after x e (insert y es) hx ∙ ap (λ r. e ∷ r) (insert_insert x y es h)))
      ∙ sym (ap (insert y) (insert_after x e es hx) ∙ insert_after y e (insert x es) hy))
      (cases_Bool (before y.0 e.0)))
      (cases_Bool (before x.0 e.0))

  -- entries with different names are sorted in one way
  pub sorted_reordered : {es fs : List (Bytes × X)} → Reordered es fs → Distinct (names_of es) → sorted es ≡ sorted fs
  sorted_reordered nothing d = refl
  sorted_reordered (keep e r) d = ap (insert e) (sorted_reordered r d.1)
  sorted_reordered (swap x y es) d =
      insert_insert x y (sorted es) (λ h. not_same y.0 x.0 (or_parts (same y.0 x.0) (among (names_of es) x.0) d.0).0 (sym h))
  sorted_reordered (twice r s) d = sorted_reordered r d ∙ sorted_reordered s (distinct_reordered (map_reordered (λ (e : Bytes × X). e.0) r) d)
