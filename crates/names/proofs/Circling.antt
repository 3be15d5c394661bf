-- Why an order of a graph, or its least node on a circle, tells the judgement on the same needs with the places of the nodes.
use Rattle.std.proofs.Common.{◌≡◌, ℕ, zero, suc, ◌<◌, ◌≤◌, Bool, true, false, cond, List, [], ◌∷◌, length, get_or, sym, refl, ap, ◌∙◌, subst, ⊎_elim, arith}
use Rattle.std.proofs.lemmas.List.{get_or_past}
use Rattle.std.proofs.lemmas.Bool.{cases_lt, cases_Bool}
use Rattle.graph.specs.Needs.{Chain, OnCircle, NoCircle, LeastOnCircle, Orders}
use Rattle.graph.proofs.Circles.{clear_from_no_circle, on_circle_holds, off_circle}
use Rattle.graph.proofs.Closure.{chain_start}
use Rattle.graph.specs.Reach.{reaches}
use Rattle.verdict.specs.Circles.{on_circle}
use Rattle.verdict.specs.Verdict.{read, refuse, refuse_first}
use Rattle.verdict.proofs.Circular.{flag, flags_length}

-- THE FIRST FLAG

-- no flag is up
all_down : (m : ℕ) (fs : List Bool) (ps : List ℕ) → ((i : ℕ) → get_or fs i false ≡ false) → refuse_first m fs ps ≡ read tt
all_down m [] ps h = refl
all_down m (f ∷ fs) [] h = refl
all_down m (f ∷ fs) (p ∷ ps) h = ap (λ b. cond b (refuse m p) (refuse_first m fs ps)) (h 0) ∙ all_down m fs ps (λ i. h (suc i))

-- the flag a is the first that is up
first_up : (m : ℕ) (fs : List Bool) (ps : List ℕ) (a : ℕ) → a < length fs → a < length ps → get_or fs a false ≡ true → ((b : ℕ) → b < a → get_or fs b false ≡ false) → refuse_first m fs ps ≡ refuse m (get_or ps a 0)
first_up m [] ps a l k h d = absurd (omega arith)
first_up m (f ∷ fs) [] a l k h d = absurd (omega arith)
first_up m (f ∷ fs) (p ∷ ps) zero l k h d = ap (λ b. cond b (refuse m p) (refuse_first m fs ps)) h
first_up m (f ∷ fs) (p ∷ ps) (suc a) l k h d =
    ap (λ b. cond b (refuse m p) (refuse_first m fs ps)) (d 0 (omega arith)) ∙ first_up m fs ps a (omega arith) (omega arith) h (λ b lb. d (suc b) (omega arith))

-- THE SAME NEEDS

module _ (n : ℕ) (f g : ℕ → ℕ → Bool) (alike : (x y : ℕ) → x < n → y < n → f x y ≡ g x y) where
  orders_alike : (v : List ℕ) → Orders n f v → Orders n g v
  orders_alike v o = record {
    within = o.within;
    each = o.each;
    once = o.once;
    after = λ i j li lj h. o.after i j li lj (alike (get_or v i 0) (get_or v j 0) (o.within i li) (o.within j lj) ∙ h);
  }

  chain_alike : (a : ℕ) (xs : List ℕ) (b : ℕ) → Chain n f a xs b → Chain n g a xs b
  chain_alike a [] b c = (c.0, c.1, sym (alike a b c.0 c.1) ∙ c.2)
  chain_alike a (x ∷ xs) b c = ((c.0.0, c.0.1, sym (alike a x c.0.0 c.0.1) ∙ c.0.2), chain_alike x xs b c.1)

  circle_alike : (a : ℕ) → OnCircle n f a → OnCircle n g a
  circle_alike a c = (c.0, chain_alike a c.0 a c.1)

-- THE FLAGS OF A CIRCLE

module _ (m n : ℕ) (g : ℕ → ℕ → Bool) (ps : List ℕ) (long : length ps ≡ n) where
  down : NoCircle n g → (i : ℕ) → get_or (on_circle n g) i false ≡ false
  down h i =
      ⊎_elim
      (λ (l : i < n). flag n g i l ∙ clear_from_no_circle n g h i l)
      (λ (l : n ≤ i). get_or_past (on_circle n g) i false (omega (arith, flags_length n g)))
      (cases_lt i n)

  no_flag : NoCircle n g → refuse_first m (on_circle n g) ps ≡ read tt
  no_flag h = all_down m (on_circle n g) ps (down h)

  up : (a : ℕ) → a < n → OnCircle n g a → reaches g n a a ≡ true
  up a l c = ⊎_elim (λ h. h) (λ h. absurd (off_circle n g a h c)) (cases_Bool (reaches g n a a))

  off : (b : ℕ) → b < n → (OnCircle n g b → ⊥) → reaches g n b b ≡ false
  off b l h = ⊎_elim (λ e. absurd (h (on_circle_holds n g b l e))) (λ e. e) (cases_Bool (reaches g n b b))

  least_flag : (a : ℕ) → LeastOnCircle n g a → refuse_first m (on_circle n g) ps ≡ refuse m (get_or ps a 0)
  least_flag a h =
      let l : a < n = chain_start n g a h.circle.0 a h.circle.1 in
      first_up m (on_circle n g) ps a (omega (arith, flags_length n g)) (omega arith)
      (flag n g a l ∙ up a l h.circle)
      (λ b lb. let k : b < n = omega arith in flag n g b k ∙ off b k (h.least b lb))

-- BOTH TOGETHER

module _ (m n k : ℕ) (f g : ℕ → ℕ → Bool) (ps : List ℕ) (size : n ≡ k) (long : length ps ≡ k) (alike : (x y : ℕ) → x < n → y < n → f x y ≡ g x y) where
  back : (x y : ℕ) → x < n → y < n → g x y ≡ f x y
  back x y lx ly = sym (alike x y lx ly)

  pub order_told : (v : List ℕ) → Orders n f v → NoCircle n f → Orders k g v × (refuse_first m (on_circle k g) ps ≡ read tt)
  order_told v o h = (
    subst (λ j. Orders j g v) size (orders_alike n f g alike v o),
    no_flag m k g ps long (λ a c. h a (circle_alike n g f back a (subst (λ j. OnCircle j g a) (sym size) c))),
  )

  pub circle_told : (a : ℕ) → LeastOnCircle n f a → refuse_first m (on_circle k g) ps ≡ refuse m (get_or ps a 0)
  circle_told a h =
      least_flag m k g ps long a
      (subst (λ j. LeastOnCircle j g a) size
      (record {
        circle = circle_alike n f g alike a h.circle;
        least = λ b lb c. h.least b lb (circle_alike n g f back b c);
      }))
