-- An order has as many places as there are nodes: each place marks one node more, and at the end all are marked.
use Rattle.std.proofs.Common.{◌≡◌, ℕ, zero, suc, ◌<◌, ◌≤◌, Bool, true, false, ◌||◌, eqb, List, length, get_or, sym, refl, ap, ◌∙◌, subst, ⊎_elim, arith}
use Rattle.std.proofs.lemmas.Bool.{cases_eq, cases_Bool, eq-eqb, ne_eqb, eqb-true, or_cases, or_left, or_right, both_ways}
use Rattle.graph.specs.Needs.{Orders}
use Rattle.graph.specs.Reach.{count}
use Rattle.graph.proofs.Counts.{count_same, count_all}

-- one more number passes
count_one_more : (p : ℕ → Bool) (x n : ℕ) → x < n → p x ≡ false → count (λ b. eqb b x || p b) n ≡ suc (count p n)
count_one_more p x zero l f = absurd (omega arith)
count_one_more p x (suc n) l f =
    ⊎_elim
    (λ (e : x ≡ n).
    let rest : count (λ b. eqb b x || p b) n ≡ count p n = count_same (λ b. eqb b x || p b) p n (λ k lk. ap (λ t. t || p k) (ne_eqb k x (omega arith))) in
    let new : (eqb n x || p n) ≡ true = or_left (eqb n x) (p n) (eq-eqb n x (sym e)) in
    let old : p n ≡ false = subst (λ y. p y ≡ false) e f in
    rw (new, old) (omega (arith, rest)))
    (λ ne.
    let same : (eqb n x || p n) ≡ p n = ap (λ t. t || p n) (ne_eqb n x (λ e. ne (sym e))) in
    rw same (omega (arith, count_one_more p x n (omega (arith, ne)) f)))
    (cases_eq x n)

-- the nodes at the first k places of v
marks : List ℕ → ℕ → ℕ → Bool
marks v zero b = false
marks v (suc k) b = eqb b (get_or v k 0) || marks v k b

marked_at : (v : List ℕ) (k b : ℕ) → marks v k b ≡ true → (j : ℕ) × (j < k) × (b ≡ get_or v j 0)
unfolding marks
marked_at v zero b h = absurd (both_ways false refl h)
marked_at v (suc k) b h =
    ⊎_elim
    (λ e. (k, omega arith, eqb-true b (get_or v k 0) e))
    (λ m. let q = marked_at v k b m in (q.0, omega (arith, q.1), q.2))
    (or_cases (eqb b (get_or v k 0)) (marks v k b) h)

marks_place : (v : List ℕ) (k j : ℕ) → j < k → marks v k (get_or v j 0) ≡ true
unfolding marks
marks_place v zero j l = absurd (omega arith)
marks_place v (suc k) j l =
    ⊎_elim
    (λ (e : j ≡ k). or_left _ _ (eq-eqb (get_or v j 0) (get_or v k 0) (ap (λ i. get_or v i 0) e)))
    (λ ne. or_right (eqb (get_or v j 0) (get_or v k 0)) _ (marks_place v k j (omega (arith, ne))))
    (cases_eq j k)

module _ (n : ℕ) (needs : ℕ → ℕ → Bool) (v : List ℕ) (o : Orders n needs v) where
  count_marks : (k : ℕ) → k ≤ length v → count (marks v k) n ≡ k
  unfolding marks
  count_marks zero l = none n
    where
      none : (m : ℕ) → count (λ b. false) m ≡ 0
      none zero = refl
      none (suc m) = omega (arith, none m)
  count_marks (suc k) l =
      let new : marks v k (get_or v k 0) ≡ false = ⊎_elim
      (λ t. let q = marked_at v k (get_or v k 0) t in absurd (omega (arith, q.1, o.once k q.0 (omega arith) (omega (arith, q.1)) q.2)))
      (λ f. f) (cases_Bool (marks v k (get_or v k 0))) in
      count_one_more (marks v k) (get_or v k 0) n (o.within k (omega arith)) new ∙ ap suc (count_marks k (omega arith))

  pub order_length : length v ≡ n
  order_length =
      sym (count_marks (length v) (omega arith))
      ∙ (count_same (marks v (length v)) (λ _. true) n (λ a l. let q = o.each a l in subst (λ y. marks v (length v) y ≡ true) q.2 (marks_place v (length v) q.0 q.1)) ∙ count_all n)
