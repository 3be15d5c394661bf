-- Evaluation along an order solves the equations, and two solutions agree: when a node comes, all that it needs is settled.
use Rattle.std.proofs.Common.{◌≡◌, ℕ, zero, suc, ◌+◌, ◌<◌, ◌≤◌, Bool, true, cond, eqb, List, length, get_or, set, sym, refl, ap, ◌∙◌, subst, ⊎_elim, add-one, arith}
use Rattle.std.proofs.lemmas.List.{length-set, get_or-set_same, get_or-set_other}
use Rattle.std.proofs.lemmas.Bool.{cases_eq, eq-eqb, ne_eqb, cond-true, cond-false}
use Rattle.graph.specs.Needs.{Orders}
use Rattle.graph.specs.Solve.{Local, Solves, OneSolution, Solved, with_given, put, stage, evaluated}

put_same : {X : Type 0} (s : ℕ → X) (a : ℕ) (x : X) → put s a x a ≡ x
put_same s a x = cond-true (eqb a a) x (s a) (eq-eqb a a refl)

put_other : {X : Type 0} (s : ℕ → X) (a : ℕ) (x : X) (b : ℕ) → (b ≡ a → ⊥) → put s a x b ≡ s b
put_other s a x b ne = cond-false (eqb b a) x (s b) (ne_eqb b a ne)

-- with values given for some nodes
pub local_with_given : {X : Type 0} (n : ℕ) (needs : ℕ → ℕ → Bool) (fixed : ℕ → Bool) (given : ℕ → X) (eq : ℕ → (ℕ → X) → X) → Local n needs eq → Local n needs (with_given fixed given eq)
local_with_given n needs fixed given eq h a s t l agree = ap (cond (fixed a) (given a)) (h a s t l agree)

module _ {X : Type 0} (n : ℕ) (needs : ℕ → ℕ → Bool) (eq : ℕ → (ℕ → X) → X) (v : List ℕ) (local : Local n needs eq) (o : Orders n needs v) where
  -- values that agree on the nodes before place j give the node there one value
  agree : (s t : ℕ → X) (j : ℕ) → j < length v → ((k : ℕ) → k < j → s (get_or v k 0) ≡ t (get_or v k 0)) → eq (get_or v j 0) s ≡ eq (get_or v j 0) t
  agree s t j l h = local (get_or v j 0) s t (o.within j l) (λ b lb e.
      let m = o.each b lb in
      let before : m.0 < j = o.after j m.0 l m.1 (subst (λ y. needs (get_or v j 0) y ≡ true) (sym m.2) e) in
      subst (λ y. s y ≡ t y) m.2 (h m.0 before))

  module _ (s : ℕ → X) where
    -- once set, a value stays
    stays : (m j : ℕ) → j < m → m ≤ length v → stage eq v s m (get_or v j 0) ≡ eq (get_or v j 0) (stage eq v s j)
    stays zero j l k = absurd (omega arith)
    stays (suc m) j l k =
        ⊎_elim
        (λ (e : j ≡ m). subst (λ i. stage eq v s (suc m) (get_or v i 0) ≡ eq (get_or v i 0) (stage eq v s i)) (sym e) (put_same (stage eq v s m) (get_or v m 0) _))
        (λ ne.
        let other : get_or v j 0 ≡ get_or v m 0 → ⊥ = λ same. ne (o.once j m (omega arith) (omega arith) same) in
        put_other (stage eq v s m) (get_or v m 0) _ (get_or v j 0) other ∙ stays m j (omega (arith, ne)) (omega arith))
        (cases_eq j m)

    solves_at : (j : ℕ) → j < length v → evaluated eq v s (get_or v j 0) ≡ eq (get_or v j 0) (evaluated eq v s)
    solves_at j l =
        stays (length v) j l (omega arith) ∙ agree (stage eq v s j) (evaluated eq v s) j l (λ k lk. stays j k lk (omega arith) ∙ sym (stays (length v) k (omega arith) (omega arith)))

    pub evaluated_solves : Solves n eq (evaluated eq v s)
    evaluated_solves a l = let m = o.each a l in subst (λ y. evaluated eq v s y ≡ eq y (evaluated eq v s)) m.2 (solves_at m.0 m.1)

  module _ (s t : ℕ → X) (p : Solves n eq s) (q : Solves n eq t) where
    same_to : (m : ℕ) → m ≤ length v → (j : ℕ) → j < m → s (get_or v j 0) ≡ t (get_or v j 0)
    same_to zero l j lj = absurd (omega arith)
    same_to (suc m) l j lj =
        ⊎_elim
        (λ (e : j ≡ m).
        let here : s (get_or v m 0) ≡ t (get_or v m 0) = p _ (o.within m (omega arith)) ∙ (agree s t m (omega arith) (same_to m (omega arith)) ∙ sym (q _ (o.within m (omega arith)))) in
        subst (λ i. s (get_or v i 0) ≡ t (get_or v i 0)) (sym e) here)
        (λ ne. same_to m (omega arith) j (omega (arith, ne)))
        (cases_eq j m)

    pub same_solution : (a : ℕ) → a < n → s a ≡ t a
    same_solution a l = let m = o.each a l in subst (λ y. s y ≡ t y) m.2 (same_to (length v) (omega arith) m.0 m.1)

-- values in a list, as a loop along the order writes them
module _ {X : Type 0} (d : X) (n : ℕ) (needs : ℕ → ℕ → Bool) (eq : ℕ → (ℕ → X) → X) (v : List ℕ) (local : Local n needs eq) (start : ℕ → X) where
  -- the list holds the values of stage k
  pub record Holds (k : ℕ) (values : List X) : Type 0 where
    pub long : length values ≡ n
    pub each : (b : ℕ) → b < n → get_or values b d ≡ stage eq v start k b

  -- one node more
  pub holds_more : (k : ℕ) (values : List X) (a : ℕ) (x : X) → a < n → a ≡ get_or v k 0 → Holds k values → x ≡ eq a (λ b. get_or values b d) → Holds (k + 1) (set values a x)
  holds_more k values a x la at h e =
      let value : x ≡ eq a (stage eq v start k) = e ∙ local a (λ b. get_or values b d) (stage eq v start k) la (λ b lb _. h.each b lb) in
      let put-at : (b : ℕ) → b < n → get_or (set values a x) b d ≡ put (stage eq v start k) a (eq a (stage eq v start k)) b = λ b lb. ⊎_elim
      (λ (i : b ≡ a). subst (λ y. get_or (set values a x) y d ≡ put (stage eq v start k) a (eq a (stage eq v start k)) y) (sym i)
      (get_or-set_same values a x d (omega (arith, h.long)) ∙ (value ∙ sym (put_same (stage eq v start k) a _))))
      (λ ne. get_or-set_other values a b x d ne ∙ (h.each b lb ∙ sym (put_other (stage eq v start k) a _ b ne)))
      (cases_eq b a) in
      record {
        long = length-set values a x ∙ h.long;
        each = λ b lb. rw add-one (subst (λ y. get_or (set values a x) b d ≡ put (stage eq v start k) y (eq y (stage eq v start k)) b) at (put-at b lb));
      }

  pub holds_solves : Orders n needs v → (values : List X) → Holds (length v) values → Solves n eq (λ b. get_or values b d)
  holds_solves o values h a l =
      h.each a l ∙ (evaluated_solves n needs eq v local o start a l ∙ local a (evaluated eq v start) (λ b. get_or values b d) l (λ b lb _. sym (h.each b lb)))

  -- what the loop has written at the end
  pub holds_one : Orders n needs v → (values : List X) → Holds (length v) values → OneSolution d n eq values
  holds_one o values h =
      let solves = holds_solves o values h in
      record {
        long = h.long;
        solves = solves;
        alone = λ t p. same_solution n needs eq v local o t (λ b. get_or values b d) p solves;
      }

pub solved : {X : Type 0} → Solved X
solved n needs fixed given eq v local o =
    let all = with_given fixed given eq in
    let local' = local_with_given n needs fixed given eq local in
    (evaluated_solves n needs all v local' o, same_solution n needs all v local' o)
