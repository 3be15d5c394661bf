-- `reaches needs n` says whether a chain leads from one node to another: chains are joined at their inner nodes, the largest first.
use Rattle.std.proofs.Common.{◌≡◌, ℕ, zero, suc, ◌<◌, ◌≤◌, Bool, true, ◌&&◌, ◌⊎◌, List, [], ◌∷◌, ◌++◌, subst, inl, inr, ⊎_elim, arith}
use Rattle.std.proofs.lemmas.Bool.{or_cases, or_left, or_right, and_parts, and_from, cases_eq}
use Rattle.graph.specs.Needs.{Chain}
use Rattle.graph.specs.Reach.{reaches}

module _ (n : ℕ) (needs : ℕ → ℕ → Bool) where
  join : (a m b : ℕ) (xs ys : List ℕ) → Chain n needs a xs m → Chain n needs m ys b → Chain n needs a (xs ++ m ∷ ys) b
  join a m b [] ys p q = (p, q)
  join a m b (x ∷ xs) ys p q = (p.0, join x m b xs ys p.1 q)

  pub chain_from_reaches : (k a b : ℕ) → k ≤ n → a < n → b < n → reaches needs k a b ≡ true → (xs : List ℕ) × Chain n needs a xs b
  chain_from_reaches zero a b l la lb h = ([], (la, lb, h))
  chain_from_reaches (suc k) a b l la lb h =
      ⊎_elim
      (λ p. chain_from_reaches k a b (omega arith) la lb p)
      (λ q.
      let r = and_parts (reaches needs k a k) (reaches needs k k b) q in
      let s = chain_from_reaches k a k (omega arith) la (omega arith) r.0 in
      let t = chain_from_reaches k k b (omega arith) (omega arith) lb r.1 in
      (s.0 ++ k ∷ t.0, join a k b s.0 t.0 s.1 t.1))
      (or_cases (reaches needs k a b) (reaches needs k a k && reaches needs k k b) h)

module _ (needs : ℕ → ℕ → Bool) where
  pub reaches_arc : (k a b : ℕ) → needs a b ≡ true → reaches needs k a b ≡ true
  reaches_arc zero a b h = h
  reaches_arc (suc k) a b h = or_left _ _ (reaches_arc k a b h)

  -- what one more inner node gives, by cases
  either : (k a b : ℕ) → reaches needs (suc k) a b ≡ true → (reaches needs k a b ≡ true) ⊎ ((reaches needs k a k ≡ true) × (reaches needs k k b ≡ true))
  either k a b h = ⊎_elim inl (λ q. inr (and_parts _ _ q)) (or_cases (reaches needs k a b) (reaches needs k a k && reaches needs k k b) h)

  reaches_through : (k a b : ℕ) → reaches needs k a k ≡ true → reaches needs k k b ≡ true → reaches needs (suc k) a b ≡ true
  reaches_through k a b p q = or_right (reaches needs k a b) _ (and_from _ _ p q)

  pub reaches_trans : (k a m b : ℕ) → m < k → reaches needs k a m ≡ true → reaches needs k m b ≡ true → reaches needs k a b ≡ true
  reaches_trans zero a m b l p q = absurd (omega arith)
  reaches_trans (suc k) a m b l p q =
      ⊎_elim
      (λ (e : m ≡ k).
      let p' : reaches needs (suc k) a k ≡ true = subst (λ x. reaches needs (suc k) a x ≡ true) e p in
      let q' : reaches needs (suc k) k b ≡ true = subst (λ x. reaches needs (suc k) x b ≡ true) e q in
      reaches_through k a b (⊎_elim (λ h. h) (λ h. h.0) (either k a k p')) (⊎_elim (λ h. h) (λ h. h.1) (either k k b q')))
      (λ ne.
      let l' : m < k = omega (arith, ne) in
      ⊎_elim
      (λ p₁. ⊎_elim
      (λ q₁. or_left _ _ (reaches_trans k a m b l' p₁ q₁))
      (λ q₂. reaches_through k a b (reaches_trans k a m k l' p₁ q₂.0) q₂.1)
      (either k m b q))
      (λ p₂. ⊎_elim
      (λ q₁. reaches_through k a b p₂.0 (reaches_trans k k m b l' p₂.1 q₁))
      (λ q₂. reaches_through k a b p₂.0 q₂.1)
      (either k m b q))
      (either k a m p))
      (cases_eq m k)

pub reaches_from_chain : (n : ℕ) (needs : ℕ → ℕ → Bool) (a : ℕ) (xs : List ℕ) (b : ℕ) → Chain n needs a xs b → reaches needs n a b ≡ true
reaches_from_chain n needs a [] b p = reaches_arc needs n a b p.2
reaches_from_chain n needs a (x ∷ xs) b p =
    reaches_trans needs n a x b p.0.1 (reaches_arc needs n a x p.0.2) (reaches_from_chain n needs x xs b p.1)

pub chain_start : (n : ℕ) (needs : ℕ → ℕ → Bool) (a : ℕ) (xs : List ℕ) (b : ℕ) → Chain n needs a xs b → a < n
chain_start n needs a [] b p = p.0
chain_start n needs a (x ∷ xs) b p = p.0.0
