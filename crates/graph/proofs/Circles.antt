-- An order exists exactly if no node lies on a circle: along a chain the place in an order falls, and where no node reaches itself the nodes by rank are an order.
use Rattle.std.proofs.Common.{◌≡◌, ℕ, ◌<◌, Bool, true, false, List, [], ◌∷◌, length, get_or, sym, ◌∙◌, subst, ⊎_elim, arith}
use Rattle.std.proofs.lemmas.Bool.{cases_Bool}
use Rattle.graph.specs.Needs.{Chain, OnCircle, NoCircle, Orders, Exactly}
use Rattle.graph.specs.Reach.{reaches, rank, layers}
use Rattle.graph.proofs.Closure.{chain_from_reaches, reaches_from_chain, reaches_arc, reaches_trans, chain_start}
use Rattle.graph.proofs.Counts.{count_lt, count_short}
use Rattle.graph.proofs.Layers.{layers_order}

module _ (n : ℕ) (needs : ℕ → ℕ → Bool) where
  -- along a chain the place in an order falls
  falls : (v : List ℕ) → Orders n needs v → (i j : ℕ) (a : ℕ) (xs : List ℕ) (b : ℕ) → i < length v → j < length v → get_or v i 0 ≡ a → get_or v j 0 ≡ b → Chain n needs a xs b → j < i
  falls v o i j a [] b li lj p q c = o.after i j li lj (subst (λ y. needs (get_or v i 0) y ≡ true) (sym q) (subst (λ x. needs x b ≡ true) (sym p) c.2))
  falls v o i j a (x ∷ xs) b li lj p q c =
      let m = o.each x c.0.1 in
      let first : m.0 < i = o.after i m.0 li m.1 (subst (λ y. needs (get_or v i 0) y ≡ true) (sym m.2) (subst (λ z. needs z x ≡ true) (sym p) c.0.2)) in
      let rest : j < m.0 = falls v o m.0 j x xs b m.1 lj m.2 q c.1 in
      omega arith

  pub no_circle_from_order : (v : List ℕ) → Orders n needs v → NoCircle n needs
  no_circle_from_order v o a c =
      let m = o.each a (chain_start n needs a c.0 a c.1) in
      let less : m.0 < m.0 = falls v o m.0 m.0 a c.0 a m.1 m.1 m.2 m.2 c.1 in
      omega arith

  pub on_circle_holds : (a : ℕ) → a < n → reaches needs n a a ≡ true → OnCircle n needs a
  on_circle_holds a l h = chain_from_reaches n needs n a a (omega arith) l l h

  pub off_circle : (a : ℕ) → reaches needs n a a ≡ false → OnCircle n needs a → ⊥
  off_circle a h c = let z : true ≡ false = sym (reaches_from_chain n needs a c.0 a c.1) ∙ h in grind arith

  -- no node reaches itself
  abbrev pub Clear : Type 0
  Clear = (a : ℕ) → a < n → reaches needs n a a ≡ false

  pub no_circle_from_clear : Clear → NoCircle n needs
  no_circle_from_clear h a c = off_circle a (h a (chain_start n needs a c.0 a c.1)) c

  pub clear_from_no_circle : NoCircle n needs → Clear
  clear_from_no_circle h a l = ⊎_elim (λ t. absurd (h a (on_circle_holds a l t))) (λ f. f) (cases_Bool (reaches needs n a a))

  -- a node reaches fewer nodes than one that needs it
  pub rank_falls : Clear → (a b : ℕ) → a < n → b < n → needs a b ≡ true → rank n needs b < rank n needs a
  rank_falls h a b la lb e =
      count_lt (reaches needs n b) (reaches needs n a) n b
      (λ k lk p. reaches_trans needs n a b k lb (reaches_arc needs n a b e) p)
      lb (h b lb) (reaches_arc needs n a b e)

  pub order_from_clear : Clear → Orders n needs (layers (rank n needs) n n)
  order_from_clear h =
      layers_order n (rank n needs) needs (λ a la. count_short (reaches needs n a) n a la (h a la)) (rank_falls h)

pub exactly : Exactly
exactly n needs =
    (λ p. no_circle_from_order n needs p.0 p.1, λ h. (layers (rank n needs) n n, order_from_clear n needs (clear_from_no_circle n needs h)))
