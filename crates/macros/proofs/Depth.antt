-- Why the depth does not matter in a table in order: what a use stands for is complete as deep as the macro's place.
use Rattle.std.proofs.Common.{◌≡◌, ℕ, zero, suc, ◌<◌, ◌≤◌, Bool, true, false, cond, ltb, List, [], ◌∷◌, ◌++◌, map, length, sym, refl, ap, ◌∙◌, subst, ap₂, arith}
use Rattle.std.proofs.lemmas.Bool.{and_parts, ltb-true}
use Rattle.scan.specs.Names.{Bytes, same, all}
use Rattle.verdict.specs.Circuit.{rank_in}
use Rattle.verdict.specs.Macros.{Piece, plain, macro, pieces, Table, names_of, text_of, put_in}
use Rattle.macros.specs.Full.{full, said, is_before, all_before, text_at, InOrder}

-- a change of all texts changes the text of each name
pub text_of_map : (g : Bytes → Bytes) → g [] ≡ [] → (t : Table) (n : Bytes) → text_of (map (λ e. (e.0, g e.1)) t) n ≡ g (text_of t n)
text_of_map g z [] n = sym z
text_of_map g z (e ∷ es) n = by (same e.0 n) (text_of_map g z es n)
  where
    by : (b : Bool) → text_of (map (λ (e : Bytes × Bytes). (e.0, g e.1)) es) n ≡ g (text_of es n) → cond b (g e.1) (text_of (map (λ (e : Bytes × Bytes). (e.0, g e.1)) es) n) ≡ g (cond b e.1 (text_of es n))
    by true h = refl
    by false h = h

-- a known macro's text stands at its place
pub text_there : (t : Table) (n : Bytes) → rank_in (names_of t) n < length t → text_at t (rank_in (names_of t) n) ≡ text_of t n
text_there [] n h = absurd (omega arith)
text_there (e ∷ es) n h = by (same e.0 n) (λ l. text_there es n l) h
  where
    by : (b : Bool) → (rank_in (names_of es) n < length es → text_at es (rank_in (names_of es) n) ≡ text_of es n) → cond b 0 (suc (rank_in (names_of es) n)) < length (e ∷ es) → text_at (e ∷ es) (cond b 0 (suc (rank_in (names_of es) n))) ≡ cond b e.1 (text_of es n)
    by true k l = refl
    by false k l = k (omega arith)

-- tables that agree on the first p names put in the same
same_put : (ns : List Bytes) (p : ℕ) (d f : Table) → ((x : Bytes) → rank_in ns x < p → text_of d x ≡ text_of f x) → (ps : List Piece) → all (is_before ns p) ps ≡ true → put_in d ps ≡ put_in f ps
same_put ns p d f h [] u = refl
same_put ns p d f h (plain b ∷ ps) u = ap (λ l. b ∷ l) (same_put ns p d f h ps u)
same_put ns p d f h (macro n ∷ ps) u =
    let k = and_parts (ltb (rank_in ns n) p) (all (is_before ns p) ps) u in
    ap₂ ◌++◌ (h n (ltb-true (rank_in ns n) p k.0)) (same_put ns p d f h ps k.1)

module _ (t : Table) (o : InOrder t) where
  uses_there : (x : Bytes) → rank_in (names_of t) x < length t → all_before (names_of t) (rank_in (names_of t) x) (text_of t x) ≡ true
  uses_there x l = subst (λ w. all_before (names_of t) (rank_in (names_of t) x) w ≡ true) (text_there t x l) (o (rank_in (names_of t) x))

  -- a greater depth changes nothing
  deeper : (n m p : ℕ) (ps : List Piece) → all (is_before (names_of t) p) ps ≡ true → p ≤ length t → p ≤ n → p ≤ m → put_in (full n t) ps ≡ put_in (full m t) ps
  deeper zero m p ps u l a b = same_put (names_of t) p (full zero t) (full m t) (λ x h. absurd (omega arith)) ps u
  deeper (suc n) zero p ps u l a b = same_put (names_of t) p (full (suc n) t) (full zero t) (λ x h. absurd (omega arith)) ps u
  deeper (suc n) (suc m) p ps u l a b =
      same_put (names_of t) p (full (suc n) t) (full (suc m) t)
      (λ x h.
      let k : rank_in (names_of t) x < length t = omega arith in
      text_of_map (λ w. put_in (full n t) (pieces w)) refl t x
      ∙ (deeper n m (rank_in (names_of t) x) (pieces (text_of t x)) (uses_there x k) (omega arith) (omega arith) (omega arith)
      ∙ sym (text_of_map (λ w. put_in (full m t) (pieces w)) refl t x)))
      ps u

  -- what a use stands for, as deep as the macro's place and deeper
  pub use_said : (below : ℕ) (n : Bytes) → below ≤ length t → rank_in (names_of t) n < below → said (rank_in (names_of t) n) t (text_at t (rank_in (names_of t) n)) ≡ text_of (full below t) n
  use_said zero n l h = absurd (omega arith)
  use_said (suc b) n l h =
      let k : rank_in (names_of t) n < length t = omega arith in
      ap (said (rank_in (names_of t) n) t) (text_there t n k)
      ∙ (deeper (rank_in (names_of t) n) b (rank_in (names_of t) n) (pieces (text_of t n)) (uses_there n k) (omega arith) (omega arith) (omega arith)
      ∙ sym (text_of_map (λ w. put_in (full b t) (pieces w)) refl t n))
