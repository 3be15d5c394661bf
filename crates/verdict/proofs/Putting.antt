-- Texts cut early are texts cut late, and where uses fall in some measure the table's depth puts in all.
use Rattle.std.proofs.Common.{◌≡◌, ℕ, zero, suc, ◌<◌, ◌≤◌, Bool, true, false, cond, List, [], ◌∷◌, ◌++◌, map, take, sym, refl, ap, ◌∙◌, subst, ap₂, ⊎_elim, arith}
use Rattle.std.proofs.lemmas.Bool.{or_cases, or_left, or_right, and_parts}
use Rattle.scan.specs.Names.{Bytes, same, among, all}
use Rattle.verdict.specs.Macros.{Piece, plain, macro, pieces, Table, names_of, text_of, put_in, filled, deep, is_known, uses_of}
use Rattle.verdict.specs.Written.{Writes, end, byte, use_of}
use Rattle.verdict.proofs.Orders.{same_refl, same_eq}

take_short : (m q : ℕ) (x : Bytes) → m ≤ q → take m x ≡ take m (take q x)
take_short zero q x l = refl
take_short (suc m) zero x l = absurd (omega arith)
take_short (suc m) (suc q) [] l = refl
take_short (suc m) (suc q) (b ∷ x) l = ap (λ z. b ∷ z) (take_short m q x (omega arith))

take_cut : (m p q : ℕ) (a x : Bytes) → m ≤ p → m ≤ q → take m (a ++ x) ≡ take m (take p a ++ take q x)
take_cut zero p q a x lp lq = refl
take_cut (suc m) zero q a x lp lq = absurd (omega arith)
take_cut (suc m) (suc p) q [] x lp lq = take_short (suc m) q x lq
take_cut (suc m) (suc p) q (b ∷ a) x lp lq = ap (λ z. b ∷ z) (take_cut m p q a x (omega arith) (omega arith))

take_joined : (m : ℕ) (a a' x x' : Bytes) → take m a ≡ take m a' → take m x ≡ take m x' → take m (a ++ x) ≡ take m (a' ++ x')
take_joined m a a' x x' h k =
    take_cut m m m a x (omega arith) (omega arith)
    ∙ (ap₂ (λ u v. take m (u ++ v)) h k ∙ sym (take_cut m m m a' x' (omega arith) (omega arith)))

-- tables whose texts begin alike
Alike : ℕ → Table → Table → Type 0
Alike m d f = (n : Bytes) → take m (text_of d n) ≡ take m (text_of f n)

put_in_alike : (m : ℕ) (d f : Table) → Alike m d f → (ps : List Piece) → take m (put_in d ps) ≡ take m (put_in f ps)
unfolding Alike
put_in_alike m d f h [] = refl
put_in_alike m d f h (plain b ∷ ps) = take_joined m (b ∷ []) (b ∷ []) (put_in d ps) (put_in f ps) refl (put_in_alike m d f h ps)
put_in_alike m d f h (macro n ∷ ps) = take_joined m (text_of d n) (text_of f n) (put_in d ps) (put_in f ps) (h n) (put_in_alike m d f h ps)

-- the macros with the uses in their texts put in, k deep and not cut
abbrev pub full : ℕ → Table → Table
full zero t = t
full (suc k) t = map (λ e. (e.0, put_in (full k t) (pieces e.1))) t

text_of_map : (g : Bytes → Bytes) → g [] ≡ [] → (t : Table) (n : Bytes) → text_of (map (λ e. (e.0, g e.1)) t) n ≡ g (text_of t n)
text_of_map g z [] n = sym z
text_of_map g z (e ∷ es) n = by (same e.0 n) (text_of_map g z es n)
  where
    by : (b : Bool) → text_of (map (λ (e : Bytes × Bytes). (e.0, g e.1)) es) n ≡ g (text_of es n) → cond b (g e.1) (text_of (map (λ (e : Bytes × Bytes). (e.0, g e.1)) es) n) ≡ g (cond b e.1 (text_of es n))
    by true h = refl
    by false h = h

deep_full : (k : ℕ) (t : Table) → Alike 1024 (deep k t) (full k t)
unfolding Alike
deep_full zero t n = refl
deep_full (suc k) t n =
    ap (take 1024) (text_of_map (filled (deep k t)) refl t n)
    ∙ (sym (take_short 1024 1024 (put_in (deep k t) (pieces (text_of t n))) (omega arith))
    ∙ (put_in_alike 1024 (deep k t) (full k t) (deep_full k t) (pieces (text_of t n))
    ∙ sym (ap (take 1024) (text_of_map (λ x. put_in (full k t) (pieces x)) refl t n))))

-- what a field takes is what it says, cut
pub filled_full : (k : ℕ) (t : Table) (w : Bytes) → filled (deep k t) w ≡ take 1024 (put_in (full k t) (pieces w))
filled_full k t w = put_in_alike 1024 (deep k t) (full k t) (deep_full k t) (pieces w)

-- each use has the property P
abbrev pub EachUse : (Bytes → Type 0) → List Piece → Type 0
EachUse P [] = Unit {0}
EachUse P (plain b ∷ ps) = EachUse P ps
EachUse P (macro n ∷ ps) = P n × EachUse P ps

pub each_use : (P : Bytes → Type 0) (ps : List Piece) → ((m : Bytes) → among (uses_of ps) m ≡ true → P m) → EachUse P ps
each_use P [] h = tt
each_use P (plain b ∷ ps) h = each_use P ps h
each_use P (macro n ∷ ps) h = (h n (or_left (same n n) (among (uses_of ps) n) (same_refl n)), each_use P ps (λ m e. h m (or_right (same n m) (among (uses_of ps) m) e)))

pub known_use : (names : List Bytes) (ps : List Piece) → all (is_known names) ps ≡ true → (m : Bytes) → among (uses_of ps) m ≡ true → among names m ≡ true
known_use names [] h m e = absurd (Rattle.std.proofs.lemmas.Bool.false≢true e)
known_use names (plain b ∷ ps) h m e = known_use names ps h m e
known_use names (macro n ∷ ps) h m e =
    let k = and_parts (among names n) (all (is_known names) ps) h in
    ⊎_elim (λ s. subst (λ x. among names x ≡ true) (same_eq n m s) k.0) (λ l. known_use names ps k.1 m l) (or_cases (same n m) (among (uses_of ps) m) e)

module _ (t : Table) where
  Written : Table → Bytes → Type 0
  Written f n = (among (names_of t) n ≡ true) × Writes t (pieces (text_of t n)) (text_of f n)

  writes_put_in : (f : Table) (ps : List Piece) → EachUse (Written f) ps → Writes t ps (put_in f ps)
  unfolding Written
  writes_put_in f [] h = end
  writes_put_in f (plain b ∷ ps) h = byte b (writes_put_in f ps h)
  writes_put_in f (macro n ∷ ps) h = use_of n h.0.0 h.0.1 (writes_put_in f ps h.1)

  -- each use in a known macro's text is known, and has a smaller measure
  abbrev pub Falls : (Bytes → ℕ) → Type 0
  Falls r = (n : Bytes) → among (names_of t) n ≡ true → (m : Bytes) → among (uses_of (pieces (text_of t n))) m ≡ true → (among (names_of t) m ≡ true) × (r m < r n)

  full_written : (r : Bytes → ℕ) → Falls r → (k : ℕ) (n : Bytes) → among (names_of t) n ≡ true → r n < k → Writes t (pieces (text_of t n)) (text_of (full k t) n)
  unfolding Written
  full_written r h zero n e l = absurd (omega arith)
  full_written r h (suc k) n e l =
      subst (Writes t (pieces (text_of t n))) (sym (text_of_map (λ x. put_in (full k t) (pieces x)) refl t n))
      (writes_put_in (full k t) (pieces (text_of t n))
      (each_use (λ m. (among (names_of t) m ≡ true) × Writes t (pieces (text_of t m)) (text_of (full k t) m)) (pieces (text_of t n))
      (λ m u. let f = h n e m u in (f.0, full_written r h k m f.0 (omega (arith, f.1))))))

  pub all_written : (r : Bytes → ℕ) → Falls r → (k : ℕ) → ((n : Bytes) → among (names_of t) n ≡ true → r n < k) → (w : Bytes) → all (is_known (names_of t)) (pieces w) ≡ true → Writes t (pieces w) (put_in (full k t) (pieces w))
  unfolding Written
  all_written r h k b w known =
      writes_put_in (full k t) (pieces w)
      (each_use (λ m. (among (names_of t) m ≡ true) × Writes t (pieces (text_of t m)) (text_of (full k t) m)) (pieces w)
      (λ m u. let e = known_use (names_of t) (pieces w) known m u in (e, full_written r h k m e (b m e))))

  -- a text says one thing
  pub one_text : {ps : List Piece} {x y : Bytes} → Writes t ps x → Writes t ps y → x ≡ y
  one_text end end = refl
  one_text (byte b u) (byte c v) = ap (λ z. b ∷ z) (one_text u v)
  one_text (use_of n h i u) (use_of m k j v) = ap₂ ◌++◌ (one_text i j) (one_text u v)
