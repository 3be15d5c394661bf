-- Why the table along an order is in order: a macro that is used is known, so it stands in the table, and the order has it before its users.
use Rattle.std.proofs.Common.{◌≡◌, ℕ, zero, suc, ◌<◌, ◌≤◌, Bool, true, false, ltb, List, [], ◌∷◌, length, get_or, sym, refl, ap, ◌∙◌, subst, ⊎_elim, arith}
use lib.ListN.{length-map}
use Rattle.std.proofs.lemmas.List.{get_or-map, get_or_past}
use Rattle.std.proofs.lemmas.Bool.{both_ways, or_left, or_right, or_parts, and_from, lt-ltb, cases_Bool, cases_lt, cond-true, cond-false}
use Rattle.graph.specs.Needs.{Orders}
use Rattle.scan.specs.Names.{Bytes, same, among, all}
use Rattle.verdict.specs.Circuit.{rank_in}
use Rattle.verdict.specs.Macros.{Piece, plain, macro, pieces, Table, names_of, text_of, all_known, uses_of, uses_macro}
use Rattle.verdict.specs.Verdict.{macro_needs}
use Rattle.verdict.proofs.Orders.{same_refl, same_eq}
use Rattle.verdict.proofs.Putting.{known_use}
use Rattle.verdict.proofs.Uses.{stands}
use Rattle.macros.specs.Full.{is_before, all_before, text_at, InOrder}
use Rattle.macros.specs.Tables.{Distinct, picked}

-- what stands in a table is known
pub among_at : (t : Table) (i : ℕ) (n : Bytes) → i < length t → (get_or t i ([], [])).0 ≡ n → among (names_of t) n ≡ true
among_at [] i n l e = absurd (omega arith)
among_at (x ∷ xs) zero n l e = or_left (same x.0 n) (among (names_of xs) n) (subst (λ m. same x.0 m ≡ true) e (same_refl x.0))
among_at (x ∷ xs) (suc i) n l e = or_right (same x.0 n) (among (names_of xs) n) (among_at xs i n (omega arith) e)

-- with no name twice, the text of a name is the one beside it
pub text_beside : (t : Table) → Distinct (names_of t) → (i : ℕ) (n : Bytes) → i < length t → (get_or t i ([], [])).0 ≡ n → text_of t n ≡ (get_or t i ([], [])).1
text_beside [] d i n l e = absurd (omega arith)
text_beside (x ∷ xs) d zero n l e = cond-true (same x.0 n) x.1 (text_of xs n) (subst (λ m. same x.0 m ≡ true) e (same_refl x.0))
text_beside (x ∷ xs) d (suc i) n l e =
    let there = among_at xs i n (omega arith) e in
    cond-false (same x.0 n) x.1 (text_of xs n)
    (⊎_elim
    (λ s. absurd (both_ways (among (names_of xs) x.0) d.0 (subst (λ m. among (names_of xs) m ≡ true) (sym (same_eq x.0 n s)) there)))
    (λ s. s)
    (cases_Bool (same x.0 n)))
    ∙ text_beside xs d.1 i n (omega arith) e

pub unknown_text : (t : Table) (n : Bytes) → among (names_of t) n ≡ false → text_of t n ≡ []
unknown_text [] n h = refl
unknown_text (x ∷ xs) n h =
    let k = or_parts (same x.0 n) (among (names_of xs) n) h in
    cond-false (same x.0 n) x.1 (text_of xs n) k.0 ∙ unknown_text xs n k.1

all_before_holds : (ns : List Bytes) (k : ℕ) (ps : List Piece) → ((n : Bytes) → among (uses_of ps) n ≡ true → rank_in ns n < k) → all (is_before ns k) ps ≡ true
all_before_holds ns k [] h = refl
all_before_holds ns k (plain b ∷ ps) h = all_before_holds ns k ps h
all_before_holds ns k (macro n ∷ ps) h =
    and_from (ltb (rank_in ns n) k) (all (is_before ns k) ps)
    (lt-ltb (rank_in ns n) k (h n (or_left (same n n) (among (uses_of ps) n) (same_refl n))))
    (all_before_holds ns k ps (λ m e. h m (or_right (same n m) (among (uses_of ps) m) e)))

both_alike : (a b : Bool) → (a ≡ true → b ≡ true) → (b ≡ true → a ≡ true) → a ≡ b
both_alike true b f g = sym (f refl)
both_alike false true f g = g refl
both_alike false false f g = refl

module _ (t : Table) (v : List ℕ) (o : Orders (length t) (macro_needs t) v) where
  picked_at : (k : ℕ) → k < length v → get_or (picked t v) k ([], []) ≡ get_or t (get_or v k 0) ([], [])
  picked_at k l = get_or-map (λ (i : ℕ). get_or t i ([], [])) v k 0 ([], []) l

  pub picked_length : length (picked t v) ≡ length v
  picked_length = length-map v (λ (i : ℕ). get_or t i ([], []))

  -- the same macros are known
  pub picked_known : (n : Bytes) → among (names_of (picked t v)) n ≡ among (names_of t) n
  picked_known n =
      both_alike (among (names_of (picked t v)) n) (among (names_of t) n)
      (λ h.
      let s = stands (picked t v) n h in
      let l : rank_in (names_of (picked t v)) n < length v = omega (arith, s.within, picked_length) in
      among_at t (get_or v (rank_in (names_of (picked t v)) n) 0) n (o.within (rank_in (names_of (picked t v)) n) l) (ap (λ e. e.0) (sym (picked_at (rank_in (names_of (picked t v)) n) l)) ∙ s.name))
      (λ h.
      let s = stands t n h in
      let e = o.each (rank_in (names_of t) n) s.within in
      among_at (picked t v) e.0 n (omega (arith, e.1, picked_length)) (ap (λ x. x.0) (picked_at e.0 e.1) ∙ (ap (λ i. (get_or t i ([], [])).0) e.2 ∙ s.name)))

  -- and each has the same text
  pub picked_text : Distinct (names_of t) → (n : Bytes) → text_of (picked t v) n ≡ text_of t n
  picked_text d n =
      ⊎_elim
      (λ h.
      let s = stands (picked t v) n h in
      let l : rank_in (names_of (picked t v)) n < length v = omega (arith, s.within, picked_length) in
      let there = picked_at (rank_in (names_of (picked t v)) n) l in
      sym s.text
      ∙ (ap (λ e. e.1) there
      ∙ sym (text_beside t d (get_or v (rank_in (names_of (picked t v)) n) 0) n (o.within (rank_in (names_of (picked t v)) n) l) (ap (λ e. e.0) (sym there) ∙ s.name))))
      (λ h. unknown_text (picked t v) n h ∙ sym (unknown_text t n (sym (picked_known n) ∙ h)))
      (cases_Bool (among (names_of (picked t v)) n))

  module _ (known : (i : ℕ) → i < length t → all_known (names_of t) (text_at t i) ≡ true) where
    used_before : (p : ℕ) → p < length v → (n : Bytes) → among (uses_of (pieces (text_at t (get_or v p 0)))) n ≡ true → rank_in (names_of (picked t v)) n < p
    used_before p lp n u =
        let k = known_use (names_of t) (pieces (text_at t (get_or v p 0))) (known (get_or v p 0) (o.within p lp)) n u in
        let s = stands (picked t v) n (picked_known n ∙ k) in
        let l : rank_in (names_of (picked t v)) n < length v = omega (arith, s.within, picked_length) in
        o.after p (rank_in (names_of (picked t v)) n) lp l
        (ap (λ m. uses_macro m (text_at t (get_or v p 0))) (ap (λ e. e.0) (sym (picked_at (rank_in (names_of (picked t v)) n) l)) ∙ s.name) ∙ u)

    pub in_order : InOrder (picked t v)
    in_order p =
        ⊎_elim
        (λ (l : p < length v).
        subst (λ e. all_before (names_of (picked t v)) p e.1 ≡ true) (sym (picked_at p l))
        (all_before_holds (names_of (picked t v)) p (pieces (text_at t (get_or v p 0))) (used_before p l)))
        (λ (l : length v ≤ p).
        subst (λ (e : Bytes × Bytes). all_before (names_of (picked t v)) p e.1 ≡ true) (sym (get_or_past (picked t v) p ([], []) (omega (arith, picked_length)))) refl)
        (cases_lt p (length v))
