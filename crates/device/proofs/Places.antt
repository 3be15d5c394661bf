-- A row of ports place by place: reading a list under its length, past it, and after a write at one place.
use Rattle.std.proofs.Common.{◌≡◌, ℕ, ◌<◌, ◌≤◌, cond, eqb, ltb, List, [], ◌∷◌, map, length, get_or, set, sym, refl, ap, ◌∙◌, inl, inr, arith}
use mathlib.Core.Path.{fun_ext}
use Rattle.std.proofs.lemmas.List.{get_or-map, get_or_past, length-map, map-set, get_or-set_same, get_or-set_other}
use Rattle.std.proofs.lemmas.Bool.{cases_eq, cases_lt, eq-eqb, ne_eqb, lt-ltb, le-ltb, cond-true, cond-false}
use Rattle.device.specs.Meaning.{Port, unserved, at_port}
use Rattle.device.specs.Rows.{row}

pub row_at : {X : Type 0} → (f : X → Port) (xs : List X) (p : ℕ) (d : X) → p < length xs → row f xs p ≡ f (get_or xs p d)
row_at f xs p d h = get_or-map f xs p d unserved h

pub row_past : {X : Type 0} → (f : X → Port) (xs : List X) (p : ℕ) → length xs ≤ p → row f xs p ≡ unserved
row_past f xs p h = get_or_past (map f xs) p unserved (simp length-map h)

ports_set : (ms : List Port) (p : ℕ) (g : Port → Port) → p < length ms
    → (λ q. get_or (set ms p (g (get_or ms p unserved))) q unserved) ≡ at_port (λ q. get_or ms q unserved) p g
ports_set ms p g h = fun_ext (λ q. elim (cases_eq q p) [
  | inl e ↦ rw e (get_or-set_same ms p (g (get_or ms p unserved)) unserved h ∙ sym (cond-true (eqb p p) (g (get_or ms p unserved)) (get_or ms p unserved) (eq-eqb p p refl)))
  | inr n ↦ get_or-set_other ms p q (g (get_or ms p unserved)) unserved n ∙ sym (cond-false (eqb q p) (g (get_or ms q unserved)) (get_or ms q unserved) (ne_eqb q p n))
])

-- where y stood and x is written, which means what the change makes of y, that is a change at that port
pub row_set : {X : Type 0} → (f : X → Port) (xs : List X) (p : ℕ) (x y : X) (g : Port → Port) → p < length xs → y ≡ get_or xs p y → f x ≡ g (f y)
    → row f (set xs p x) ≡ at_port (row f xs) p g
row_set f xs p x y g h was e =
    let long : p < length (map f xs) = simp length-map h in
    let same : f x ≡ g (get_or (map f xs) p unserved) = e ∙ ap g (ap f was ∙ sym (row_at f xs p y h)) in
    ap (λ ms q. get_or ms q unserved) (map-set f xs p x ∙ ap (set (map f xs) p) same) ∙ ports_set (map f xs) p g long

-- a row of n ports that each mean what g says
pub row_each : {X : Type 0} → (f : X → Port) (g : ℕ → Port) (n : ℕ) (xs : List X) → length xs ≡ n → ((k : ℕ) (d : X) → k < n → f (get_or xs k d) ≡ g k)
    → row f xs ≡ (λ p. cond (ltb p n) (g p) unserved)
row_each {X} f g n xs e h = fun_ext (λ p. elim (cases_lt p n) [
  | inl l ↦ at xs p (omega arith) (λ d. h p d l) ∙ sym (cond-true _ _ _ (lt-ltb p n l))
  | inr l ↦ row_past f xs p (omega arith) ∙ sym (cond-false _ _ _ (le-ltb p n l))
])
  where
    at : (xs : List X) (p : ℕ) → p < length xs → ((d : X) → f (get_or xs p d) ≡ g p) → row f xs p ≡ g p
    at [] p l h = absurd (omega arith)
    at (x ∷ xs) p l h = row_at f (x ∷ xs) p x l ∙ h x
