-- Why the needs that are noted one by one are all the needs, and why an order of these is an order of those.
use Rattle.std.proofs.Common.{◌≡◌, ℕ, ◌+◌, ◌<◌, Bool, true, false, ◌&&◌, ◌||◌, eqb, ltb, List, [], length, get_or, Ok, Err, vec_items, Vec, Result, sym, refl, ap, ◌∙◌, subst, ap₂, ⊎_elim, arith}
use Rattle.std.proofs.lemmas.Bool.{false≢true, lt-ltb, le-ltb, eq-eqb, ne_eqb, eqb-true, cases_order}
use Rattle.std.specs.declared.alloc.Global.{Global}
use Rattle.refusal.specs.Numbers.{number}
use Rattle.refusal.specs.declared.kinds.Failure.{Failure}
use Rattle.refusal.specs.declared.kinds.Failure.TheVariants.{Refused, NoMemory}
use Rattle.refusal.specs.declared.kinds.Refusal.TheVariants.{MacroCircle}
use Rattle.names.specs.Checks.{OrderOrCircle}
use Rattle.names.proofs.Circling.{order_told, circle_told}
use Rattle.scan.specs.Names.{Bytes}
use Rattle.verdict.specs.Macros.{Table, uses_macro}
use Rattle.verdict.specs.Verdict.{refuse, macro_needs}
use Rattle.macros.specs.Needs.{OrderTold}

-- ONE NEED MORE

pub below_next : (y k : ℕ) → ltb y (k + 1) ≡ (ltb y k || eqb y k)
below_next y k =
    ⊎_elim
    (λ (e : y ≡ k). lt-ltb y (k + 1) (omega arith) ∙ sym (ap₂ ◌||◌ (le-ltb y k (omega arith)) (eq-eqb y k e)))
    (λ o. ⊎_elim
    (λ (l : y < k). lt-ltb y (k + 1) (omega arith) ∙ sym (ap (λ b. b || eqb y k) (lt-ltb y k l)))
    (λ (l : k < y). le-ltb y (k + 1) (omega arith) ∙ sym (ap₂ ◌||◌ (le-ltb y k (omega arith)) (ne_eqb y k (λ e. omega arith))))
    o)
    (cases_order y k)

added : (a f l e u : Bool) → (e ≡ true → u ≡ true) → ((a || (f && (l && u))) || (f && e)) ≡ (a || (f && ((l || e) && u)))
added true f l e u h = refl
added false false l e u h = refl
added false true true true true h = refl
added false true true true false h = absurd (false≢true (h refl))
added false true true false true h = refl
added false true true false false h = refl
added false true false true true h = refl
added false true false true false h = absurd (false≢true (h refl))
added false true false false u h = refl

passed : (a f l e u : Bool) → (e ≡ true → u ≡ false) → (a || (f && (l && u))) ≡ (a || (f && ((l || e) && u)))
passed true f l e u h = refl
passed false false l e u h = refl
passed false true true e u h = refl
passed false true false false u h = refl
passed false true false true u h = sym (h refl)

module _ (t : Table) (text : Bytes) (from to x y : ℕ) (a before : Bool) (inv : before ≡ (a || (eqb x from && (ltb y to && uses_macro (get_or t y ([], [])).0 text)))) where
  pub need_added : (after : Bool) → after ≡ (before || (eqb x from && eqb y to)) → uses_macro (get_or t to ([], [])).0 text ≡ true → after ≡ (a || (eqb x from && (ltb y (to + 1) && uses_macro (get_or t y ([], [])).0 text)))
  need_added after e u =
      e
      ∙ (ap (λ b. b || (eqb x from && eqb y to)) inv
      ∙ (added a (eqb x from) (ltb y to) (eqb y to) (uses_macro (get_or t y ([], [])).0 text) (λ s. subst (λ k. uses_macro (get_or t k ([], [])).0 text ≡ true) (sym (eqb-true y to s)) u)
      ∙ ap (λ b. a || (eqb x from && (b && uses_macro (get_or t y ([], [])).0 text))) (sym (below_next y to))))

  pub need_passed : uses_macro (get_or t to ([], [])).0 text ≡ false → before ≡ (a || (eqb x from && (ltb y (to + 1) && uses_macro (get_or t y ([], [])).0 text)))
  need_passed u =
      inv
      ∙ (passed a (eqb x from) (ltb y to) (eqb y to) (uses_macro (get_or t y ([], [])).0 text) (λ s. subst (λ k. uses_macro (get_or t k ([], [])).0 text ≡ false) (sym (eqb-true y to s)) u)
      ∙ ap (λ b. a || (eqb x from && (b && uses_macro (get_or t y ([], [])).0 text))) (sym (below_next y to)))

-- AN ORDER OF THE TABLE

pub order_of_table : (t : Table) (ps : List ℕ) (n : ℕ) (f : ℕ → ℕ → Bool) → n ≡ length t → length ps ≡ length t → ((x y : ℕ) → x < n → y < n → f x y ≡ macro_needs t x y) → (r : Result (Vec ℕ Global) Failure) → OrderOrCircle n f ps MacroCircle r → OrderTold t ps r
order_of_table t ps n f size long alike (Ok v) h =
    let told = order_told 19 n (length t) f (macro_needs t) ps size long alike (vec_items v) h.0 h.1 in
    let long-v = v.ok.0 in
    (told.0, omega (arith, h.2, size), told.1)
order_of_table t ps n f size long alike (Err (Refused e)) h =
    circle_told 19 n (length t) f (macro_needs t) ps size long alike h.0 h.1 ∙ sym (ap (λ e. refuse (number e.refusal) e.place) h.3)
order_of_table t ps n f size long alike (Err NoMemory) h = tt
