-- An array that was made by calls: what each call gives where it finds a state that every call keeps.
use Rattle.std.proofs.Common.{ℕ, zero, suc, ◌+◌, ◌<◌, ◌≤◌, List, get_or, sym, subst, inl, inr, arith}
use Rattle.std.proofs.lemmas.Bool.{cases_eq}
use Rattle.std.specs.Array.{IsFromFnResultFrom}
use denote.Param.Members.{Mut, Called}

module _ {F B : Type 0} (g : Mut F (ℕ × Unit {0}) B) (Keeps : F → Type 0) (P : ℕ → B → Type 0) (step : (p : F) (i : ℕ) (y : B) (q : F) → Keeps p → Called g p (i, tt) y q → Keeps q × P i y) where
  pub made_from : (f : F) (ys : List B) (i n k : ℕ) (d : B) → Keeps f → IsFromFnResultFrom g f ys i n → i ≤ k → k < i + n → P k (get_or ys k d)
  made_from f ys i zero k d h m l u = absurd (omega arith)
  made_from f ys i (suc n) k d h m l u =
      let s = step f i m.1 m.0 h m.3 in
      elim (cases_eq k i) [
        | inl e ↦ rw e (subst (P i) (sym (m.2.1 d)) s.1)
        | inr e ↦ made_from m.0 ys (i + 1) n k d s.0 m.4 (omega arith) (omega arith)
      ]
