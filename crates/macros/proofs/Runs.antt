-- Why the run is measured right, and is the name with which a text begins.
use Rattle.std.proofs.Common.{◌≡◌, ℕ, suc, ◌+◌, ◌-◌, ◌≤◌, Bool, true, false, cond, not, [], ◌∷◌, length, get_or, take, Some, None, unwrap_or, sym, refl, ap, ◌∙◌, arith}
use Rattle.std.specs.List.{position, position_from}
use Rattle.std.proofs.lemmas.Iterator.Adapters.{position_from-zero}
use Rattle.std.proofs.lemmas.Bool.{cond_both, false≢true}
use Rattle.scan.specs.Names.{Bytes, is_letter, is_letter_or_digit}
use Rattle.verdict.specs.Macros.{run}
use Rattle.macros.specs.Uses.{leading_name}

run_from : (k : ℕ) (t : Bytes) → unwrap_or (position_from (λ b. not (is_letter_or_digit b)) k t) (k + length t) ≡ k + length (run t)
run_from k [] = refl
run_from k (b ∷ bs) = by (is_letter_or_digit b) (run_from (k + 1) bs)
  where
    by : (c : Bool) → unwrap_or (position_from (λ b. not (is_letter_or_digit b)) (k + 1) bs) (k + 1 + length bs) ≡ k + 1 + length (run bs) →
        unwrap_or (cond (not c) (Some k) (position_from (λ b. not (is_letter_or_digit b)) (k + 1) bs)) (k + suc (length bs)) ≡ k + length (cond c (b ∷ run bs) [])
    by true h = ap (unwrap_or (position_from (λ b. not (is_letter_or_digit b)) (k + 1) bs)) (omega arith) ∙ h ∙ omega arith
    by false h = omega arith

-- the first byte that is no letter or digit ends the run
pub run_measured : (t : Bytes) → unwrap_or (position (λ b. not (is_letter_or_digit b)) t) (length t) ≡ length (run t)
run_measured t =
    ap (λ o. unwrap_or o (length t)) (position_from-zero (λ b. not (is_letter_or_digit b)) t)
    ∙ (ap (unwrap_or (position_from (λ b. not (is_letter_or_digit b)) 0 t)) (omega arith) ∙ run_from 0 t ∙ omega arith)

pub run_short : (t : Bytes) → length (run t) ≤ length t
run_short [] = omega arith
run_short (b ∷ bs) =
    let k = run_short bs in
    cond_both (is_letter_or_digit b) (b ∷ run bs) [] (λ l. length l ≤ length (b ∷ bs)) (λ e. omega arith) (λ e. omega arith)

-- the run is the first part of the text
pub run_front : (t : Bytes) → take (length (run t)) t ≡ run t
run_front [] = refl
run_front (b ∷ bs) = by (is_letter_or_digit b) (run_front bs)
  where
    by : (c : Bool) → take (length (run bs)) bs ≡ run bs → take (length (cond c (b ∷ run bs) [])) (b ∷ bs) ≡ cond c (b ∷ run bs) []
    by true h = ap (λ l. b ∷ l) h
    by false h = refl

pub leading_is : (t : Bytes) (k : ℕ) → is_letter (get_or t 0 0) ≡ true → k ≡ length (run t) → Some (take (k - 0) t) ≡ leading_name t
leading_is [] k e l = absurd (false≢true e)
leading_is (c ∷ cs) k e l =
    let same : k - 0 ≡ length (run (c ∷ cs)) = omega arith in
    ap Some (ap (λ n. take n (c ∷ cs)) same ∙ run_front (c ∷ cs)) ∙ sym (ap (λ b. cond b (Some (run (c ∷ cs))) None) e)
