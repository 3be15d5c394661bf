-- Decimal digits are read as what they write: each step of the reader is the step of their value, and no digit is a mark or a plus.
use Rattle.std.proofs.Common.{◌≡◌, ℕ, zero, suc, ◌+◌, ◌-◌, ◌*◌, ◌^◌, ◌<◌, ◌≤◌, eqb, ltb, leb, [], ◌∷◌, ◌++◌, map, length, replicate, decimal, sym, refl, ap, ◌∙◌, arith, length-append}
use Rattle.std.proofs.lemmas.Bool.{ne_eqb, le-ltb, le-leb, lt-ltb, cond-true, cond-false}
use Rattle.std.proofs.lemmas.Str.Parse.{digit_from_value, digit_at}
use Rattle.std.proofs.lemmas.Fmt.{decimal_is_IsNumeral}
use Rattle.std.specs.Str.Parse.{AllDigits, digits_value_after, digits_value}
use Rattle.std.specs.Char as std-text
use Rattle.numbers.specs.Splits.{Bytes}
use Rattle.numbers.specs.Judged as judging
use Rattle.numbers.specs.Judged.{good, check, front, every}
use Rattle.numbers.specs.Numbers.{digit_value, digits_after, word_of, term_value, term, number}
use Rattle.numbers.specs.Theorems.{NumbersReadBack}
use Rattle.numbers.proofs.Cuts.{split_none}
use Rattle.numbers.proofs.Sums.{word_small}

digit_same : (b : ℕ) → 48 ≤ b → b ≤ 57 → (digit_value b ≡ std-text.digit_value b) × (digit_value b < 10)
digit_same b l u =
    let e : digit_value b ≡ b - 48 = cond-false (ltb b 48) _ _ (le-ltb b 48 l) ∙ cond-true (leb b 57) _ _ (le-leb b 57 u) in
    let f : std-text.digit_value b ≡ b - 48 = cond-false (ltb b 48) _ _ (le-ltb b 48 l) ∙ cond-true (ltb b 58) _ _ (lt-ltb b 58 (omega arith)) in
    (e ∙ sym f, omega (arith, e))

digits_good : (m : ℕ) (ds : Bytes) → AllDigits 10 ds → digits_after 10 m ds ≡ good (digits_value_after 10 m ds)
digits_good m [] h = refl
digits_good m (b ∷ ds) h =
    let i = digit_from_value b h.0 in
    let s = digit_same b i.0 i.1 in
    ap (λ c. judging.◌>>=◌ (check c 11) (λ _. digits_after 10 (m * 10 + digit_value b) ds)) (lt-ltb (digit_value b) 10 s.1)
    ∙ ap (λ x. digits_after 10 (m * 10 + x) ds) s.0 ∙ digits_good (m * 10 + std-text.digit_value b) ds h.1

term_digits : (ds : Bytes) → 0 < length ds → AllDigits 10 ds → term_value ds ≡ good (digits_value 10 ds)
term_digits [] p h = absurd (omega arith)
term_digits (b ∷ ds) p h =
    let i = digit_from_value b h.0 in
    cond-false (eqb b 37) _ _ (ne_eqb b 37 (λ e. omega (arith, i.0)))
    ∙ cond-false (eqb b 36) _ _ (ne_eqb b 36 (λ e. omega (arith, i.0)))
    ∙ cond-false (eqb b 94) _ _ (ne_eqb b 94 (λ e. omega (arith, i.1)))
    ∙ digits_good 0 (b ∷ ds) h

pub number_digits : (ds : Bytes) → 0 < length ds → AllDigits 10 ds → digits_value 10 ds ≤ 2147483647 → number ds ≡ good (digits_value 10 ds)
number_digits ds p h l =
    let none = split_none 43 ds (λ k lt e. omega (arith, (digit_at ds k h lt).0)) in
    let one : term ds ≡ good (digits_value 10 ds) = ap (λ j. judging.◌>>=◌ j word_of) (term_digits ds p h) ∙ word_small (digits_value 10 ds) l in
    let alone : digits_value 10 ds + 0 ≡ digits_value 10 ds = omega arith in
    ap (λ ps. judging.◌>>=◌ (every (map term ps)) (λ ns. word_of (Rattle.numbers.specs.Numbers.sum ns))) none
    ∙ ap (λ j. judging.◌>>=◌ (front j (good [])) (λ ns. word_of (Rattle.numbers.specs.Numbers.sum ns))) one
    ∙ ap word_of alone ∙ word_small (digits_value 10 ds) l

-- zeros in front
zeros_digits : (k : ℕ) (ds : Bytes) → AllDigits 10 ds → AllDigits 10 (replicate k 48 ++ ds)
zeros_digits zero ds h = h
zeros_digits (suc k) ds h = (omega arith, zeros_digits k ds h)

zeros_value : (k : ℕ) (ds : Bytes) → digits_value 10 (replicate k 48 ++ ds) ≡ digits_value 10 ds
zeros_value zero ds = refl
zeros_value (suc k) ds = zeros_value k ds

pub numbers_read_back : NumbersReadBack
numbers_read_back zeros n l =
    let limit : 2147483647 < 2 ^ 64 = omega arith in
    let read = decimal_is_IsNumeral n (omega arith) in
    let same = zeros_value zeros (decimal n) ∙ read.1 in
    number_digits (replicate zeros 48 ++ decimal n) (simp length-append (omega (arith, read.0.0))) (zeros_digits zeros (decimal n) read.0.1) (omega (arith, same)) ∙ ap good same
