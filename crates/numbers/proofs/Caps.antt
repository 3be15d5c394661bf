-- A number that is cut down to 2,147,483,648 at each step is told right up to that: what passes it once stays past it, since every step multiplies by 1 or more and adds.
use Rattle.std.proofs.Common.{◌≡◌, ℕ, ◌+◌, ◌-◌, ◌*◌, ◌<◌, ◌≤◌, min, true, false, cond, ltb, [], ◌∷◌, length, get_or, take, drop, Some, None, Option, sym, refl, ap, ◌∙◌, ⊎_elim, mul-le-mul_left, mul-one, length-drop, arith}
use Rattle.std.proofs.lemmas.List.{drop_more, drop_all, take_all}
use Rattle.std.proofs.str.Laws.{order}
use Rattle.numbers.specs.declared.rows.Base.{Base}
use Rattle.numbers.specs.declared.rows.Base.TheVariants.{Two, Ten, Sixteen}
use Rattle.numbers.specs.Splits.{Bytes}
use Rattle.numbers.specs.Judged as judging
use Rattle.numbers.specs.Judged.{Judged, good, bad, check}
use Rattle.numbers.specs.Numbers.{digit_value, digits_after, digits}
use Rattle.numbers.specs.Capped.{capped, told, size, digit_in}

pub some_size : (base : Base) → 0 < size base
some_size Two = omega arith
some_size Ten = omega arith
some_size Sixteen = omega arith

cap_step : (m n r d : ℕ) → 0 < r → min m 2147483648 ≡ min n 2147483648 → min (m * r + d) 2147483648 ≡ min (n * r + d) 2147483648
cap_step m n r d h e =
    ⊎_elim
    (λ small. let same : m ≡ n = omega arith in ap (λ x. min (x * r + d) 2147483648) same)
    (λ big. let a = mul-le-mul_left m h in let b = mul-le-mul_left n h in let a1 = mul-one m in let b1 = mul-one n in omega arith)
    (order m 2147483648)

-- equal up to the cap before the digits, equal up to the cap after them
pub cap_same : (r m n : ℕ) (bs : Bytes) → 0 < r → min m 2147483648 ≡ min n 2147483648 → capped (digits_after r m bs) ≡ capped (digits_after r n bs)
cap_same r m n [] h e = ap good e
cap_same r m n (b ∷ bs) h e =
    elim (ltb (digit_value b) r) as (λ v. capped (judging.◌>>=◌ (check v 11) (λ _. digits_after r (m * r + digit_value b) bs)) ≡ capped (judging.◌>>=◌ (check v 11) (λ _. digits_after r (n * r + digit_value b) bs))) [
      | true ↦ cap_same r (m * r + digit_value b) (n * r + digit_value b) bs h (cap_step m n r (digit_value b) h e)
      | false ↦ refl
    ]

-- before the first digit
pub none_read : (r : ℕ) (t : Bytes) → 0 < length t → capped (digits_after r 0 (drop 0 t)) ≡ capped (digits r t)
none_read r [] h = absurd (omega arith)
none_read r (b ∷ t) h = refl

-- one more digit d, at the place i of the text, which makes w of v up to the cap
pub more : (base : Base) (i d v w : ℕ) (t : Bytes) → i < length t → digit_in (size base) (get_or t i 0) ≡ Some d → min w 2147483648 ≡ min (min v 2147483648 * size base + d) 2147483648 → capped (digits_after (size base) w (drop (i + 1) t)) ≡ capped (digits_after (size base) v (drop i t))
more base i d v w t h e told =
    let r = size base in
    let b = get_or t i 0 in
    elim (ltb (digit_value b) r) as (λ c. ltb (digit_value b) r ≡ c → cond c (Some (digit_value b)) None ≡ Some d → capped (digits_after r w (drop (i + 1) t)) ≡ capped (digits_after r v (drop i t))) [
      | true ↦ λ lt is.
          let same : digit_value b ≡ d = cc in
          let low : min (min v 2147483648) 2147483648 ≡ min v 2147483648 = omega arith in
          let cut = told ∙ cap_step (min v 2147483648) v r d (some_size base) low ∙ ap (λ x. min (v * r + x) 2147483648) (sym same) in
          cap_same r w (v * r + digit_value b) (drop (i + 1) t) (some_size base) cut ∙ sym (rw (drop_more t i 0 h, lt) refl)
      | false ↦ λ lt is. absurd (let z : ◌≡◌ {A = ℕ} 0 1 = cc in omega arith)
    ] refl e

-- one more digit d behind those that say more than the cap
pub more_over : (base : Base) (i d : ℕ) (t : Bytes) {all : Judged ℕ} → i < length t → digit_in (size base) (get_or t i 0) ≡ Some d → capped (digits_after (size base) 2147483648 (drop i t)) ≡ all → capped (digits_after (size base) 2147483648 (drop (i + 1) t)) ≡ all
more_over base i d t h e inv =
    let grown = mul-le-mul_left 2147483648 (some_size base) in
    more base i d 2147483648 2147483648 t h e (omega arith) ∙ inv

-- a digit d that makes more than the cap, and all that stand behind it
pub passed : (base : Base) (i d v : ℕ) (t : Bytes) {all : Judged ℕ} → i < length t → digit_in (size base) (get_or t i 0) ≡ Some d → 2147483648 ≡ min (min v 2147483648 * size base + d) 2147483648 → capped (digits_after (size base) v (drop i t)) ≡ all → capped (digits_after (size base) 2147483648 (take (length t - (i + 1)) (drop (i + 1) t))) ≡ all
passed base i d v t h e told inv =
    let whole : take (length t - (i + 1)) (drop (i + 1) t) ≡ drop (i + 1) t = take_all _ _ (simp length-drop (omega arith)) in
    ap (λ l. capped (digits_after (size base) 2147483648 l)) whole ∙ more base i d v 2147483648 t h e told ∙ inv

-- a byte that is no digit
pub no_digit : (r n i : ℕ) (t : Bytes) {all : Judged ℕ} → i < length t → digit_in r (get_or t i 0) ≡ None → capped (digits_after r n (drop i t)) ≡ all → bad 11 ≡ all
no_digit r n i t h e inv =
    let b = get_or t i 0 in
    elim (ltb (digit_value b) r) as (λ c. ltb (digit_value b) r ≡ c → cond c (Some (digit_value b)) None ≡ None → bad 11 ≡ capped (digits_after r n (drop i t))) [
      | true ↦ λ lt is. absurd (let z : ◌≡◌ {A = ℕ} 0 1 = cc in omega arith)
      | false ↦ λ lt is. sym (rw (drop_more t i 0 h, lt) refl)
    ] refl e ∙ inv

-- after the last digit
pub all_read : (r i v : ℕ) (t : Bytes) {all : Judged ℕ} → length t ≤ i → capped (digits_after r v (drop i t)) ≡ all → good (min v 2147483648) ≡ all
all_read r i v t h e = ap (λ l. capped (digits_after r v l)) (sym (drop_all i t h)) ∙ e
