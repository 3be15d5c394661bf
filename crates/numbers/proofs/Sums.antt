-- Terms may be added one after the other, a malformed one refused when it is met and the sum held to the limit last: of a term's two refusals the malformed one has the smaller number, and a term over the limit makes the sum pass it too.
use Rattle.std.proofs.Common.{◌≡◌, ℕ, ◌+◌, ◌*◌, ◌^◌, ◌<◌, ◌≤◌, min, Bool, true, false, cond, eqb, ltb, leb, List, [], ◌∷◌, map, sym, refl, ap, ◌∙◌, ⊎_elim, arith}
use Rattle.std.proofs.lemmas.Bool.{le-leb, lt-leb}
use Rattle.std.proofs.str.Laws.{order}
use Rattle.numbers.specs.Splits.{Bytes, split}
use Rattle.numbers.specs.Judged as judging
use Rattle.numbers.specs.Judged.{Judged, good, bad, check, front, every}
use Rattle.numbers.specs.Numbers.{sum, digit_value, digits_after, digits, word_of, term_value, term, number}
use Rattle.numbers.specs.Capped.{capped}

-- the terms added one by one to what is there
abbrev pub tally : ℕ → List Bytes → Judged ℕ
tally s [] = word_of s
tally s (p ∷ ps) = judging.◌>>=◌ (term_value p) (λ n. tally (s + n) ps)

-- WHICH REFUSALS A TERM MEETS

-- refused, if at all, with 11
abbrev pub Elevens : {X : Type 0} → Judged X → Type 0
Elevens (good x) = Unit {0}
Elevens (bad k) = k ≡ 11

-- refused, if at all, with 11 to 13
abbrev pub Middling : {X : Type 0} → Judged X → Type 0
Middling (good x) = Unit {0}
Middling (bad k) = (11 ≤ k) × (k ≤ 13)

digits_after_elevens : (r n : ℕ) (t : Bytes) → Elevens (digits_after r n t)
digits_after_elevens r n [] = tt
digits_after_elevens r n (b ∷ t) =
    elim (ltb (digit_value b) r) as (λ c. Elevens (judging.◌>>=◌ (check c 11) (λ _. digits_after r (n * r + digit_value b) t))) [
      | true ↦ digits_after_elevens r (n * r + digit_value b) t
      | false ↦ refl
    ]

pub digits_elevens : (r : ℕ) (t : Bytes) → Elevens (digits r t)
digits_elevens r [] = refl
digits_elevens r (b ∷ t) = digits_after_elevens r 0 (b ∷ t)

then_good : (j : Judged ℕ) (f : ℕ → ℕ) → Elevens j → Elevens (judging.◌>>=◌ j (λ n. good (f n)))
then_good (good n) f h = tt
then_good (bad k) f h = h

choose : (c : Bool) (i j : Judged ℕ) → Elevens i → Elevens j → Elevens (cond c i j)
choose true i j a b = a
choose false i j a b = b

pub term_value_elevens : (t : Bytes) → Elevens (term_value t)
term_value_elevens [] = refl
term_value_elevens (b ∷ t) =
    choose (eqb b 37) _ _ (digits_elevens 2 t)
    (choose (eqb b 36) _ _ (digits_elevens 16 t)
    (choose (eqb b 94) _ _ (then_good (digits 10 t) (λ k. 2 ^ min k 31) (digits_elevens 10 t)) (digits_elevens 10 (b ∷ t))))

pub word_of_middling : (n : ℕ) → Middling (word_of n)
word_of_middling n = elim (leb n 2147483647) as (λ c. Middling (judging.◌>>=◌ (check c 13) (λ _. good n))) [ true ↦ tt | false ↦ (omega arith, omega arith) ]

then_word : (j : Judged ℕ) → Elevens j → Middling (judging.◌>>=◌ j word_of)
then_word (good n) h = word_of_middling n
then_word (bad k) h = (omega arith, omega arith)

pub term_middling : (t : Bytes) → Middling (term t)
term_middling t = then_word (term_value t) (term_value_elevens t)

front_middling : {X : Type 0} (j : Judged X) (js : Judged (List X)) → Middling j → Middling js → Middling (front j js)
front_middling (good x) (good xs) a b = tt
front_middling (good x) (bad m) a b = b
front_middling (bad n) (good xs) a b = a
front_middling (bad n) (bad m) a b = (omega arith, omega arith)

terms_middling : (ps : List Bytes) → Middling (every (map term ps))
terms_middling [] = tt
terms_middling (p ∷ ps) = front_middling (term p) (every (map term ps)) (term_middling p) (terms_middling ps)

-- THE SUM

pub word_small : (n : ℕ) → n ≤ 2147483647 → word_of n ≡ good n
word_small n h = rw (le-leb n 2147483647 h)

pub word_large : (n : ℕ) → 2147483647 < n → word_of n ≡ bad 13
word_large n h = rw (lt-leb n 2147483647 h)

-- the terms all judged first, and then added to s
abbrev summed : ℕ → Judged (List ℕ) → Judged ℕ
summed s js = judging.◌>>=◌ js (λ ns. word_of (s + sum ns))

front_bad : (s k : ℕ) (js : Judged (List ℕ)) → k ≡ 11 → Middling js → bad k ≡ summed s (front (bad k) js)
front_bad s k (good ns) e h = refl
front_bad s k (bad m) e h = ap bad (omega arith)

front_small : (s n : ℕ) (js : Judged (List ℕ)) → summed (s + n) js ≡ summed s (front (good n) js)
front_small s n (good ns) = ap word_of (omega arith)
front_small s n (bad m) = refl

front_large : (s n : ℕ) (js : Judged (List ℕ)) → 2147483647 < n → Middling js → summed (s + n) js ≡ summed s (front (bad 13) js)
front_large s n (good ns) l h = word_large (s + n + sum ns) (omega arith)
front_large s n (bad m) l h = ap bad (omega arith)

front_term : (s : ℕ) (j : Judged ℕ) (js : Judged (List ℕ)) → Elevens j → Middling js → judging.◌>>=◌ j (λ n. summed (s + n) js) ≡ summed s (front (judging.◌>>=◌ j word_of) js)
front_term s (good n) js e h =
    ⊎_elim
    (λ small. front_small s n js ∙ ap (λ j. summed s (front j js)) (sym (word_small n (omega arith))))
    (λ large. front_large s n js (omega arith) h ∙ ap (λ j. summed s (front j js)) (sym (word_large n (omega arith))))
    (order n 2147483648)
front_term s (bad k) js e h = front_bad s k js e h

then_same : {X Y : Type 0} (j : Judged X) (f g : X → Judged Y) → ((x : X) → f x ≡ g x) → judging.◌>>=◌ j f ≡ judging.◌>>=◌ j g
then_same (good x) f g e = e x
then_same (bad k) f g e = refl

tally_summed : (s : ℕ) (ps : List Bytes) → tally s ps ≡ summed s (every (map term ps))
tally_summed s [] = ap word_of (omega arith)
tally_summed s (p ∷ ps) =
    then_same (term_value p) _ _ (λ n. tally_summed (s + n) ps) ∙ front_term s (term_value p) (every (map term ps)) (term_value_elevens p) (terms_middling ps)

pub tally_number : (t : Bytes) → tally 0 (split 43 t) ≡ number t
tally_number t = tally_summed 0 (split 43 t) ∙ then_same (every (map term (split 43 t))) _ _ (λ ns. ap word_of (omega arith))

-- THE CAP

word_same : (m n : ℕ) → min m 2147483648 ≡ min n 2147483648 → word_of m ≡ word_of n
word_same m n e =
    ⊎_elim
    (λ small. let same : m ≡ n = omega arith in ap word_of same)
    (λ large. word_large m (omega arith) ∙ sym (word_large n (omega arith)))
    (order m 2147483648)

-- what the cap cuts off a sum does not matter
pub tally_same : (m n : ℕ) (ps : List Bytes) → min m 2147483648 ≡ min n 2147483648 → tally m ps ≡ tally n ps
tally_same m n [] e = word_same m n e
tally_same m n (p ∷ ps) e = then_same (term_value p) _ _ (λ k. tally_same (m + k) (n + k) ps (omega arith))

-- one term more, as far as the cap tells it
pub tally_more : (s m s' : ℕ) (p : Bytes) (ps : List Bytes) → good m ≡ capped (term_value p) → s' ≡ min (s + m) 2147483648 → tally s' ps ≡ tally s (p ∷ ps)
tally_more s m s' p ps e cut = more (term_value p) e where
  more : (j : Judged ℕ) → good m ≡ capped j → tally s' ps ≡ judging.◌>>=◌ j (λ n. tally (s + n) ps)
  more (good n) h = let same : m ≡ min n 2147483648 = cc in tally_same s' (s + n) ps (omega arith)
  more (bad k) h = let z : ◌≡◌ {A = ℕ} 0 1 = cc in absurd (omega arith)
