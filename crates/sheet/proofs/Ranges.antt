-- The verdict word by word: a number is good exactly where it is in its range, and pairs are judged from the first on.
use Rattle.std.proofs.Common.{◌≡◌, ℕ, ◌≤◌, cond, leb, ◌⊎◌, List, [], ◌∷◌, Ok, Err, Result, sym, refl, ap, ◌∙◌, inl, inr, arith}
use Rattle.std.proofs.lemmas.Bool.{cond-true, le-leb}
use Rattle.std.proofs.lemmas.Bool.Decides.{nat_tests}
use Rattle.refusal.specs.declared.kinds.Fault.{Fault}
use Rattle.refusal.specs.declared.kinds.Refusal.TheVariants.{BadSheet}
use Rattle.scan.specs.Words.{Word}
use Rattle.numbers.specs.Judged.{Judged, good, bad}
use Rattle.numbers.specs.Numbers.{number}
use Rattle.sheet.specs.Sheets.{RunSheet, ◌>>=◌, bad_sheet, up_to, number_of, pairs, sheet_in}
use Rattle.sheet.specs.Stands.{Says, Within, Paired, FaultIn, FaultOf}

-- what follows was reached, or the first is refused
bound : {X Y : Type 0} (r : Result X Fault) (f : X → Result Y Fault) (y : Y) → (r >>= f) ≡ Ok y → (x : X) × (r ≡ Ok x) × (f x ≡ Ok y)
bound (Ok x) f y e = (x, refl, e)
bound (Err d) f y e = let z : ◌≡◌ {A = ℕ} 0 1 = cc in absurd (omega arith)

unbound : {X Y : Type 0} (r : Result X Fault) (f : X → Result Y Fault) (d : Fault) → (r >>= f) ≡ Err d → (r ≡ Err d) ⊎ ((x : X) × (r ≡ Ok x) × (f x ≡ Err d))
unbound (Ok x) f d e = inr (x, refl, e)
unbound (Err g) f d e = let s : g ≡ d = cc in inl (ap Err s)

-- the refusal of a run sheet at a place
abbrev Refuses : Fault → ℕ → Type 0
Refuses f place = (f.refusal ≡ BadSheet) × (f.place ≡ place)

refuses : {X : Type 0} (f : Fault) (place : ℕ) → bad_sheet {X = X} place ≡ Err f → Refuses f place
refuses f place e =
    let s : record { refusal = BadSheet; place = place } ≡ f = cc in
    (sym (ap (λ g. g.refusal) s), sym (ap (λ g. g.place) s))

in_range : (most place n : ℕ) (j : Judged ℕ) → up_to most place j ≡ Ok n → (j ≡ good n) × (n ≤ most)
in_range most place n (good m) e = grind (arith, nat_tests)
in_range most place n (bad k) e = let z : ◌≡◌ {A = ℕ} 0 1 = cc in absurd (omega arith)

out_of_range : (most place : ℕ) (f : Fault) (j : Judged ℕ) → up_to most place j ≡ Err f → (((n : ℕ) × (j ≡ good n) × (n ≤ most)) → ⊥) × Refuses f place
out_of_range most place f (good m) e = (
  (λ w. let s : m ≡ w.0 = cc in let k : cond (leb m most) (Ok m) (bad_sheet place) ≡ Ok m = cond-true _ _ _ (le-leb m most (omega arith)) in let z : ◌≡◌ {A = ℕ} 0 1 = cc in omega arith),
  grind (arith, nat_tests),
)
out_of_range most place f (bad k) e = ((λ w. let z : ◌≡◌ {A = ℕ} 0 1 = cc in omega arith), refuses f place e)

says : (most n : ℕ) (w : Word) → number_of most w ≡ Ok n → Says w n × (n ≤ most)
says most n w e = in_range most w.at n (number w.text) e

fails : (most : ℕ) (f : Fault) (w : Word) → number_of most w ≡ Err f → (Within most w → ⊥) × Refuses f w.at
fails most f w e = out_of_range most w.at f (number w.text) e

pub said : (most n : ℕ) (w : Word) → Says w n → n ≤ most → number_of most w ≡ Ok n
said most n w e h = rw e (cond-true _ _ _ (le-leb n most h))

pub good_pairs : (end : ℕ) (ws : List Word) → Paired ws → pairs end ws ≡ Ok tt
good_pairs end [] p = refl
good_pairs end (a ∷ []) p = absurd p
good_pairs end (a ∷ b ∷ ws) p = rw (said 15 p.0.0 a p.0.1 p.0.2, said 2147483647 p.1.0 b p.1.1 p.1.2) (good_pairs end ws p.2)

pub pairs_good : (end : ℕ) (ws : List Word) → pairs end ws ≡ Ok tt → Paired ws
pairs_good end [] e = tt
pairs_good end (a ∷ []) e =
    let x = bound (number_of 15 a) (λ _. bad_sheet end) tt e in
    let z : ◌≡◌ {A = ℕ} 0 1 = cc x.2 in absurd (omega arith)
pairs_good end (a ∷ b ∷ ws) e =
    let x = bound (number_of 15 a) (λ _. number_of 2147483647 b >>= (λ _. pairs end ws)) tt e in
    let y = bound (number_of 2147483647 b) (λ _. pairs end ws) tt x.2 in
    let one = says 15 x.0 a x.1 in
    let two = says 2147483647 y.0 b y.1 in
    ((x.0, one.0, one.1), (y.0, two.0, two.1), pairs_good end ws y.2)

pub pairs_bad : (end : ℕ) (f : Fault) (ws : List Word) → pairs end ws ≡ Err f → (f.refusal ≡ BadSheet) × FaultIn end f.place ws
pairs_bad end f [] e = let z : ◌≡◌ {A = ℕ} 0 1 = cc in absurd (omega arith)
pairs_bad end f (a ∷ []) e = elim (unbound (number_of 15 a) (λ _. bad_sheet end) f e) [
  | inl d ↦ let k = fails 15 f a d in (k.1.0, inl (k.0, k.1.1))
  | inr x ↦ let k = refuses f end x.2 in let one = says 15 x.0 a x.1 in (k.0, inr ((x.0, one.0, one.1), k.1))
]
pairs_bad end f (a ∷ b ∷ ws) e = elim (unbound (number_of 15 a) (λ _. number_of 2147483647 b >>= (λ _. pairs end ws)) f e) [
  | inl d ↦ let k = fails 15 f a d in (k.1.0, inl (k.0, k.1.1))
  | inr x ↦ let one = says 15 x.0 a x.1 in elim (unbound (number_of 2147483647 b) (λ _. pairs end ws) f x.2) [
    | inl d ↦ let k = fails 2147483647 f b d in (k.1.0, inr (inl ((x.0, one.0, one.1), k.0, k.1.1)))
    | inr y ↦ let two = says 2147483647 y.0 b y.1 in let later = pairs_bad end f ws y.2 in
        (later.0, inr (inr ((x.0, one.0, one.1), (y.0, two.0, two.1), later.1)))
  ]
]

pub sheet_good : (end : ℕ) (s : RunSheet) (ws : List Word) → sheet_in end ws ≡ Ok s
    → (c : Word) × (ws ≡ c ∷ s.words) × Says c s.cycles × (s.cycles ≤ 100000) × Paired s.words
sheet_good end s [] e = let z : ◌≡◌ {A = ℕ} 0 1 = cc in absurd (omega arith)
sheet_good end s (c ∷ ws) e =
    let made : ℕ → Result RunSheet Fault = λ n. Ok (record { cycles = n; words = ws }) in
    let x = bound (number_of 100000 c) (λ n. pairs end ws >>= (λ _. made n)) s e in
    let y = bound (pairs end ws) (λ _. made x.0) s x.2 in
    let same : record { cycles = x.0; words = ws } ≡ s = cc y.2 in
    let count : x.0 ≡ s.cycles = ap (λ r. r.cycles) same in
    let more : ws ≡ s.words = ap (λ r. r.words) same in
    let told = says 100000 x.0 c x.1 in
    (c, ap (λ vs. c ∷ vs) more, told.0 ∙ ap good count, omega (arith, told.1, count), rw more at (pairs_good end ws y.1))

pub sheet_bad : (end : ℕ) (f : Fault) (ws : List Word) → sheet_in end ws ≡ Err f → (f.refusal ≡ BadSheet) × FaultOf end f.place ws
sheet_bad end f [] e = refuses f end e
sheet_bad end f (c ∷ ws) e =
    let made : ℕ → Result RunSheet Fault = λ n. Ok (record { cycles = n; words = ws }) in
    elim (unbound (number_of 100000 c) (λ n. pairs end ws >>= (λ _. made n)) f e) [
      | inl d ↦ let k = fails 100000 f c d in (k.1.0, inl (k.0, k.1.1))
      | inr x ↦ let told = says 100000 x.0 c x.1 in elim (unbound (pairs end ws) (λ _. made x.0) f x.2) [
        | inl d ↦ let k = pairs_bad end f ws d in (k.0, inr ((x.0, told.0, told.1), k.1))
        | inr y ↦ let z : ◌≡◌ {A = ℕ} 0 1 = cc y.2 in absurd (omega arith)
      ]
    ]
