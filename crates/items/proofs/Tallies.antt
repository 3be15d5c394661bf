-- All items of a field may be judged one after the other, with the least fault, the count and the bits so far carried along: the least number of all is the lesser of those met and those to come.
use Rattle.std.proofs.Common.{◌≡◌, ℕ, suc, ◌+◌, min, Bool, true, false, cond, ltb, leb, List, ◌∷◌, map, length, Some, None, Option, sym, refl, ap, ◌∙◌, subst, arith}
use Rattle.std.proofs.lemmas.Bool.{ltb-true, ltb-false}
use Rattle.refusal.specs.declared.kinds.Fault.{Fault}
use Rattle.scan.specs.Names.{Bytes}
use Rattle.numbers.specs.Judged as judging
use Rattle.numbers.specs.Judged.{Judged, good, bad, check, front, every}
use Rattle.numbers.specs.Numbers.{sum}
use Rattle.numbers.specs.Answers.{Placed}
use Rattle.numbers.specs.Splits.{split}
use Rattle.verdict.specs.Items.{Item, Expression, width, item, expression}
use Rattle.items.specs.Least.{fault_number, lesser, with_fault, refused_by}
use Rattle.items.specs.Told.{counted}

-- what comes, after the least fault that was met
abbrev pub sofar : {X : Type 0} → Option Fault → Judged X → Judged X
sofar None j = j
sofar (Some f) (good x) = bad (fault_number f)
sofar (Some f) (bad m) = bad (min (fault_number f) m)

-- n items of b bits, and those that come
abbrev pub total : ℕ → ℕ → Judged (Expression Bytes) → Judged ℕ
total n b j = judging.◌>>=◌ j (λ es. judging.◌>>=◌ (check (leb (b + sum (map width es)) 31) 15) (λ _. good (n + length es)))

-- all that is told once the pieces that are left are judged too
abbrev pub tally : Option Fault → ℕ → ℕ → List Bytes → Judged ℕ
tally met n b ps = total n b (sofar met (every (map item ps)))

lesser_number : (f g : Fault) → fault_number (lesser f g) ≡ min (fault_number f) (fault_number g)
lesser_number f g =
    elim (ltb (fault_number g) (fault_number f)) as (λ v. ltb (fault_number g) (fault_number f) ≡ v → fault_number (cond v g f) ≡ min (fault_number f) (fault_number g)) [
      | true ↦ λ e. omega (arith, ltb-true _ _ e)
      | false ↦ λ e. omega (arith, ltb-false _ _ e)
    ] refl

-- a fault more
wrong : (met : Option Fault) (f : Fault) (js : Judged (Expression Bytes)) → sofar (Some (with_fault met f)) js ≡ sofar met (front (bad (fault_number f)) js)
wrong None f (good es) = refl
wrong None f (bad m) = refl
wrong (Some g) f (good es) = ap bad (lesser_number g f)
wrong (Some g) f (bad m) = let e = lesser_number g f in ap bad (omega arith)

pub tally_wrong : (met least : Option Fault) (f : Fault) (n b : ℕ) (p : Bytes) (ps qs : List Bytes) {all : Judged ℕ} → least ≡ Some (with_fault met f) → bad (fault_number f) ≡ item p → qs ≡ p ∷ ps → tally met n b qs ≡ all → tally least n b ps ≡ all
tally_wrong met least f n b p ps qs is e h inv =
    ap (λ m. tally m n b ps) is ∙ ap (total n b) (wrong met f (every (map item ps)) ∙ ap (λ j. sofar met (front j (every (map item ps)))) e)
    ∙ sym (ap (tally met n b) h) ∙ inv

-- an item more
right : (met : Option Fault) (i : Item Bytes) (n b : ℕ) (js : Judged (Expression Bytes)) → total (n + 1) (b + width i) (sofar met js) ≡ total n b (sofar met (front (good i) js))
right None i n b (good es) =
    let bits : b + width i + sum (map width es) ≡ b + (width i + sum (map width es)) = omega arith in
    let count : n + 1 + length es ≡ n + suc (length es) = omega arith in
    ap (λ s. judging.◌>>=◌ (check (leb s 31) 15) (λ _. good (n + 1 + length es))) bits
    ∙ ap (λ k. judging.◌>>=◌ (check (leb (b + (width i + sum (map width es))) 31) 15) (λ _. good k)) count
right None i n b (bad m) = refl
right (Some f) i n b (good es) = refl
right (Some f) i n b (bad m) = refl

pub tally_right : (met : Option Fault) (i : Item Bytes) (n b : ℕ) (p : Bytes) (ps qs : List Bytes) {all : Judged ℕ} → good i ≡ item p → qs ≡ p ∷ ps → tally met n b qs ≡ all → tally met (n + 1) (b + width i) ps ≡ all
tally_right met i n b p ps qs e h inv =
    right met i n b (every (map item ps)) ∙ ap (λ j. total n b (sofar met (front j (every (map item ps))))) e ∙ sym (ap (tally met n b) h) ∙ inv

-- the start
none : (j : Judged (Expression Bytes)) → total 0 0 j ≡ counted (judging.◌>>=◌ j (λ es. judging.◌>>=◌ (check (leb (sum (map width es)) 31) 15) (λ _. good es)))
none (good es) =
    let bits : 0 + sum (map width es) ≡ sum (map width es) = omega arith in
    let count : 0 + length es ≡ length es = omega arith in
    ap (λ s. judging.◌>>=◌ (check (leb s 31) 15) (λ _. good (0 + length es))) bits
    ∙ ap (λ k. judging.◌>>=◌ (check (leb (sum (map width es)) 31) 15) (λ _. good k)) count
    ∙ checked (leb (sum (map width es)) 31) where
      checked : (v : Bool) → judging.◌>>=◌ (check v 15) (λ _. good (length es)) ≡ counted (judging.◌>>=◌ (check v 15) (λ _. good es))
      checked true = refl
      checked false = refl
none (bad k) = refl

pub tally_none : (least : Option Fault) (ps : List Bytes) (t : Bytes) → least ≡ None → ps ≡ split 44 t → tally least 0 0 ps ≡ counted (expression t)
tally_none least ps t is h = ap (λ m. tally m 0 0 ps) is ∙ ap (tally None 0 0) h ∙ none (every (map item (split 44 t)))

-- the least fault is at the place of all
pub least_placed : (met least : Option Fault) (f : Fault) (place : ℕ) → least ≡ Some (with_fault met f) → Placed place (refused_by met) → f.place ≡ place → Placed place (refused_by least)
least_placed met least f place is h e = let P : Option Fault → Type 0 = λ m. Placed place (refused_by m) in subst P (sym is) (stays met h) where
  stays : (m : Option Fault) → Placed place (refused_by m) → (with_fault m f).place ≡ place
  stays None k = e
  stays (Some g) k = elim (ltb (fault_number f) (fault_number g)) as (λ v. (cond v f g).place ≡ place) [ true ↦ e | false ↦ k ]

-- no fault is at any place
pub none_placed : (least : Option Fault) (place : ℕ) → least ≡ None → Placed place (refused_by least)
none_placed least place is = let P : Option Fault → Type 0 = λ m. Placed place (refused_by m) in subst P (sym is) tt
