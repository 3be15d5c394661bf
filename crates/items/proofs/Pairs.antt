-- Two answers judged together mean what their meanings judged together are: by the four cases.
use Rattle.std.proofs.Common.{◌≡◌, Ok, Err, Result, refl, ap, ◌∙◌}
use Rattle.refusal.specs.declared.kinds.Fault.{Fault}
use Rattle.word.specs.declared.value.Word.{Word}
use Rattle.numbers.specs.Judged.{Judged, good, bad, both}
use Rattle.numbers.specs.Answers.{judged_by, judged_of}
use Rattle.items.specs.Meaning.{values_of}

abbrev after : {X Y : Type 0} → (X → Y) → Judged X → Judged Y
after f (good x) = good (f x)
after f (bad k) = bad k

judged_after : {X Y : Type 0} (f : X → Y) (r : Result X Fault) → judged_by f r ≡ after f (judged_by (λ x. x) r)
judged_after f (Ok x) = refl
judged_after f (Err e) = refl

both_after : (a b : Result Word Fault) → after values_of (both (judged_by (λ x. x) a) (judged_by (λ y. y) b)) ≡ both (judged_of a) (judged_of b)
both_after (Ok x) (Ok y) = refl
both_after (Ok x) (Err e) = refl
both_after (Err d) (Ok y) = refl
both_after (Err d) (Err e) = refl

pub both_values : (r : Result (Word × Word) Fault) (a b : Result Word Fault) → judged_by (λ p. p) r ≡ both (judged_by (λ x. x) a) (judged_by (λ y. y) b) → judged_by values_of r ≡ both (judged_of a) (judged_of b)
both_values r a b e = judged_after values_of r ∙ ap (after values_of) e ∙ both_after a b
