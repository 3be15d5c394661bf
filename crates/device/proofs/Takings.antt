-- One more word taken: where there is space, by cases on the space; in storage, since the write stands just behind the words kept.
use Rattle.std.proofs.Common.{◌≡◌, ℕ, zero, suc, ◌+◌, ◌-◌, ◌<◌, List, [], ◌∷◌, ◌++◌, length, take, set, Ok, refl, ap, ◌∙◌, arith}
use Rattle.std.proofs.lemmas.List.{take_more_set, map-append}
use Rattle.word.specs.declared.value.Word.{Word}
use Rattle.device.specs.Meaning.{one_more, one_less}
use Rattle.device.specs.Answers.{admitted}
use Rattle.device.specs.Kept.{values}

pub admitted_free : (n : ℕ) → 0 < n → Ok tt ≡ admitted n
admitted_free zero h = absurd (omega arith)
admitted_free (suc n) h = refl

pub more_free : (ws : List ℕ) (w n : ℕ) → 0 < n → one_more ws w n ≡ ws ++ w ∷ []
more_free ws w zero h = absurd (omega arith)
more_free ws w (suc n) h = refl

pub less_sub : (n : ℕ) → one_less n ≡ n - 1
less_sub zero = refl
less_sub (suc n) = omega arith

pub kept_more : (ws : List Word) (k : ℕ) (w : Word) → k < length ws
    → values (take (k + 1) (set ws k w)) ≡ values (take k ws) ++ w.value ∷ []
kept_more ws k w h = ap values (take_more_set ws k w h) ∙ map-append (λ v. v.value) (take k ws) (w ∷ [])
