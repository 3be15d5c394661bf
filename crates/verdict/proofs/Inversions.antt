-- What must have been read, where something was read at the end; and what is read, where each step is.
use Rattle.std.proofs.Common.{◌≡◌, ℕ, Bool, true, false, refl, ap, ◌∙◌}
use Rattle.numbers.specs.Judged as judging
use Rattle.numbers.specs.Judged.{Judged, good, bad, check}
use Rattle.verdict.specs.Verdict.{Read, read, refuse, ◌>>=◌, at}

pub read_same : {X : Type 0} (x y : X) → read x ≡ read y → x ≡ y
read_same x y e = cc

pub good_same : {X : Type 0} (x y : X) → good x ≡ good y → x ≡ y
good_same x y e = cc

pub not_read : {X Y : Type 0} (n p : ℕ) (x : X) → refuse n p ≡ read x → Y
not_read n p x e = cc

pub not_good : {X Y : Type 0} (n : ℕ) (x : X) → bad n ≡ good x → Y
not_good n x e = cc

pub bind_read : {X Y : Type 0} (m : Read X) (f : X → Read Y) (y : Y) → (m >>= f) ≡ read y → (x : X) × (m ≡ read x) × (f x ≡ read y)
bind_read (read x) f y e = (x, refl, e)
bind_read (refuse n p) f y e = not_read n p y e

pub at_read : {X : Type 0} (p : ℕ) (j : Judged X) (x : X) → at p j ≡ read x → j ≡ good x
at_read p (good y) x e = ap good (read_same y x e)
at_read p (bad n) x e = not_read n p x e

pub bind_good : {X Y : Type 0} (m : Judged X) (f : X → Judged Y) (y : Y) → judging.◌>>=◌ m f ≡ good y → (x : X) × (m ≡ good x) × (f x ≡ good y)
bind_good (good x) f y e = (x, refl, e)
bind_good (bad n) f y e = not_good n y e

pub check_good : (b : Bool) (n : ℕ) (u : Unit {0}) → check b n ≡ good u → b ≡ true
check_good true n u e = refl
check_good false n u e = not_good n u e

pub check_true : (b : Bool) (n : ℕ) → b ≡ true → check b n ≡ good tt
check_true b n e = ap (λ x. check x n) e

pub bind_is : {X Y : Type 0} (m : Judged X) (f : X → Judged Y) (x : X) (y : Y) → m ≡ good x → f x ≡ good y → judging.◌>>=◌ m f ≡ good y
bind_is m f x y e h = ap (λ z. judging.◌>>=◌ z f) e ∙ h
