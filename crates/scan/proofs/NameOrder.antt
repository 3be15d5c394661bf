-- The order of names is the library's order of lists of bytes, so it is strict and total.
use Rattle.std.proofs.Common.{◌≡◌, true, false, Some, ◌⊎◌, ◌≢◌, Bool, sym, refl, ap, ◌∙◌, inl, inr, arith, rules}
use Rattle.std.proofs.lemmas.Bool.Decides.{nat_tests}
use Rattle.std.proofs.lemmas.Cmp.{same_from_slice_cmp, tied_itself, nat_list_cmp_total}
use Rattle.std.proofs.lemmas.Map.Lookups.{exact_bytes}
use Rattle.std.proofs.lemmas.Slice.Eq.{compares_Decides}
use Rattle.std.specs.Cmp.Lexicographic.{slice_cmp}
use Rattle.std.specs.declared.cmp.Ordering.{Ordering}
use Rattle.std.specs.declared.cmp.Ordering.TheVariants.{Less, Equal, Greater}
use Rattle.std.specs.Ordering.{nat_cmp, is_lt, is_some_and, ordering_reverse}
use Rattle.scan.specs.Names.{Bytes, same, before}
use Rattle.scan.specs.NamesOrdered.{NamesOrdered}

-- the library's order of slices is this one
pub slice_before : (xs ys : Bytes) (o : Ordering) → o ≡ slice_cmp nat_cmp xs ys → is_lt o ≡ before xs ys
slice_before = same_from_slice_cmp nat_cmp is_lt before refl (λ _ _. refl) (λ _ _. refl) (λ x y xs ys o h. grind (arith, nat_tests))

by_cmp : (xs ys : Bytes) → is_lt (slice_cmp nat_cmp xs ys) ≡ before xs ys
by_cmp xs ys = slice_before xs ys _ refl

-- and so is its order of texts
pub text_before : (xs ys : Bytes) (r : Bool) → r ≡ is_some_and is_lt (Some (slice_cmp nat_cmp xs ys)) → r ≡ before xs ys
text_before xs ys r h = h ∙ by_cmp xs ys

less : (o : Ordering) → is_lt o ≡ true → o ≡ Less
less Less e = refl
less Equal e = cc
less Greater e = cc

compared : (a b : Bytes) → before a b ≡ true → slice_cmp nat_cmp a b ≡ Less
compared a b h = less (slice_cmp nat_cmp a b) (by_cmp a b ∙ h)

never : (a : Bytes) → before a a ≡ false
never a = sym (by_cmp a a) ∙ ap is_lt (tied_itself nat_list_cmp_total a)

onward : (a b c : Bytes) → before a b ≡ true → before b c ≡ true → before a c ≡ true
onward a b c h g = sym (by_cmp a c) ∙ ap is_lt (nat_list_cmp_total.trans a b c (compared a b h) (compared b c g))

total : (a b : Bytes) → (a ≢ b) → (before a b ≡ true) ⊎ (before b a ≡ true)
total a b n = split (slice_cmp nat_cmp a b) refl where
  split : (o : Ordering) → slice_cmp nat_cmp a b ≡ o → (before a b ≡ true) ⊎ (before b a ≡ true)
  split Less e = inl (sym (by_cmp a b) ∙ ap is_lt e)
  split Equal e = absurd (n (exact_bytes a b e))
  split Greater e = inr (sym (by_cmp b a) ∙ ap is_lt (nat_list_cmp_total.antisymm b a ∙ ap ordering_reverse e))

pub told : (a b : Bytes) → same a b ≡ true → a ≡ b
told a b = (compares_Decides same (search rules) a b).0

pub self : (a : Bytes) → same a a ≡ true
self a = (compares_Decides same (search rules) a a).1 refl

pub names_ordered : NamesOrdered
names_ordered = record { never = never; onward = onward; total = total; told = told; self = self }
