-- Writing behind a writing is one writing, since what is past the end is never written.
use Rattle.std.proofs.Common.{◌≡◌, ℕ, zero, suc, ◌+◌, ◌-◌, ◌^◌, ◌<◌, ◌≤◌, min, List, [], ◌∷◌, ◌++◌, length, set, take, drop, slice_index_or, sym, refl, ap, ◌∙◌, inl, inr, arith, length-append, length-set}
use Rattle.std.proofs.lemmas.List.{take_more}
use borrow.Rule.Slice.PartMut.{put_mid}
use Rattle.std.proofs.str.Laws.{order}
use Rattle.lines.specs.Laid.{laid, Put}
use Rattle.lines.specs.Pages.{Adds}
use Rattle.lines.specs.declared.Page.{Page}

pub set_past : (out : List ℕ) (at b : ℕ) → length out ≤ at → set out at b ≡ out
set_past [] at b h = refl
set_past (x ∷ out) zero b h = absurd (omega arith)
set_past (x ∷ out) (suc at) b h = ap (λ l. x ∷ l) (set_past out at b (omega arith))

pub laid_past : (bs out : List ℕ) (at : ℕ) → length out ≤ at → laid at bs out ≡ out
laid_past [] out at h = refl
laid_past (b ∷ bs) out at h = laid_past bs (set out at b) (at + 1) (simp length-set (omega arith)) ∙ set_past out at b h

pub length_laid : (bs out : List ℕ) (at : ℕ) → length (laid at bs out) ≡ length out
length_laid [] out at = refl
length_laid (b ∷ bs) out at = length_laid bs (set out at b) (at + 1) ∙ length-set out at b

pub laid_then : (xs bs out : List ℕ) (at : ℕ) → laid (at + length xs) bs (laid at xs out) ≡ laid at (xs ++ bs) out
laid_then [] bs out at = ap (λ n. laid n bs out) (omega arith)
laid_then (a ∷ xs) bs out at = ap (λ n. laid n bs (laid (at + 1) xs (set out at a))) (omega arith) ∙ laid_then xs bs (set out at a) (at + 1)

-- from the highest place of the machine on nothing is written
pub laid_capped : (bs out : List ℕ) (n : ℕ) → length out < 2 ^ 64 → laid (min n 18446744073709551615) bs out ≡ laid n bs out
laid_capped bs out n h = elim (order n 18446744073709551615) [ inl l ↦ ap (λ k. laid k bs out) (omega arith) | inr g ↦ laid_past bs out (min n 18446744073709551615) (omega arith) ∙ sym (laid_past bs out n (omega arith)) ]

-- one writing behind another
pub puts_then : (at m r : ℕ) (xs bs out mid end : List ℕ) → length out < 2 ^ 64 → Put at xs out mid m → Put m bs mid end r → Put at (xs ++ bs) out end r
puts_then at m r xs bs out mid end h p q = record {
  after = omega (arith, p.after, q.after, length-append xs bs);
  holds = q.holds ∙ ap (λ k. laid k bs mid) p.after ∙ ap (λ l. laid (min (at + length xs) 18446744073709551615) bs l) p.holds
      ∙ laid_capped bs (laid at xs out) (at + length xs) (rw length_laid h) ∙ laid_then xs bs out at;
}

-- the same on a page, whose buffer is no longer than the machine can tell
pub adds_then : (xs bs : List ℕ) (page page' page'' : Page) → Adds xs page page' → Adds bs page' page'' → Adds (xs ++ bs) page page''
adds_then xs bs page page' page'' p q = record {
  same_reference = q.same_reference ∙ p.same_reference;
  put = puts_then _ _ _ _ _ _ _ _ page.short p.put q.put;
}

-- one byte more of some bytes
pub adds_more : (bs : List ℕ) (i : ℕ) (page page' page'' : Page) → i < length bs → Adds (take i bs) page page' → Adds (slice_index_or bs i 0 ∷ []) page' page'' → Adds (take (i + 1) bs) page page''
adds_more bs i page page' page'' h p q = rw (take_more bs i 0 h) (adds_then _ _ _ _ _ p q)

-- bytes written behind the first byte of a buffer leave that as it was
pub laid_behind : (bs out : List ℕ) (at b : ℕ) → laid (suc at) bs (b ∷ out) ≡ b ∷ laid at bs out
laid_behind [] out at b = refl
laid_behind (c ∷ bs) out at b = ap (λ k. laid k bs (b ∷ set out at c)) (omega arith) ∙ laid_behind bs (set out at c) (at + 1) b

-- bytes written from the front of a buffer: as many as fit
pub laid_front : (bs out : List ℕ) (n : ℕ) → n ≡ min (length bs) (length out) → laid 0 bs out ≡ take n bs ++ drop n out
laid_front [] out zero e = refl
laid_front [] out (suc n) e = absurd (omega (arith, e))
laid_front (b ∷ bs) [] zero e = laid_past (b ∷ bs) [] 0 (omega arith)
laid_front (b ∷ bs) [] (suc n) e = absurd (omega (arith, e))
laid_front (b ∷ bs) (x ∷ out) zero e = absurd (omega (arith, e))
laid_front (b ∷ bs) (x ∷ out) (suc n) e = laid_behind bs out 0 b ∙ ap (λ l. b ∷ l) (laid_front bs out n (omega (arith, e)))

-- bytes written from a place on: as many as fit between the place and the end, and none past it
pub laid_part : (bs out : List ℕ) (at from n : ℕ) → from ≡ min at (length out) → n ≡ min (length bs) (length out - from) → laid at bs out ≡ put_mid from n out (take n bs)
laid_part bs [] at zero zero f e = laid_past bs [] at (omega arith)
laid_part bs [] at (suc from) n f e = absurd (omega (arith, f))
laid_part bs [] at zero (suc n) f e = absurd (omega (arith, e))
laid_part bs (x ∷ out) zero zero n f e = laid_front bs (x ∷ out) n (omega (arith, e))
laid_part bs (x ∷ out) zero (suc from) n f e = absurd (omega (arith, f))
laid_part bs (x ∷ out) (suc at) zero n f e = absurd (omega (arith, f))
laid_part bs (x ∷ out) (suc at) (suc from) n f e = laid_behind bs out at x ∙ ap (λ l. x ∷ l) (laid_part bs out at from n (omega (arith, f)) (omega (arith, e)))

-- past the end nothing is written, and bytes are counted alone
pub adds_past : (bs : List ℕ) (n : ℕ) (page page' : Page) → length page.out.now ≤ page.at → n ≡ length bs → page'.out.ghost_name ≡ page.out.ghost_name → page'.out.now ≡ page.out.now → page'.at ≡ min (page.at + n) 18446744073709551615 → Adds bs page page'
adds_past bs n page page' past many name now at = record {
  same_reference = name;
  put = record {
    after = at ∙ ap (λ k. min (page.at + k) 18446744073709551615) many;
    holds = now ∙ sym (laid_past bs page.out.now page.at past);
  };
}
