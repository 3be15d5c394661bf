-- Whether all claims can be taken does not depend on their order: sums are the same in any order, and so is that no name stands twice.
use Rattle.std.proofs.Common.{◌≡◌, suc, ◌+◌, ◌<◌, ◌≤◌, true, false, not, ◌||◌, ltb, leb, List, [], ◌∷◌, ◌++◌, length, sym, refl, ap, ◌∙◌, subst, arith}
use Rattle.std.proofs.lemmas.Bool.{or_parts, or_from, not-true, not_from_false, leb-true, le-leb, ltb-true, lt-ltb}
use Rattle.scan.specs.Names.{Bytes, is_name, same, among}
use Rattle.numbers.specs.Judged as judging
use Rattle.numbers.specs.Judged.{Judged, good, check}
use Rattle.verdict.specs.Parts.{Claim, a_name, some_items, some_words}
use Rattle.verdict.specs.Limits.{new_name, Taken, taking}
use Rattle.verdict.specs.Lines.{Reordered, nothing, keep, swap, twice}
use Rattle.verdict.proofs.Orders.{same_not, not_same, or_swap}
use Rattle.verdict.proofs.Inversions.{good_same, bind_good, check_good, check_true, bind_is}

-- all claims taken, one after the other
abbrev pub taking_all : Taken → List Claim → Judged Taken
taking_all k [] = good k
taking_all k (c ∷ cs) = judging.◌>>=◌ (taking k c) (λ k'. taking_all k' cs)

-- the same was taken, the names perhaps in another order
pub record SameTaken (k k' : Taken) : Type 0 where
  pub names : (n : Bytes) → among k.names n ≡ among k'.names n
  pub count : length k.names ≡ length k'.names
  pub items : k.items ≡ k'.items
  pub memory : k.memory ≡ k'.memory

-- WHAT A CLAIM NEEDS

pub record NewName (met : List Bytes) (n : Bytes) : Type 0 where
  pub formed : is_name n ≡ true
  pub room : length met < 64
  pub unmet : among met n ≡ false

name_from : (met : List Bytes) (n : Bytes) (u : Unit {0}) → new_name met n ≡ good u → NewName met n
name_from met n u h =
    let b = bind_good (check (is_name n) 11) _ u h in
    let c = bind_good (check (ltb (length met) 64) 16) _ u b.2 in
    record { formed = check_good (is_name n) 11 b.0 b.1; room = ltb-true (length met) 64 (check_good (ltb (length met) 64) 16 c.0 c.1); unmet = not-true (among met n) (check_good (not (among met n)) 17 u c.2) }

pub name_to : (met : List Bytes) (n : Bytes) → NewName met n → new_name met n ≡ good tt
name_to met n h =
    bind_is (check (is_name n) 11) _ tt tt (check_true (is_name n) 11 h.formed)
    (bind_is (check (ltb (length met) 64) 16) _ tt tt (check_true (ltb (length met) 64) 16 (lt-ltb (length met) 64 h.room))
    (check_true (not (among met n)) 17 (not_from_false (among met n) h.unmet)))

-- what is taken after a claim
abbrev pub plus : Taken → Claim → Taken
plus k (a_name n) = record { names = n ∷ k.names; items = k.items; memory = k.memory }
plus k (some_items e) = record { names = k.names; items = k.items + length e; memory = k.memory }
plus k (some_words n) = record { names = k.names; items = k.items; memory = k.memory + n }

abbrev pub Room : Taken → Claim → Type 0
Room k (a_name n) = NewName k.names n
Room k (some_items e) = k.items + length e ≤ 2048
Room k (some_words n) = k.memory + n ≤ 4096

pub room_from : (k k' : Taken) (c : Claim) → taking k c ≡ good k' → Room k c × (plus k c ≡ k')
room_from k k' (a_name n) h =
    let b = bind_good (new_name k.names n) _ k' h in
    (name_from k.names n b.0 b.1, good_same _ k' b.2)
room_from k k' (some_items e) h =
    let b = bind_good (check (leb (k.items + length e) 2048) 16) _ k' h in
    (leb-true (k.items + length e) 2048 (check_good (leb (k.items + length e) 2048) 16 b.0 b.1), good_same _ k' b.2)
room_from k k' (some_words n) h =
    let b = bind_good (check (leb (k.memory + n) 4096) 16) _ k' h in
    (leb-true (k.memory + n) 4096 (check_good (leb (k.memory + n) 4096) 16 b.0 b.1), good_same _ k' b.2)

room_to : (k : Taken) (c : Claim) → Room k c → taking k c ≡ good (plus k c)
room_to k (a_name n) h = bind_is (new_name k.names n) _ tt (plus k (a_name n)) (name_to k.names n h) refl
room_to k (some_items e) h = bind_is (check (leb (k.items + length e) 2048) 16) _ tt (plus k (some_items e)) (check_true _ 16 (le-leb (k.items + length e) 2048 h)) refl
room_to k (some_words n) h = bind_is (check (leb (k.memory + n) 4096) 16) _ tt (plus k (some_words n)) (check_true _ 16 (le-leb (k.memory + n) 4096 h)) refl

-- THE SAME TAKEN

room_same : (k k' : Taken) → SameTaken k k' → (c : Claim) → Room k c → Room k' c
room_same k k' s (a_name n) h = record { formed = h.formed; room = omega (arith, h.room, s.count); unmet = sym (s.names n) ∙ h.unmet }
room_same k k' s (some_items e) h = subst (λ x. x + length e ≤ 2048) s.items h
room_same k k' s (some_words n) h = subst (λ x. x + n ≤ 4096) s.memory h

plus_same : (k k' : Taken) → SameTaken k k' → (c : Claim) → SameTaken (plus k c) (plus k' c)
plus_same k k' s (a_name n) = record { names = λ m. ap (λ b. same n m || b) (s.names m); count = ap suc s.count; items = s.items; memory = s.memory }
plus_same k k' s (some_items e) = record { names = s.names; count = s.count; items = ap (λ x. x + length e) s.items; memory = s.memory }
plus_same k k' s (some_words n) = record { names = s.names; count = s.count; items = s.items; memory = ap (λ x. x + n) s.memory }

-- ALL CLAIMS

abbrev pub AllRoom : Taken → List Claim → Type 0
AllRoom k [] = Unit {0}
AllRoom k (c ∷ cs) = Room k c × AllRoom (plus k c) cs

all_same : (k k' : Taken) → SameTaken k k' → (cs : List Claim) → AllRoom k cs → AllRoom k' cs
all_same k k' s [] h = tt
all_same k k' s (c ∷ cs) h = (room_same k k' s c h.0, all_same (plus k c) (plus k' c) (plus_same k k' s c) cs h.1)

-- two claims in the other order
swap_room : (k : Taken) (a b : Claim) → Room k a → Room (plus k a) b → Room k b × Room (plus k b) a
swap_room k (a_name n) (a_name m) h g =
    let o = or_parts (same n m) (among k.names m) g.unmet in (
      record { formed = g.formed; room = omega (arith, g.room); unmet = o.1 },
      record { formed = h.formed; room = omega (arith, g.room); unmet = or_from (same m n) (among k.names n) (same_not m n (λ e. not_same n m o.0 (sym e))) h.unmet },
    )
swap_room k (a_name n) (some_items e) h g = (g, h)
swap_room k (a_name n) (some_words m) h g = (g, h)
swap_room k (some_items e) (a_name n) h g = (g, h)
swap_room k (some_items e) (some_items f) h g = (omega (arith, g), omega (arith, g))
swap_room k (some_items e) (some_words m) h g = (g, h)
swap_room k (some_words n) (a_name m) h g = (g, h)
swap_room k (some_words n) (some_items f) h g = (g, h)
swap_room k (some_words n) (some_words m) h g = (omega (arith, g), omega (arith, g))

swap_same : (k : Taken) (a b : Claim) → SameTaken (plus (plus k a) b) (plus (plus k b) a)
swap_same k (a_name n) (a_name m) = record { names = λ x. or_swap (same m x) (same n x) (among k.names x); count = refl; items = refl; memory = refl }
swap_same k (a_name n) (some_items e) = record { names = λ x. refl; count = refl; items = refl; memory = refl }
swap_same k (a_name n) (some_words m) = record { names = λ x. refl; count = refl; items = refl; memory = refl }
swap_same k (some_items e) (a_name n) = record { names = λ x. refl; count = refl; items = refl; memory = refl }
swap_same k (some_items e) (some_items f) = record { names = λ x. refl; count = refl; items = omega arith; memory = refl }
swap_same k (some_items e) (some_words m) = record { names = λ x. refl; count = refl; items = refl; memory = refl }
swap_same k (some_words n) (a_name m) = record { names = λ x. refl; count = refl; items = refl; memory = refl }
swap_same k (some_words n) (some_items f) = record { names = λ x. refl; count = refl; items = refl; memory = refl }
swap_same k (some_words n) (some_words m) = record { names = λ x. refl; count = refl; items = refl; memory = omega arith }

pub room_reordered : {cs ds : List Claim} → Reordered cs ds → (k : Taken) → AllRoom k cs → AllRoom k ds
room_reordered nothing k h = h
room_reordered (keep c r) k h = (h.0, room_reordered r (plus k c) h.1)
room_reordered (swap a b cs) k h =
    let s = swap_room k a b h.0 h.1.0 in
    (s.0, (s.1, all_same (plus (plus k a) b) (plus (plus k b) a) (swap_same k a b) cs h.1.1))
room_reordered (twice r s) k h = room_reordered s k (room_reordered r k h)

-- what is taken in the end
abbrev pub plus_all : Taken → List Claim → Taken
plus_all k [] = k
plus_all k (c ∷ cs) = plus_all (plus k c) cs

pub all_from : (k k' : Taken) (cs : List Claim) → taking_all k cs ≡ good k' → AllRoom k cs × (plus_all k cs ≡ k')
all_from k k' [] h = (tt, good_same k k' h)
all_from k k' (c ∷ cs) h =
    let b = bind_good (taking k c) (λ x. taking_all x cs) k' h in
    let r = room_from k b.0 c b.1 in
    let a = all_from b.0 k' cs b.2 in
    ((r.0, subst (λ x. AllRoom x cs) (sym r.1) a.0), ap (λ x. plus_all x cs) r.1 ∙ a.1)

pub all_to : (k : Taken) (cs : List Claim) → AllRoom k cs → taking_all k cs ≡ good (plus_all k cs)
all_to k [] h = refl
all_to k (c ∷ cs) h = bind_is (taking k c) (λ x. taking_all x cs) (plus k c) (plus_all (plus k c) cs) (room_to k c h.0) (all_to (plus k c) cs h.1)

-- one row of claims and then another
pub room_append : (k : Taken) (cs ds : List Claim) → AllRoom k cs → AllRoom (plus_all k cs) ds → AllRoom k (cs ++ ds)
room_append k [] ds h g = g
room_append k (c ∷ cs) ds h g = (h.0, room_append (plus k c) cs ds h.1 g)

pub room_split : (k : Taken) (cs ds : List Claim) → AllRoom k (cs ++ ds) → AllRoom k cs × AllRoom (plus_all k cs) ds
room_split k [] ds h = (tt, h)
room_split k (c ∷ cs) ds h = let r = room_split (plus k c) cs ds h.1 in ((h.0, r.0), r.1)
