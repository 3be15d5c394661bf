-- Names in order: what sorting, ranking and claiming make of them.
use Rattle.std.proofs.Common.{◌≡◌, ℕ, zero, suc, ◌+◌, ◌<◌, ◌≤◌, Bool, true, false, cond, ◌||◌, List, [], ◌∷◌, ◌++◌, map, length, get_or, sym, refl, ap, ◌∙◌, subst, ap₂, arith}
use lib.ListN.{length-map}
use Rattle.std.proofs.lemmas.Bool.{both_ways, le-ltb, and_right, and_from, or_from, or_parts, or_left, or_right, cond-true, cond-false}
use Rattle.scan.specs.Names.{Bytes, is_name, same, before, among, all}
use Rattle.scan.proofs.NameOrder.{names_ordered}
use Rattle.numbers.specs.Numbers.{sum}
use Rattle.verdict.specs.Items.{Item, constant, bits, Expression}
use Rattle.verdict.specs.Macros.{names_of}
use Rattle.verdict.specs.Parts.{Body, alu, selector, memory, Claim, a_name, some_items, some_words}
use Rattle.verdict.specs.Limits.{Taken}
use Rattle.verdict.specs.Circuit.{insert, sorted, rank_in, rank_item, rank_expression, rank_body}
use Rattle.verdict.specs.Verdict.{item_known}
use Rattle.verdict.specs.Sound.{All, Ascending, Once, SoundItem, SoundExpression, SoundBody, item_count, word_count}
use Rattle.verdict.proofs.Orders.{same_refl, same_eq, same_not, not_same, or_swap}
use Rattle.verdict.proofs.Readings.{Apart}
use Rattle.verdict.proofs.Claims.{plus, AllRoom}
use Rattle.verdict.proofs.Ranks.{insert_name, sort_names}
use Rattle.verdict.proofs.Figures.{all_at, tell_item}
use Rattle.verdict.proofs.Retold.{tell_body, claims_for, KnownClaim}

before_differs : (m n : Bytes) → before m n ≡ true → m ≡ n → ⊥
before_differs m n h e = both_ways (before m m) (names_ordered.never m) (subst (λ x. before m x ≡ true) (sym e) h)

-- EACH ONCE

not_among : (n : Bytes) (ns : List Bytes) → All (λ m. before n m ≡ true) ns → among ns n ≡ false
not_among n [] h = refl
not_among n (m ∷ ns) h = or_from (same m n) (among ns n) (same_not m n (λ e. before_differs n m h.0 (sym e))) (not_among n ns h.1)

pub ascending_once : (ns : List Bytes) → Ascending ns → Once ns
ascending_once [] h = tt
ascending_once (n ∷ ns) h = (not_among n ns h.0, ascending_once ns h.1)

fresh : (met : List Bytes) (n : Bytes) (ns : List Bytes) → All (λ m. among met m ≡ false) ns → among ns n ≡ false → All (λ m. among (n ∷ met) m ≡ false) ns
fresh met n [] h o = tt
fresh met n (m ∷ ns) h o =
    let p = or_parts (same m n) (among ns n) o in
    (or_from (same n m) (among met m) (same_not n m (λ e. not_same m n p.0 (sym e))) h.0, fresh met n ns h.1 p.1)

apart_from : (met ns : List Bytes) → All (λ n. among met n ≡ false) ns → Once ns → Apart met ns
apart_from met [] h o = tt
apart_from met (n ∷ ns) h o = (h.0, apart_from (n ∷ met) ns (fresh met n ns h.1 o.0) o.1)

none_met : (ns : List Bytes) → All (λ n. among [] n ≡ false) ns
none_met [] = tt
none_met (n ∷ ns) = (refl, none_met ns)

pub once_apart : (ns : List Bytes) → Once ns → Apart [] ns
once_apart ns o = apart_from [] ns (none_met ns) o

pub all_among : (P : Bytes → Type 0) (ns : List Bytes) (n : Bytes) → All P ns → among ns n ≡ true → P n
all_among P [] n h e = absurd (Rattle.std.proofs.lemmas.Bool.false≢true e)
all_among P (m ∷ ns) n h e =
    mathlib.Core.Logic.⊎_elim (λ s. subst P (same_eq m n s) h.0) (λ s. all_among P ns n h.1 s) (Rattle.std.proofs.lemmas.Bool.or_cases (same m n) (among ns n) e)

pub all_map : {X : Type 0} (P Q : X → Type 0) (xs : List X) → ((x : X) → P x → Q x) → All P xs → All Q xs
all_map P Q [] f h = tt
all_map P Q (x ∷ xs) f h = (f x h.0, all_map P Q xs f h.1)

-- SORTED

pub sort_ascending : (ns : List Bytes) → Ascending ns → sort_names ns ≡ ns
sort_ascending [] h = refl
sort_ascending (n ∷ []) h = refl
sort_ascending (n ∷ m ∷ ns) h = ap (insert_name n) (sort_ascending (m ∷ ns) h.1) ∙ cond-true (before n m) _ _ h.0.0

pub sorted_ascending : {X : Type 0} (es : List (Bytes × X)) → Ascending (names_of es) → sorted es ≡ es
sorted_ascending [] h = refl
sorted_ascending (e ∷ []) h = refl
sorted_ascending (e ∷ f ∷ es) h = ap (insert e) (sorted_ascending (f ∷ es) h.1) ∙ cond-true (before e.0 f.0) _ _ h.0.0

among_insert : (n : Bytes) (ns : List Bytes) (m : Bytes) → among (insert_name n ns) m ≡ (same n m || among ns m)
among_insert n [] m = refl
among_insert n (x ∷ ns) m = by (before n x) (among_insert n ns m)
  where
    by : (b : Bool) → among (insert_name n ns) m ≡ (same n m || among ns m) → among (cond b (n ∷ x ∷ ns) (x ∷ insert_name n ns)) m ≡ (same n m || (same x m || among ns m))
    by true h = refl
    by false h = ap (λ z. same x m || z) h ∙ or_swap (same x m) (same n m) (among ns m)

pub among_sort : (ns : List Bytes) (m : Bytes) → among (sort_names ns) m ≡ among ns m
among_sort [] m = refl
among_sort (n ∷ ns) m = among_insert n (sort_names ns) m ∙ ap (λ z. same n m || z) (among_sort ns m)

pub all_name_insert : (P : Bytes → Type 0) (n : Bytes) (ns : List Bytes) → P n → All P ns → All P (insert_name n ns)
all_name_insert P n [] p h = (p, tt)
all_name_insert P n (x ∷ ns) p h = by (before n x) (all_name_insert P n ns p h.1)
  where
    by : (b : Bool) → All P (insert_name n ns) → All P (cond b (n ∷ x ∷ ns) (x ∷ insert_name n ns))
    by true g = (p, h)
    by false g = (h.0, g)

pub all_sort : (P : Bytes → Type 0) (ns : List Bytes) → All P ns → All P (sort_names ns)
all_sort P [] h = tt
all_sort P (n ∷ ns) h = all_name_insert P n (sort_names ns) h.0 (all_sort P ns h.1)

-- RANKS

among_at : (ns : List Bytes) (r : ℕ) → r < length ns → among ns (get_or ns r []) ≡ true
among_at [] r l = absurd (let z : r < 0 = l in omega arith)
among_at (n ∷ ns) zero l = or_left (same n n) (among ns n) (same_refl n)
among_at (n ∷ ns) (suc r) l = or_right (same n (get_or ns r [])) (among ns (get_or ns r [])) (among_at ns r (omega arith))

rank_at : (ns : List Bytes) (r : ℕ) → Ascending ns → r < length ns → rank_in ns (get_or ns r []) ≡ r
rank_at [] r h l = absurd (let z : r < 0 = l in omega arith)
rank_at (n ∷ ns) zero h l = cond-true (same n n) 0 (suc (rank_in ns n)) (same_refl n)
rank_at (n ∷ ns) (suc r) h l =
    let k : r < length ns = omega arith in
    cond-false (same n (get_or ns r [])) 0 (suc (rank_in ns (get_or ns r []))) (same_not n (get_or ns r []) (before_differs n (get_or ns r []) (all_at (λ m. before n m ≡ true) ns [] r h.0 k)))
    ∙ ap suc (rank_at ns r h.1 k)

module _ (names : List Bytes) (ascending : Ascending names) where
  rank_item_holds : (i : Item ℕ) → SoundItem (length names) i → rank_item names (tell_item names i) ≡ i
  rank_item_holds (constant v w) h = refl
  rank_item_holds (bits r b t) h = ap (λ x. bits x b t) (rank_at names r ascending h.0)

  rank_items : (e : Expression ℕ) → All (SoundItem (length names)) e → map (rank_item names) (map (tell_item names) e) ≡ e
  rank_items [] h = refl
  rank_items (i ∷ e) h = ap₂ (λ (x : Item ℕ) (xs : Expression ℕ). x ∷ xs) (rank_item_holds i h.0) (rank_items e h.1)

  rank_cases : (cs : List (Expression ℕ)) → All (SoundExpression (length names)) cs → map (rank_expression names) (map (map (tell_item names)) cs) ≡ cs
  rank_cases [] h = refl
  rank_cases (e ∷ cs) h = ap₂ (λ (x : Expression ℕ) (xs : List (Expression ℕ)). x ∷ xs) (rank_items e h.0.items) (rank_cases cs h.1)

  pub rank_body_holds : (b : Body ℕ) → SoundBody (length names) b → rank_body names (tell_body names b) ≡ b
  rank_body_holds (alu f l r) h =
      ap (λ (x : Expression ℕ). alu x (map (rank_item names) (map (tell_item names) l)) (map (rank_item names) (map (tell_item names) r))) (rank_items f h.function.items)
      ∙ ap₂ (λ (x y : Expression ℕ). alu f x y) (rank_items l h.left.items) (rank_items r h.right.items)
  rank_body_holds (selector s cs) h = ap₂ (λ (x : Expression ℕ) (xs : List (Expression ℕ)). selector x xs) (rank_items s h.select.items) (rank_cases cs h.cases)
  rank_body_holds (memory a d o vs) h =
      ap (λ (x : Expression ℕ). memory x (map (rank_item names) (map (tell_item names) d)) (map (rank_item names) (map (tell_item names) o)) vs) (rank_items a h.address.items)
      ∙ ap₂ (λ (x y : Expression ℕ). memory a x y vs) (rank_items d h.given.items) (rank_items o h.operation.items)

-- CLAIMS

module _ (names : List Bytes) where
  items_known : (e : Expression ℕ) → All (SoundItem (length names)) e → all (item_known names) (map (tell_item names) e) ≡ true
  items_known [] h = refl
  items_known (constant v w ∷ e) h = items_known e h.1
  items_known (bits r b t ∷ e) h = and_from (among names (get_or names r [])) (all (item_known names) (map (tell_item names) e)) (among_at names r h.0.0) (items_known e h.1)

  cases_known : (cs : List (Expression ℕ)) → All (SoundExpression (length names)) cs → All (KnownClaim names) (map some_items (map (map (tell_item names)) cs))
  cases_known [] h = tt
  cases_known (e ∷ cs) h = (items_known e h.0.items, cases_known cs h.1)

  pub claims_known : (n : Bytes) (b : Body ℕ) → SoundBody (length names) b → All (KnownClaim names) (claims_for n (tell_body names b))
  claims_known n (alu f l r) h = (tt, (items_known f h.function.items, (items_known l h.left.items, (items_known r h.right.items, tt))))
  claims_known n (selector s cs) h = (tt, (items_known s h.select.items, cases_known cs h.cases))
  claims_known n (memory a d o vs) h = (tt, (items_known a h.address.items, (items_known d h.given.items, (items_known o h.operation.items, (tt, tt)))))

-- what claims take together
abbrev pub names_in : List Claim → List Bytes
names_in [] = []
names_in (a_name n ∷ cs) = n ∷ names_in cs
names_in (some_items e ∷ cs) = names_in cs
names_in (some_words k ∷ cs) = names_in cs

abbrev pub items_in : List Claim → ℕ
items_in [] = 0
items_in (a_name n ∷ cs) = items_in cs
items_in (some_items e ∷ cs) = length e + items_in cs
items_in (some_words k ∷ cs) = items_in cs

abbrev pub words_in : List Claim → ℕ
words_in [] = 0
words_in (a_name n ∷ cs) = words_in cs
words_in (some_items e ∷ cs) = words_in cs
words_in (some_words k ∷ cs) = k + words_in cs

pub all_room : (k : Taken) (cs : List Claim) → Apart k.names (names_in cs) → All (λ n. is_name n ≡ true) (names_in cs) →
    length k.names + length (names_in cs) ≤ 64 → k.items + items_in cs ≤ 2048 → k.memory + words_in cs ≤ 4096 → AllRoom k cs
all_room k [] a f l i w = tt
all_room k (a_name n ∷ cs) a f l i w = (record { formed = f.0; room = omega (arith, l); unmet = a.0 }, all_room (plus k (a_name n)) cs a.1 f.1 (omega (arith, l)) i w)
all_room k (some_items e ∷ cs) a f l i w = (omega (arith, i), all_room (plus k (some_items e)) cs a f l (omega (arith, i)) w)
all_room k (some_words n ∷ cs) a f l i w = (omega (arith, w), all_room (plus k (some_words n)) cs a f l i (omega (arith, w)))

names_append : (xs ys : List Claim) → names_in (xs ++ ys) ≡ names_in xs ++ names_in ys
names_append [] ys = refl
names_append (a_name n ∷ xs) ys = ap (λ x. n ∷ x) (names_append xs ys)
names_append (some_items e ∷ xs) ys = names_append xs ys
names_append (some_words k ∷ xs) ys = names_append xs ys

items_append : (xs ys : List Claim) → items_in (xs ++ ys) ≡ items_in xs + items_in ys
items_append [] ys = omega arith
items_append (a_name n ∷ xs) ys = items_append xs ys
items_append (some_items e ∷ xs) ys = omega (arith, items_append xs ys)
items_append (some_words k ∷ xs) ys = items_append xs ys

words_append : (xs ys : List Claim) → words_in (xs ++ ys) ≡ words_in xs + words_in ys
words_append [] ys = omega arith
words_append (a_name n ∷ xs) ys = words_append xs ys
words_append (some_items e ∷ xs) ys = words_append xs ys
words_append (some_words k ∷ xs) ys = omega (arith, words_append xs ys)

cases_names : (es : List (Expression Bytes)) → names_in (map some_items es) ≡ []
cases_names [] = refl
cases_names (e ∷ es) = cases_names es

cases_words : (es : List (Expression Bytes)) → words_in (map some_items es) ≡ 0
cases_words [] = refl
cases_words (e ∷ es) = cases_words es

module _ (names : List Bytes) where
  cases_items : (cs : List (Expression ℕ)) → items_in (map some_items (map (map (tell_item names)) cs)) ≡ sum (map (λ e. length e) cs)
  cases_items [] = refl
  cases_items (e ∷ cs) = omega (arith, length-map e (tell_item names), cases_items cs)

  body_names : (n : Bytes) (b : Body ℕ) → names_in (claims_for n (tell_body names b)) ≡ n ∷ []
  body_names n (alu f l r) = refl
  body_names n (selector s cs) = ap (λ x. n ∷ x) (cases_names (map (map (tell_item names)) cs))
  body_names n (memory a d o vs) = refl

  body_items : (n : Bytes) (b : Body ℕ) → items_in (claims_for n (tell_body names b)) ≡ item_count b
  body_items n (alu f l r) = omega (arith, length-map f (tell_item names), length-map l (tell_item names), length-map r (tell_item names))
  body_items n (selector s cs) = omega (arith, length-map s (tell_item names), cases_items cs)
  body_items n (memory a d o vs) = omega (arith, length-map a (tell_item names), length-map d (tell_item names), length-map o (tell_item names))

  body_words : (n : Bytes) (b : Body ℕ) → words_in (claims_for n (tell_body names b)) ≡ word_count b
  body_words n (alu f l r) = refl
  body_words n (selector s cs) = cases_words (map (map (tell_item names)) cs)
  body_words n (memory a d o vs) = omega arith

  -- the claims of all parts
  abbrev pub claims_of_all : List (Bytes × Body ℕ) → List Claim
  claims_of_all [] = []
  claims_of_all (p ∷ ps) = claims_for p.0 (tell_body names p.1) ++ claims_of_all ps

  pub all_names : (ps : List (Bytes × Body ℕ)) → names_in (claims_of_all ps) ≡ names_of ps
  all_names [] = refl
  all_names (p ∷ ps) = names_append (claims_for p.0 (tell_body names p.1)) (claims_of_all ps) ∙ ap₂ (λ (x y : List Bytes). x ++ y) (body_names p.0 p.1) (all_names ps)

  pub all_items : (ps : List (Bytes × Body ℕ)) → items_in (claims_of_all ps) ≡ sum (map (λ p. item_count p.1) ps)
  all_items [] = refl
  all_items (p ∷ ps) = items_append (claims_for p.0 (tell_body names p.1)) (claims_of_all ps) ∙ ap₂ (λ x y. x + y) (body_items p.0 p.1) (all_items ps)

  pub all_words : (ps : List (Bytes × Body ℕ)) → words_in (claims_of_all ps) ≡ sum (map (λ p. word_count p.1) ps)
  all_words [] = refl
  all_words (p ∷ ps) = words_append (claims_for p.0 (tell_body names p.1)) (claims_of_all ps) ∙ ap₂ (λ x y. x + y) (body_words p.0 p.1) (all_words ps)
