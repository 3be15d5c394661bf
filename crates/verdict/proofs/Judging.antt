-- What is true of numbers, items and expressions that were read.
use Rattle.std.proofs.Common.{◌≡◌, ℕ, suc, ◌+◌, ◌*◌, ◌^◌, ◌<◌, ◌≤◌, Bool, true, false, cond, ◌&&◌, eqb, ltb, leb, List, [], ◌∷◌, map, length, refl, ap, subst, mod-lt, arith}
use Rattle.std.proofs.lemmas.Bool.{and_parts, leb-true, ltb-true}
use Rattle.std.proofs.lemmas.Nat.{pow-add, pow_pos}
use Rattle.scan.specs.Names.{Bytes, is_name}
use Rattle.numbers.specs.Judged as judging
use Rattle.numbers.specs.Judged.{Judged, good, bad, check, both, front, every}
use Rattle.numbers.specs.Splits.{cut_at, split}
use Rattle.numbers.specs.Numbers.{sum, digit_value, digits_after, digits, word_of, term, number, binary_value}
use Rattle.verdict.specs.Items.{Item, constant, bits, Expression, width, low_bits, bits_of, binary_item, number_item, name_item, begins_number, item, expression}
use Rattle.verdict.specs.Macros.{Table, field, expression_field, number_field, Size, zeros, given, size_number, size, size_field}
use Rattle.verdict.specs.Sound.{All}

-- what was read, if anything, has the property
abbrev pub J : {X : Type 0} → (X → Type 0) → Judged X → Type 0
J P (good x) = P x
J P (bad n) = Unit {0}

abbrev Any : {X : Type 0} → X → Type 0
Any x = Unit {0}

bind_j : {X Y : Type 0} (P : X → Type 0) (Q : Y → Type 0) (m : Judged X) (f : X → Judged Y) → J P m → ((x : X) → P x → J Q (f x)) → J Q (judging.◌>>=◌ m f)
bind_j P Q (good x) f h g = g x h
bind_j P Q (bad n) f h g = tt

any_j : {X : Type 0} (j : Judged X) → J Any j
any_j (good x) = tt
any_j (bad n) = tt

pub check_j : (b : Bool) (n : ℕ) → J (λ (u : Unit {0}). b ≡ true) (check b n)
check_j true n = refl
check_j false n = tt

cond_j : {X : Type 0} (P : X → Type 0) (b : Bool) (x y : Judged X) → J P x → J P y → J P (cond b x y)
cond_j P true x y h g = h
cond_j P false x y h g = g

both_j : {X Y : Type 0} (P : X → Type 0) (Q : Y → Type 0) (j : Judged X) (k : Judged Y) → J P j → J Q k → J (λ (xy : X × Y). P xy.0 × Q xy.1) (both j k)
both_j P Q (good x) (good y) h g = (h, g)
both_j P Q (good x) (bad m) h g = tt
both_j P Q (bad n) (good y) h g = tt
both_j P Q (bad n) (bad m) h g = tt

front_j : {X : Type 0} (P : X → Type 0) (n : ℕ) (j : Judged X) (js : Judged (List X)) → J P j → J (λ (xs : List X). All P xs × (length xs ≡ n)) js → J (λ (xs : List X). All P xs × (length xs ≡ suc n)) (front j js)
front_j P n (good x) (good xs) h g = ((h, g.0), ap suc g.1)
front_j P n (good x) (bad m) h g = tt
front_j P n (bad k) (good xs) h g = tt
front_j P n (bad k) (bad m) h g = tt

every_j : {X : Type 0} (P : X → Type 0) (f : Bytes → Judged X) → ((b : Bytes) → J P (f b)) → (bs : List Bytes) → J (λ (xs : List X). All P xs × (length xs ≡ length bs)) (every (map f bs))
every_j P f h [] = (tt, refl)
every_j P f h (b ∷ bs) = front_j P (length bs) (f b) (every (map f bs)) (h b) (every_j P f h bs)

cut_some : (c : Bool) (b : ℕ) (ps : List Bytes) → 0 < length (cut_at c b ps)
cut_some true b ps = omega arith
cut_some false b [] = omega arith
cut_some false b (p ∷ ps) = omega arith

split_some : (s : ℕ) (t : Bytes) → 0 < length (split s t)
split_some s [] = omega arith
split_some s (b ∷ t) = cut_some (eqb b s) b (split s t)

-- NUMBERS

abbrev pub Small : ℕ → Type 0
Small v = v ≤ 2147483647

word_of_j : (n : ℕ) → J Small (word_of n)
word_of_j n = bind_j (λ (u : Unit {0}). leb n 2147483647 ≡ true) Small (check (leb n 2147483647) 13) _ (check_j _ 13) (λ u h. leb-true n 2147483647 h)

pub number_j : (t : Bytes) → J Small (number t)
number_j t = bind_j Any Small (every (map term (split 43 t))) _ (any_j (every (map term (split 43 t)))) (λ ns u. word_of_j (sum ns))

power_next : (a n d : ℕ) → n < 2 ^ a → d < 2 → n * 2 + d < 2 ^ (a + 1)
power_next a n d l h = let e : 2 ^ (a + 1) ≡ 2 ^ a * 2 = pow-add 2 a 1 in omega arith

power_some : (w : ℕ) → 0 < 2 ^ w
power_some w = pow_pos w

digits_j : (a n : ℕ) (ds : Bytes) → n < 2 ^ a → J (λ v. v < 2 ^ (a + length ds)) (digits_after 2 n ds)
digits_j a n [] l = let e : a ≡ a + 0 = omega arith in subst (λ k. n < 2 ^ k) e l
digits_j a n (b ∷ ds) l =
    bind_j (λ (u : Unit {0}). ltb (digit_value b) 2 ≡ true) (λ v. v < 2 ^ (a + suc (length ds))) (check (ltb (digit_value b) 2) 11) _ (check_j _ 11)
    (λ u h. let e : (a + 1) + length ds ≡ a + suc (length ds) = omega arith in subst (λ k. J (λ v. v < 2 ^ k) (digits_after 2 (n * 2 + digit_value b) ds)) e (digits_j (a + 1) (n * 2 + digit_value b) ds (power_next a n (digit_value b) l (ltb-true (digit_value b) 2 h))))

-- ITEMS

abbrev pub GoodItem : Item Bytes → Type 0
GoodItem (constant v w) = (1 ≤ w) × (w ≤ 31) × (v < 2 ^ w)
GoodItem (bits n b t) = (b ≤ t) × (t ≤ 30)

low_bits_j : (v w : ℕ) → J GoodItem (low_bits v w)
low_bits_j v w =
    bind_j (λ (u : Unit {0}). (leb 1 w && leb w 31) ≡ true) GoodItem (check (leb 1 w && leb w 31) 14) _ (check_j _ 14)
    (λ u h. let p = and_parts (leb 1 w) (leb w 31) h in (leb-true 1 w p.0, leb-true w 31 p.1, mod-lt v (power_some w)))

bits_of_j : (n : Bytes) (b t : ℕ) → J GoodItem (bits_of n b t)
bits_of_j n b t =
    bind_j (λ (u : Unit {0}). (leb b t && leb t 30) ≡ true) GoodItem (check (leb b t && leb t 30) 14) _ (check_j _ 14)
    (λ u h. let p = and_parts (leb b t) (leb t 30) h in (leb-true b t p.0, leb-true t 30 p.1))

-- some digits, at most 31 of them, and a number of that many bits
abbrev Fits : Bytes → ℕ → Type 0
Fits ds v = (1 ≤ length ds) × (length ds ≤ 31) × (v < 2 ^ length ds)

binary_value_j : (ds : Bytes) → J (Fits ds) (binary_value ds)
binary_value_j [] = tt
binary_value_j (b ∷ ds) =
    let z : 0 < 2 ^ 0 = omega arith in
    bind_j (λ v. v < 2 ^ (0 + length (b ∷ ds))) (Fits (b ∷ ds)) (digits 2 (b ∷ ds)) _ (digits_j 0 0 (b ∷ ds) z)
    (λ v l. bind_j (λ (u : Unit {0}). leb (length (b ∷ ds)) 31 ≡ true) (Fits (b ∷ ds)) (check (leb (length (b ∷ ds)) 31) 14) _ (check_j _ 14)
    (λ u h. let e : 0 + length (b ∷ ds) ≡ length (b ∷ ds) = omega arith in (omega arith, leb-true (length (b ∷ ds)) 31 h, subst (λ k. v < 2 ^ k) e l)))

binary_item_j : (ds : Bytes) → J GoodItem (binary_item ds)
binary_item_j ds = bind_j (Fits ds) GoodItem (binary_value ds) _ (binary_value_j ds) (λ v h. h)

number_item_j : (ps : List Bytes) → J GoodItem (number_item ps)
number_item_j [] = tt
number_item_j (n ∷ []) = bind_j Small GoodItem (number n) _ (number_j n) (λ v l. (omega arith, omega arith, (let q : v < 2147483648 = omega arith in q)))
number_item_j (n ∷ w ∷ []) = bind_j Any GoodItem (both (number n) (number w)) _ (any_j (both (number n) (number w))) (λ vw u. low_bits_j vw.0 vw.1)
number_item_j (n ∷ w ∷ x ∷ xs) = tt

name_item_j : (ps : List Bytes) → J GoodItem (name_item ps)
name_item_j [] = tt
name_item_j (n ∷ []) = bind_j Any GoodItem (check (is_name n) 11) _ (any_j (check (is_name n) 11)) (λ u h. (omega arith, omega arith))
name_item_j (n ∷ b ∷ []) = bind_j Any GoodItem (check (is_name n) 11) _ (any_j (check (is_name n) 11)) (λ u h. bind_j Any GoodItem (number b) _ (any_j (number b)) (λ v k. bits_of_j n v v))
name_item_j (n ∷ b ∷ t ∷ []) = bind_j Any GoodItem (check (is_name n) 11) _ (any_j (check (is_name n) 11)) (λ u h. bind_j Any GoodItem (both (number b) (number t)) _ (any_j (both (number b) (number t))) (λ bt k. bits_of_j n bt.0 bt.1))
name_item_j (n ∷ b ∷ t ∷ x ∷ xs) = tt

item_j : (t : Bytes) → J GoodItem (item t)
item_j [] = tt
item_j (c ∷ cs) = cond_j GoodItem (eqb c 35) _ _ (binary_item_j cs) (cond_j GoodItem (begins_number c) _ _ (number_item_j (split 46 (c ∷ cs))) (name_item_j (split 46 (c ∷ cs))))

-- EXPRESSIONS AND FIELDS

pub record GoodExpression (e : Expression Bytes) : Type 0 where
  pub some_item : 0 < length e
  pub items : All GoodItem e
  pub narrow : sum (map width e) ≤ 31

expression_j : (t : Bytes) → J GoodExpression (expression t)
expression_j t =
    bind_j (λ (es : Expression Bytes). All GoodItem es × (length es ≡ length (split 44 t))) GoodExpression (every (map item (split 44 t))) _ (every_j GoodItem item item_j (split 44 t))
    (λ es h. bind_j (λ (u : Unit {0}). leb (sum (map width es)) 31 ≡ true) GoodExpression (check (leb (sum (map width es)) 31) 15) _ (check_j _ 15)
    (λ u k. record { some_item = omega (arith, h.1, split_some 44 t); items = h.0; narrow = leb-true (sum (map width es)) 31 k }))

pub expression_field_j : (t : Table) (w : Bytes) → J GoodExpression (expression_field t w)
expression_field_j t w = bind_j Any GoodExpression (field t w) _ (any_j (field t w)) (λ f u. expression_j f)

pub number_field_j : (t : Table) (w : Bytes) → J Small (number_field t w)
number_field_j t w = bind_j Any Small (field t w) _ (any_j (field t w)) (λ f u. number_j f)

abbrev pub Counts : ℕ → Type 0
Counts n = (1 ≤ n) × (n ≤ 4096)

abbrev pub GoodSize : Size → Type 0
GoodSize (zeros n) = Counts n
GoodSize (given n) = Counts n

size_number_j : (t : Bytes) → J Counts (size_number t)
size_number_j t =
    bind_j Any Counts (number t) _ (any_j (number t)) (λ n u.
    bind_j (λ (v : Unit {0}). (leb 1 n && leb n 4096) ≡ true) Counts (check (leb 1 n && leb n 4096) 14) _ (check_j _ 14)
    (λ v h. let p = and_parts (leb 1 n) (leb n 4096) h in (leb-true 1 n p.0, leb-true n 4096 p.1)))

size_j : (t : Bytes) → J GoodSize (size t)
size_j [] = tt
size_j (c ∷ cs) = cond_j GoodSize (eqb c 45) _ _ (bind_j Counts GoodSize (size_number cs) _ (size_number_j cs) (λ n h. h)) (bind_j Counts GoodSize (size_number (c ∷ cs)) _ (size_number_j (c ∷ cs)) (λ n h. h))

pub size_field_j : (t : Table) (w : Bytes) → J GoodSize (size_field t w)
size_field_j t w = bind_j Any GoodSize (field t w) _ (any_j (field t w)) (λ f u. size_j f)
