-- What is read of the numbers, items and expressions that a listing writes.
use Rattle.std.proofs.Common.{◌≡◌, ℕ, zero, suc, ◌+◌, ◌-◌, ◌*◌, ◌^◌, ◌<◌, ◌≤◌, Bool, true, false, ◌&&◌, eqb, leb, List, [], ◌∷◌, ◌++◌, map, length, get_or, take, decimal, refl, ap, ◌∙◌, subst, ap₂, mod-eq_of_lt, arith, length-append, pow_mono}
use Rattle.std.proofs.lemmas.Bool.Decides.{nat_tests}
use Rattle.std.specs.Str.Parse.{AllDigits}
use Rattle.std.proofs.lemmas.Bool.{ne_eqb, le-leb, lt-leb, cond-true, cond-false, and_from, and_parts, and_left, or_from, or_left, or_cases, leb-true, not_from_false}
use Rattle.std.proofs.lemmas.List.{take_all}
use Rattle.std.proofs.lemmas.Str.Parse.{digit_from_value}
use Rattle.std.proofs.lemmas.Fmt.{decimal_is_IsNumeral, length-decimal-le}
use Rattle.scan.specs.Names.{Bytes, is_letter, is_letter_or_digit, is_name, all}
use Rattle.numbers.specs.Judged.{Judged, good, check, both, front, every}
use Rattle.numbers.specs.Splits.{split}
use Rattle.numbers.specs.Numbers.{sum, number}
use Rattle.numbers.proofs.Decimals.{numbers_read_back}
use Rattle.verdict.specs.Items.{Item, constant, bits, Expression, width, number_item, name_item, item, expression}
use Rattle.verdict.specs.Macros.{Piece, plain, opens_use, used_name, piece_at, pieces_from, Table, names_of, put_in, filled, is_known, all_known, field, expression_field, number_field, size_field, size_number, size, given}
use Rattle.verdict.specs.Listing.{joined_by, item_text, expression_text}
use Rattle.verdict.specs.Sound.{All, ProperName, SoundItem, SoundExpression}
use Rattle.verdict.proofs.Inversions.{check_true, bind_is}
use Rattle.verdict.proofs.Pieces.{Without, split_none, split_at}
use Rattle.verdict.proofs.Scans.{Within, within_append, within_less, spans}

-- NUMBERS

pub digits_within : (ds : Bytes) → AllDigits 10 ds → All (λ b. (48 ≤ b) × (b ≤ 57)) ds
digits_within [] h = tt
digits_within (b ∷ ds) h = (digit_from_value b h.0, digits_within ds h.1)

pub figures_within : (ds : Bytes) → All (λ b. (48 ≤ b) × (b ≤ 57)) ds → Within 48 ds
figures_within [] h = tt
figures_within (b ∷ ds) h = ((h.0.0, omega (arith, h.0.1)), figures_within ds h.1)

pub without : (s lo : ℕ) (w : Bytes) → s < lo → Within lo w → Without s w
without s lo [] l h = refl
without s lo (b ∷ w) l h = and_from _ _ (not_from_false (eqb b s) (ne_eqb b s (λ e. omega (arith, h.0.0)))) (without s lo w l h.1)

pub small : (n : ℕ) → n ≤ 2147483647 → n < 2 ^ 64
small n h = let l : 2147483647 < 2 ^ 64 = omega arith in omega arith

pub number_decimal : (n : ℕ) → n ≤ 2147483647 → number (decimal n) ≡ good n
number_decimal n l = numbers_read_back 0 n l

pub decimal_figures : (n : ℕ) → n ≤ 2147483647 → All (λ b. (48 ≤ b) × (b ≤ 57)) (decimal n)
decimal_figures n l = digits_within (decimal n) (decimal_is_IsNumeral n (small n l)).0.1

pub decimal_within : (n : ℕ) → n ≤ 2147483647 → Within 48 (decimal n)
decimal_within n l = figures_within (decimal n) (decimal_figures n l)

pub decimal_some : (n : ℕ) → n ≤ 2147483647 → 0 < length (decimal n)
decimal_some n l = (decimal_is_IsNumeral n (small n l)).0.0

pub decimal_long : (n : ℕ) → n ≤ 2147483647 → length (decimal n) ≤ 10
decimal_long n l = let q : 2147483647 < 10 ^ 10 = omega arith in length-decimal-le 10 n (omega arith) (omega arith) (small n l)

pub decimal_short : (n : ℕ) → n < 100 → length (decimal n) ≤ 2
decimal_short n l = let q : 100 ≤ 10 ^ 2 = omega arith in length-decimal-le 2 n (omega arith) (omega arith) (small n (omega arith))

-- NAMES

letter_within : (b : ℕ) → is_letter b ≡ true → (65 ≤ b) × (b ≤ 122)
letter_within b h = (grind (arith, nat_tests), grind (arith, nat_tests))

sign_within : (b : ℕ) → is_letter_or_digit b ≡ true → (48 ≤ b) × (b ≤ 122)
sign_within b h = (grind (arith, nat_tests), grind (arith, nat_tests))

signs_within : (w : Bytes) → all is_letter_or_digit w ≡ true → Within 48 w
signs_within [] h = tt
signs_within (b ∷ w) h = let p = and_parts (is_letter_or_digit b) (all is_letter_or_digit w) h in (sign_within b p.0, signs_within w p.1)

-- what a name's bytes are
pub record NameBytes (n : Bytes) : Type 0 where
  pub first : ℕ
  pub more : Bytes
  pub is : first ∷ more ≡ n
  pub letter : is_letter first ≡ true
  pub within : Within 48 n
  pub short : length n ≤ 16

pub name_bytes : (n : Bytes) → is_name n ≡ true → NameBytes n
name_bytes [] h = absurd (Rattle.std.proofs.lemmas.Bool.false≢true h)
name_bytes (b ∷ bs) h =
    let q = and_parts (is_letter b && all is_letter_or_digit bs) (leb (length bs) 15) h in
    let p = and_parts (is_letter b) (all is_letter_or_digit bs) q.0 in
    let l = letter_within b p.0 in
    let k : length bs ≤ 15 = leb-true (length bs) 15 q.1 in
    record { first = b; more = bs; is = refl; letter = p.0; within = ((omega (arith, l.0), l.1), signs_within bs p.1); short = omega arith }

-- ITEMS

-- an item that names its part
abbrev pub tell_item : List Bytes → Item ℕ → Item Bytes
tell_item names (constant v w) = constant v w
tell_item names (bits r b t) = bits (get_or names r []) b t

begins_digit : (c : ℕ) (cs : Bytes) → 48 ≤ c → c ≤ 57 → item (c ∷ cs) ≡ number_item (split 46 (c ∷ cs))
begins_digit c cs l u = grind (arith, nat_tests)

number_item_holds : (ds es : Bytes) → 0 < length ds → All (λ b. (48 ≤ b) × (b ≤ 57)) ds → Without 46 ds → Without 46 es → item (ds ++ (46 ∷ es)) ≡ number_item (ds ∷ es ∷ [])
number_item_holds [] es p h x y = absurd (let z : 0 < 0 = p in omega arith)
number_item_holds (c ∷ ds) es p h x y =
    begins_digit c (ds ++ (46 ∷ es)) h.0.0 h.0.1
    ∙ ap number_item (split_at 46 (c ∷ ds) es x ∙ ap (λ ps. (c ∷ ds) ∷ ps) (split_none 46 es y))

begins_letter : (c : ℕ) (cs : Bytes) → is_letter c ≡ true → item (c ∷ cs) ≡ name_item (split 46 (c ∷ cs))
begins_letter c cs h = grind (arith, nat_tests)

name_item_holds : (n ds es : Bytes) → NameBytes n → Without 46 ds → Without 46 es → item (n ++ (46 ∷ (ds ++ (46 ∷ es)))) ≡ name_item (n ∷ ds ∷ es ∷ [])
name_item_holds n ds es b x y =
    let w : Without 46 n = without 46 48 n (omega arith) b.within in
    subst (λ (m : Bytes). item (m ++ (46 ∷ (ds ++ (46 ∷ es)))) ≡ name_item (split 46 (m ++ (46 ∷ (ds ++ (46 ∷ es)))))) b.is (begins_letter b.first (b.more ++ (46 ∷ (ds ++ (46 ∷ es)))) b.letter)
    ∙ ap name_item (split_at 46 n (ds ++ (46 ∷ es)) w ∙ ap (λ ps. n ∷ ps) (split_at 46 ds es x ∙ ap (λ ps. ds ∷ ps) (split_none 46 es y)))

pub decimal_without : (n : ℕ) → n ≤ 2147483647 → Without 46 (decimal n)
decimal_without n l = without 46 48 (decimal n) (omega arith) (decimal_within n l)

both_good : {X Y : Type 0} (j : Judged X) (k : Judged Y) (x : X) (y : Y) → j ≡ good x → k ≡ good y → both j k ≡ good (x, y)
both_good j k x y e f = ap₂ both e f

power_small : (w : ℕ) → w ≤ 31 → 2 ^ w ≤ 2147483648
power_small w l = let p : 2 ^ w ≤ 2 ^ 31 = pow_mono l in p

-- pieces joined by a separator
pub split_joined : (s : ℕ) (p : Bytes) (ps : List Bytes) → All (Without s) (p ∷ ps) → split s (joined_by s (p ∷ ps)) ≡ p ∷ ps
split_joined s p [] h = split_none s p h.0
split_joined s p (q ∷ ps) h = split_at s p (joined_by s (q ∷ ps)) h.0 ∙ ap (λ x. p ∷ x) (split_joined s q ps h.1)

pub joined_length : (s : ℕ) (p : Bytes) (ps : List Bytes) → length (joined_by s (p ∷ ps)) + 1 ≡ spans (p ∷ ps)
joined_length s p [] = omega arith
joined_length s p (q ∷ ps) = omega (arith, length-append p (s ∷ joined_by s (q ∷ ps)), joined_length s q ps)

-- FIELDS

pieces_plain : (w : Bytes) → Within 33 w → pieces_from 0 w ≡ map plain w
pieces_plain [] h = refl
pieces_plain (b ∷ w) h =
    ap (λ (u : Bool). piece_at u b (used_name u w) ∷ pieces_from (length (used_name u w)) w) (no_use b w h.0.1) ∙ ap (λ (ps : List Piece). plain b ∷ ps) (pieces_plain w h.1)
  where
    no_use : (b : ℕ) (w : Bytes) → b ≤ 122 → opens_use b w ≡ false
    no_use b [] l = refl
    no_use b (c ∷ w) l = and_left (eqb b 126) (is_letter c) (ne_eqb b 126 (λ e. omega arith))

known_plain : (names : List Bytes) (w : Bytes) → all (is_known names) (map plain w) ≡ true
known_plain names [] = refl
known_plain names (b ∷ w) = known_plain names w

put_plain : (t : Table) (w : Bytes) → put_in t (map plain w) ≡ w
put_plain t [] = refl
put_plain t (b ∷ w) = ap (λ x. b ∷ x) (put_plain t w)

-- a word with no use in it
pub field_is : (t : Table) (w : Bytes) → Within 33 w → length w ≤ 1023 → field t w ≡ good w
field_is t w h l =
    let f : filled t w ≡ w = ap (take 1024) (ap (put_in t) (pieces_plain w h) ∙ put_plain t w) ∙ take_all 1024 w (omega arith) in
    bind_is (check (all_known (names_of t) w) 18) _ tt w (check_true _ 18 (ap (all (is_known (names_of t))) (pieces_plain w h) ∙ known_plain (names_of t) w))
    (bind_is (check (leb (length (filled t w)) 1023) 16) _ tt w (check_true _ 16 (le-leb _ 1023 (omega (arith, ap length f)))) (ap good f))

pub number_field_holds : (t : Table) (n : ℕ) → n ≤ 2147483647 → number_field t (decimal n) ≡ good n
number_field_holds t n l = bind_is (field t (decimal n)) number (decimal n) n (field_is t (decimal n) (within_less 48 33 (decimal n) (omega arith) (decimal_within n l)) (omega (arith, decimal_long n l))) (number_decimal n l)

pub size_field_holds : (t : Table) (n : ℕ) → 1 ≤ n → n ≤ 4096 → size_field t (45 ∷ decimal n) ≡ good (given n)
size_field_holds t n p l =
    bind_is (field t (45 ∷ decimal n)) size (45 ∷ decimal n) (given n)
    (field_is t (45 ∷ decimal n) ((omega arith, omega arith), within_less 48 33 (decimal n) (omega arith) (decimal_within n (omega arith))) (omega (arith, decimal_long n (omega arith))))
    (bind_is (size_number (decimal n)) _ n (given n)
    (bind_is (number (decimal n)) _ n n (number_decimal n (omega arith)) (bind_is (check (leb 1 n && leb n 4096) 14) _ tt n (check_true _ 14 (and_from (leb 1 n) (leb n 4096) (le-leb 1 n p) (le-leb n 4096 l))) refl))
    refl)

-- the names that ranks stand for
pub all_at : {X : Type 0} (P : X → Type 0) (xs : List X) (d : X) (r : ℕ) → All P xs → r < length xs → P (get_or xs r d)
all_at P [] d r h l = absurd (let z : r < 0 = l in omega arith)
all_at P (x ∷ xs) d zero h l = h.0
all_at P (x ∷ xs) d (suc r) h l = all_at P xs d r h.1 (omega arith)

module _ (names : List Bytes) (proper : All ProperName names) where
  pub name_at_holds : (r : ℕ) → r < length names → ProperName (get_or names r [])
  name_at_holds r l = all_at ProperName names [] r proper l

  pub item_reads_holds : (i : Item ℕ) → SoundItem (length names) i → item (item_text names i) ≡ good (tell_item names i)
  item_reads_holds (constant v w) h =
      let p : 2 ^ w ≤ 2147483648 = power_small w h.1 in
      let lv : v ≤ 2147483647 = omega (arith, h.2) in
      let lw : w ≤ 2147483647 = omega (arith, h.1) in
      number_item_holds (decimal v) (decimal w) (decimal_some v lv) (decimal_figures v lv) (decimal_without v lv) (decimal_without w lw)
      ∙ bind_is (both (number (decimal v)) (number (decimal w))) _ (v, w) (constant v w) (both_good (number (decimal v)) (number (decimal w)) v w (number_decimal v lv) (number_decimal w lw))
      (bind_is (check (leb 1 w && leb w 31) 14) _ tt (constant v w) (check_true _ 14 (and_from (leb 1 w) (leb w 31) (le-leb 1 w h.0) (le-leb w 31 h.1)))
      (ap (λ x. good (constant x w)) (mod-eq_of_lt h.2)))
  item_reads_holds (bits r b t) h =
      let lb : b ≤ 2147483647 = omega (arith, h.1, h.2) in
      let lt : t ≤ 2147483647 = omega (arith, h.2) in
      let n = name_at_holds r h.0 in
      name_item_holds (get_or names r []) (decimal b) (decimal t) (name_bytes (get_or names r []) n.formed) (decimal_without b lb) (decimal_without t lt)
      ∙ bind_is (check (is_name (get_or names r [])) 11) _ tt (bits (get_or names r []) b t) (check_true _ 11 n.formed)
      (bind_is (both (number (decimal b)) (number (decimal t))) _ (b, t) (bits (get_or names r []) b t) (both_good (number (decimal b)) (number (decimal t)) b t (number_decimal b lb) (number_decimal t lt))
      (bind_is (check (leb b t && leb t 30) 14) _ tt (bits (get_or names r []) b t) (check_true _ 14 (and_from (leb b t) (leb t 30) (le-leb b t h.1) (le-leb t 30 h.2))) refl))

  -- bytes 46 to 122, at least two and at most 22
  pub item_within : (i : Item ℕ) → SoundItem (length names) i → Within 46 (item_text names i)
  item_within (constant v w) h =
      let p : 2 ^ w ≤ 2147483648 = power_small w h.1 in
      within_append 46 (decimal v) (46 ∷ decimal w) (within_less 48 46 (decimal v) (omega arith) (decimal_within v (omega (arith, h.2))))
      ((omega arith, omega arith), within_less 48 46 (decimal w) (omega arith) (decimal_within w (omega (arith, h.1))))
  item_within (bits r b t) h =
      within_append 46 (get_or names r []) (46 ∷ (decimal b ++ (46 ∷ decimal t))) (within_less 48 46 (get_or names r []) (omega arith) (name_bytes (get_or names r []) (name_at_holds r h.0).formed).within) (
        (omega arith, omega arith),
        within_append 46 (decimal b) (46 ∷ decimal t) (within_less 48 46 (decimal b) (omega arith) (decimal_within b (omega (arith, h.1, h.2))))
            ((omega arith, omega arith), within_less 48 46 (decimal t) (omega arith) (decimal_within t (omega (arith, h.2)))),
      )

  pub item_length : (i : Item ℕ) → SoundItem (length names) i → (2 ≤ length (item_text names i)) × (length (item_text names i) ≤ 22)
  item_length (constant v w) h =
      let p : 2 ^ w ≤ 2147483648 = power_small w h.1 in
      let lv : v ≤ 2147483647 = omega (arith, h.2) in
      let lw : w ≤ 2147483647 = omega (arith, h.1) in
      let e = length-append (decimal v) (46 ∷ decimal w) in
      (omega (arith, e, decimal_some v lv), omega (arith, e, decimal_long v lv, decimal_short w (omega (arith, h.1))))
  item_length (bits r b t) h =
      let n = name_bytes (get_or names r []) (name_at_holds r h.0).formed in
      let e = length-append (get_or names r []) (46 ∷ (decimal b ++ (46 ∷ decimal t))) in
      let f = length-append (decimal b) (46 ∷ decimal t) in
      (omega (arith, e, f), omega (arith, e, f, n.short, decimal_short b (omega (arith, h.1, h.2)), decimal_short t (omega (arith, h.2))))

  -- EXPRESSIONS

  -- all items
  every_item : (e : Expression ℕ) → All (SoundItem (length names)) e → every (map item (map (item_text names) e)) ≡ good (map (tell_item names) e)
  every_item [] h = refl
  every_item (i ∷ e) h = ap₂ front (item_reads_holds i h.0) (every_item e h.1)

  texts_without : (e : Expression ℕ) → All (SoundItem (length names)) e → All (Without 44) (map (item_text names) e)
  texts_without [] h = tt
  texts_without (i ∷ e) h = (without 44 46 (item_text names i) (omega arith) (item_within i h.0), texts_without e h.1)

  widths_told : (e : Expression ℕ) → sum (map width (map (tell_item names) e)) ≡ sum (map width e)
  widths_told [] = refl
  widths_told (constant v w ∷ e) = ap (λ x. w + x) (widths_told e)
  widths_told (bits r b t ∷ e) = ap (λ x. (suc t - b) + x) (widths_told e)

  split_items : (e : Expression ℕ) → 0 < length e → All (SoundItem (length names)) e → split 44 (expression_text names e) ≡ map (item_text names) e
  split_items [] p h = absurd (let z : 0 < 0 = p in omega arith)
  split_items (i ∷ e) p h = split_joined 44 (item_text names i) (map (item_text names) e) (texts_without (i ∷ e) h)

  pub expression_reads : (e : Expression ℕ) → SoundExpression (length names) e → expression (expression_text names e) ≡ good (map (tell_item names) e)
  expression_reads e h =
      bind_is (every (map item (split 44 (expression_text names e)))) _ (map (tell_item names) e) (map (tell_item names) e)
      (ap (λ ps. every (map item ps)) (split_items e h.some_item h.items) ∙ every_item e h.items)
      (bind_is (check (leb (sum (map width (map (tell_item names) e))) 31) 15) _ tt (map (tell_item names) e) (check_true _ 15 (le-leb _ 31 (omega (arith, widths_told e, h.narrow)))) refl)

  pub expression_within : (e : Expression ℕ) → All (SoundItem (length names)) e → Within 44 (expression_text names e)
  expression_within [] h = tt
  expression_within (i ∷ []) h = within_less 46 44 (item_text names i) (omega arith) (item_within i h.0)
  expression_within (i ∷ j ∷ e) h = within_append 44 (item_text names i) (44 ∷ expression_text names (j ∷ e)) (within_less 46 44 (item_text names i) (omega arith) (item_within i h.0)) ((omega arith, omega arith), expression_within (j ∷ e) h.1)

  spans_items : (e : Expression ℕ) → All (SoundItem (length names)) e → spans (map (item_text names) e) ≤ 23 * length e
  spans_items [] h = omega arith
  spans_items (i ∷ e) h = omega (arith, (item_length i h.0).1, spans_items e h.1)

  items_few : (e : Expression ℕ) → All (SoundItem (length names)) e → length e ≤ sum (map width e)
  items_few [] h = omega arith
  items_few (constant v w ∷ e) h = omega (arith, h.0.0, items_few e h.1)
  items_few (bits r b t ∷ e) h = omega (arith, h.0.1, items_few e h.1)

  pub expression_length : (e : Expression ℕ) → SoundExpression (length names) e → (2 ≤ length (expression_text names e)) × (length (expression_text names e) + 1 ≤ 23 * length e) × (length (expression_text names e) ≤ 1023)
  expression_length [] h = absurd (let z : 0 < 0 = h.some_item in omega arith)
  expression_length (i ∷ e) h =
      let j = joined_length 44 (item_text names i) (map (item_text names) e) in
      let l = item_length i h.items.0 in
      let s = spans_items (i ∷ e) h.items in
      let f = items_few (i ∷ e) h.items in
      (omega (arith, j, l.0), omega (arith, j, s), omega (arith, j, s, f, h.narrow))

  pub expression_field_holds : (t : Table) (e : Expression ℕ) → SoundExpression (length names) e → expression_field t (expression_text names e) ≡ good (map (tell_item names) e)
  expression_field_holds t e h =
      bind_is (field t (expression_text names e)) expression (expression_text names e) (map (tell_item names) e)
      (field_is t (expression_text names e) (within_less 44 33 (expression_text names e) (omega arith) (expression_within e h.items)) (expression_length e h).2)
      (expression_reads e h)
