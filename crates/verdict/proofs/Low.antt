-- No refusal but that of circles has the number 23: every other is given by a number below it.
use Rattle.std.proofs.Common.{◌≡◌, ℕ, zero, suc, ◌+◌, ◌*◌, ◌<◌, Bool, true, false, cond, not, ◌&&◌, eqb, ltb, leb, List, [], ◌∷◌, ◌++◌, map, length, drop, subst, arith}
use Rattle.scan.specs.Names.{Bytes, is_name, among, all}
use Rattle.scan.specs.Words.{Word, texts}
use Rattle.numbers.specs.Judged as judging
use Rattle.numbers.specs.Judged.{Judged, good, bad, check, both, front, every}
use Rattle.numbers.specs.Splits.{split}
use Rattle.numbers.specs.Numbers.{sum, digit_value, digits_after, digits, word_of, power, term_value, term, number, binary_value}
use Rattle.verdict.specs.Letters.{is_part_letter}
use Rattle.verdict.specs.Items.{width, low_bits, bits_of, binary_item, number_item, name_item, begins_number, item, expression}
use Rattle.verdict.specs.Macros.{Table, names_of, finished, filled, all_known, field, expression_field, number_field, Size, zeros, given, size_number, size, size_field}
use Rattle.verdict.specs.Parts as parts
use Rattle.verdict.specs.Parts.{Claim, a_name, some_items, some_words, Reading, reads, refuses, lacks, claims, judged, word_at, ends_at, name_at, expression_in, expression_at, cases_from, has_case, numbers_from, first_words, Kind, an_alu, a_selector, a_memory, none, kind_of, read_kind, read_part}
use Rattle.verdict.specs.Limits.{new_name, Taken, nothing, taking}
use Rattle.verdict.specs.Sections.{Next, word_from, text_end, Sections, sections}
use Rattle.verdict.specs.Circles.{on_circle}
use Rattle.verdict.specs.Circuit.{sorted}
use Rattle.verdict.specs.Verdict as verdicts
use Rattle.verdict.specs.Verdict.{Read, read, refuse, at, refuse_first, stop_at, macro_name, check_macro_names, macro_table, macro_places, macro_needs, places, check_macros, entry, check_list, place_in, next_word, missing, settle, read_parts, list_places, part_places, check_among, item_known, check_items, check_expressions, check_whole, drawn_parts, drawn_from, if_short, drawn}

-- WORDS

abbrev LowJ : {X : Type 0} → Judged X → Type 0
LowJ (good x) = Unit {0}
LowJ (bad n) = n < 23

bind_j : {X Y : Type 0} (m : Judged X) (f : X → Judged Y) → LowJ m → ((x : X) → LowJ (f x)) → LowJ (judging.◌>>=◌ m f)
bind_j (good x) f l h = h x
bind_j (bad n) f l h = l

check_j : (b : Bool) (n : ℕ) → n < 23 → LowJ (check b n)
check_j true n l = tt
check_j false n l = l

cond_j : {X : Type 0} (b : Bool) (x y : Judged X) → LowJ x → LowJ y → LowJ (cond b x y)
cond_j true x y l m = l
cond_j false x y l m = m

both_j : {X Y : Type 0} (x : Judged X) (y : Judged Y) → LowJ x → LowJ y → LowJ (both x y)
both_j (good x) (good y) l m = tt
both_j (good x) (bad n) l m = m
both_j (bad n) (good y) l m = l
both_j (bad n) (bad k) l m = omega arith

front_j : {X : Type 0} (x : Judged X) (y : Judged (List X)) → LowJ x → LowJ y → LowJ (front x y)
front_j (good x) (good y) l m = tt
front_j (good x) (bad n) l m = m
front_j (bad n) (good y) l m = l
front_j (bad n) (bad k) l m = omega arith

every_j : {X Y : Type 0} (f : X → Judged Y) → ((x : X) → LowJ (f x)) → (xs : List X) → LowJ (every (map f xs))
every_j f h [] = tt
every_j f h (x ∷ xs) = front_j (f x) (every (map f xs)) (h x) (every_j f h xs)

digits_after_j : (base n : ℕ) (bs : Bytes) → LowJ (digits_after base n bs)
digits_after_j base n [] = tt
digits_after_j base n (b ∷ bs) = bind_j (check (ltb (digit_value b) base) 11) _ (check_j _ 11 (omega arith)) (λ u. digits_after_j base (n * base + digit_value b) bs)

digits_j : (base : ℕ) (bs : Bytes) → LowJ (digits base bs)
digits_j base [] = omega arith
digits_j base (b ∷ bs) = digits_after_j base 0 (b ∷ bs)

word_of_j : (n : ℕ) → LowJ (word_of n)
word_of_j n = bind_j (check (leb n 2147483647) 13) _ (check_j _ 13 (omega arith)) (λ u. tt)

power_j : (bs : Bytes) → LowJ (power bs)
power_j bs = bind_j (digits 10 bs) _ (digits_j 10 bs) (λ k. tt)

term_value_j : (bs : Bytes) → LowJ (term_value bs)
term_value_j [] = omega arith
term_value_j (b ∷ bs) = cond_j (eqb b 37) _ _ (digits_j 2 bs) (cond_j (eqb b 36) _ _ (digits_j 16 bs) (cond_j (eqb b 94) _ _ (power_j bs) (digits_j 10 (b ∷ bs))))

term_j : (bs : Bytes) → LowJ (term bs)
term_j bs = bind_j (term_value bs) _ (term_value_j bs) word_of_j

number_j : (bs : Bytes) → LowJ (number bs)
number_j bs = bind_j (every (map term (split 43 bs))) _ (every_j term term_j (split 43 bs)) (λ ns. word_of_j (sum ns))

low_bits_j : (v w : ℕ) → LowJ (low_bits v w)
low_bits_j v w = bind_j (check (leb 1 w && leb w 31) 14) _ (check_j _ 14 (omega arith)) (λ u. tt)

bits_of_j : (n : Bytes) (b t : ℕ) → LowJ (bits_of n b t)
bits_of_j n b t = bind_j (check (leb b t && leb t 30) 14) _ (check_j _ 14 (omega arith)) (λ u. tt)

binary_value_j : (ds : Bytes) → LowJ (binary_value ds)
binary_value_j ds = bind_j (digits 2 ds) _ (digits_j 2 ds) (λ v. bind_j (check (leb (length ds) 31) 14) _ (check_j _ 14 (omega arith)) (λ u. tt))

binary_item_j : (ds : Bytes) → LowJ (binary_item ds)
binary_item_j ds = bind_j (binary_value ds) _ (binary_value_j ds) (λ v. tt)

number_item_j : (ps : List Bytes) → LowJ (number_item ps)
number_item_j [] = omega arith
number_item_j (n ∷ []) = bind_j (number n) _ (number_j n) (λ v. tt)
number_item_j (n ∷ w ∷ []) = bind_j (both (number n) (number w)) _ (both_j (number n) (number w) (number_j n) (number_j w)) (λ vw. low_bits_j vw.0 vw.1)
number_item_j (n ∷ w ∷ x ∷ xs) = omega arith

name_item_j : (ps : List Bytes) → LowJ (name_item ps)
name_item_j [] = omega arith
name_item_j (n ∷ []) = bind_j (check (is_name n) 11) _ (check_j _ 11 (omega arith)) (λ u. tt)
name_item_j (n ∷ b ∷ []) = bind_j (check (is_name n) 11) _ (check_j _ 11 (omega arith)) (λ u. bind_j (number b) _ (number_j b) (λ v. bits_of_j n v v))
name_item_j (n ∷ b ∷ t ∷ []) = bind_j (check (is_name n) 11) _ (check_j _ 11 (omega arith)) (λ u. bind_j (both (number b) (number t)) _ (both_j (number b) (number t) (number_j b) (number_j t)) (λ bt. bits_of_j n bt.0 bt.1))
name_item_j (n ∷ b ∷ t ∷ x ∷ xs) = omega arith

item_j : (t : Bytes) → LowJ (item t)
item_j [] = omega arith
item_j (c ∷ cs) = cond_j (eqb c 35) _ _ (binary_item_j cs) (cond_j (begins_number c) _ _ (number_item_j (split 46 (c ∷ cs))) (name_item_j (split 46 (c ∷ cs))))

expression_j : (t : Bytes) → LowJ (expression t)
expression_j t = bind_j (every (map item (split 44 t))) _ (every_j item item_j (split 44 t)) (λ es. bind_j (check (leb (sum (map width es)) 31) 15) _ (check_j _ 15 (omega arith)) (λ u. tt))

field_j : (t : Table) (w : Bytes) → LowJ (field t w)
field_j t w = bind_j (check (all_known (names_of t) w) 18) _ (check_j _ 18 (omega arith)) (λ u. bind_j (check (leb (length (filled t w)) 1023) 16) _ (check_j _ 16 (omega arith)) (λ v. tt))

expression_field_j : (t : Table) (w : Bytes) → LowJ (expression_field t w)
expression_field_j t w = bind_j (field t w) _ (field_j t w) expression_j

number_field_j : (t : Table) (w : Bytes) → LowJ (number_field t w)
number_field_j t w = bind_j (field t w) _ (field_j t w) number_j

size_number_j : (t : Bytes) → LowJ (size_number t)
size_number_j t = bind_j (number t) _ (number_j t) (λ n. bind_j (check (leb 1 n && leb n 4096) 14) _ (check_j _ 14 (omega arith)) (λ u. tt))

size_j : (t : Bytes) → LowJ (size t)
size_j [] = omega arith
size_j (c ∷ cs) = cond_j (eqb c 45) _ _ (bind_j (size_number cs) _ (size_number_j cs) (λ n. tt)) (bind_j (size_number (c ∷ cs)) _ (size_number_j (c ∷ cs)) (λ n. tt))

size_field_j : (t : Table) (w : Bytes) → LowJ (size_field t w)
size_field_j t w = bind_j (field t w) _ (field_j t w) size_j

new_name_j : (met : List Bytes) (n : Bytes) → LowJ (new_name met n)
new_name_j met n = bind_j (check (is_name n) 11) _ (check_j _ 11 (omega arith)) (λ u. bind_j (check (ltb (length met) 64) 16) _ (check_j _ 16 (omega arith)) (λ v. check_j (not (among met n)) 17 (omega arith)))

taking_j : (k : Taken) (c : Claim) → LowJ (taking k c)
taking_j k (a_name n) = bind_j (new_name k.names n) _ (new_name_j k.names n) (λ u. tt)
taking_j k (some_items e) = bind_j (check (leb (k.items + length e) 2048) 16) _ (check_j _ 16 (omega arith)) (λ u. tt)
taking_j k (some_words n) = bind_j (check (leb (k.memory + n) 4096) 16) _ (check_j _ 16 (omega arith)) (λ u. tt)

-- PARTS

abbrev LowR : {X : Type 0} → Reading X → Type 0
LowR (reads x) = Unit {0}
LowR (refuses n i) = n < 23
LowR (lacks n) = n < 23
LowR (claims c i r) = LowR r

bind_r : {X Y : Type 0} (r : Reading X) (f : X → Reading Y) → LowR r → ((x : X) → LowR (f x)) → LowR (parts.◌>>=◌ r f)
bind_r (reads x) f l h = h x
bind_r (refuses n i) f l h = l
bind_r (lacks n) f l h = l
bind_r (claims c i r) f l h = bind_r r f l h

judged_r : {X : Type 0} (i : ℕ) (j : Judged X) → LowJ j → LowR (judged i j)
judged_r i (good x) l = tt
judged_r i (bad n) l = l

word_at_r : (ws : List Bytes) (i : ℕ) → LowR (word_at ws i)
word_at_r [] i = omega arith
word_at_r (w ∷ ws) zero = tt
word_at_r (w ∷ ws) (suc i) = word_at_r ws i

ends_at_r : (ws : List Bytes) (i : ℕ) → LowR (ends_at ws i)
ends_at_r ws i = judged_r i (check (leb (length ws) i) 11) (check_j _ 11 (omega arith))

name_at_r : (ws : List Bytes) (i : ℕ) → LowR (name_at ws i)
name_at_r ws i = bind_r (word_at ws i) _ (word_at_r ws i) (λ w. tt)

expression_in_r : (t : Table) (w : Bytes) (i : ℕ) → LowR (expression_in t w i)
expression_in_r t w i = bind_r (judged i (expression_field t w)) _ (judged_r i (expression_field t w) (expression_field_j t w)) (λ e. tt)

expression_at_r : (t : Table) (ws : List Bytes) (i : ℕ) → LowR (expression_at t ws i)
expression_at_r t ws i = bind_r (word_at ws i) _ (word_at_r ws i) (λ w. expression_in_r t w i)

cases_from_r : (t : Table) (i : ℕ) (ws : List Bytes) → LowR (cases_from t i ws)
cases_from_r t i [] = tt
cases_from_r t i (w ∷ ws) =
    bind_r (expression_in t w i) _ (expression_in_r t w i) (λ e.
    bind_r (judged i (check (leb i 130) 16)) _ (judged_r i _ (check_j (leb i 130) 16 (omega arith))) (λ u.
    bind_r (cases_from t (i + 1) ws) _ (cases_from_r t (i + 1) ws) (λ es. tt)))

has_case_r : (ws : List Bytes) → LowR (has_case ws)
has_case_r [] = omega arith
has_case_r (w ∷ ws) = tt

numbers_from_r : (t : Table) (ws : List Bytes) (i k : ℕ) → LowR (numbers_from t ws i k)
numbers_from_r t ws i zero = tt
numbers_from_r t ws i (suc k) =
    bind_r (word_at ws i) _ (word_at_r ws i) (λ w.
    bind_r (judged i (number_field t w)) _ (judged_r i (number_field t w) (number_field_j t w)) (λ v.
    bind_r (numbers_from t ws (i + 1) k) _ (numbers_from_r t ws (i + 1) k) (λ vs. tt)))

first_words_r : (t : Table) (ws : List Bytes) (s : Size) → LowR (first_words t ws s)
first_words_r t ws (zeros n) = bind_r (ends_at ws 6) _ (ends_at_r ws 6) (λ u. tt)
first_words_r t ws (given n) = bind_r (numbers_from t ws 6 n) _ (numbers_from_r t ws 6 n) (λ vs. bind_r (ends_at ws (6 + n)) _ (ends_at_r ws (6 + n)) (λ u. tt))

read_kind_r : (k : Kind) (t : Table) (ws : List Bytes) → LowR (read_kind k t ws)
read_kind_r none t ws = omega arith
read_kind_r an_alu t ws =
    bind_r (name_at ws 1) _ (name_at_r ws 1) (λ n.
    bind_r (expression_at t ws 2) _ (expression_at_r t ws 2) (λ f.
    bind_r (expression_at t ws 3) _ (expression_at_r t ws 3) (λ l.
    bind_r (expression_at t ws 4) _ (expression_at_r t ws 4) (λ r.
    bind_r (ends_at ws 5) _ (ends_at_r ws 5) (λ u. tt)))))
read_kind_r a_selector t ws =
    bind_r (name_at ws 1) _ (name_at_r ws 1) (λ n.
    bind_r (expression_at t ws 2) _ (expression_at_r t ws 2) (λ s.
    bind_r (has_case (drop 3 ws)) _ (has_case_r (drop 3 ws)) (λ u.
    bind_r (cases_from t 3 (drop 3 ws)) _ (cases_from_r t 3 (drop 3 ws)) (λ cs. tt))))
read_kind_r a_memory t ws =
    bind_r (name_at ws 1) _ (name_at_r ws 1) (λ n.
    bind_r (expression_at t ws 2) _ (expression_at_r t ws 2) (λ a.
    bind_r (expression_at t ws 3) _ (expression_at_r t ws 3) (λ d.
    bind_r (expression_at t ws 4) _ (expression_at_r t ws 4) (λ o.
    bind_r (word_at ws 5) _ (word_at_r ws 5) (λ w.
    bind_r (judged 5 (size_field t w)) _ (judged_r 5 (size_field t w) (size_field_j t w)) (λ s.
    bind_r (first_words t ws s) _ (first_words_r t ws s) (λ vs. tt)))))))

read_part_r : (t : Table) (ws : List Bytes) → LowR (read_part t ws)
read_part_r t [] = omega arith
read_part_r t (w ∷ ws) = read_kind_r (kind_of w) t (w ∷ ws)

-- TEXTS

abbrev pub Low : {X : Type 0} → Read X → Type 0
Low (read x) = Unit {0}
Low (refuse n p) = n < 23

bind_l : {X Y : Type 0} (m : Read X) (f : X → Read Y) → Low m → ((x : X) → Low (f x)) → Low (verdicts.◌>>=◌ m f)
bind_l (read x) f l h = h x
bind_l (refuse n p) f l h = l

at_l : {X : Type 0} (p : ℕ) (j : Judged X) → LowJ j → Low (at p j)
at_l p (good x) l = tt
at_l p (bad n) l = l

cond_l : {X : Type 0} (b : Bool) (x y : Read X) → Low x → Low y → Low (cond b x y)
cond_l true x y l m = l
cond_l false x y l m = m

refuse_first_l : (n : ℕ) (fs : List Bool) (ps : List ℕ) → n < 23 → Low (refuse_first n fs ps)
refuse_first_l n [] ps l = tt
refuse_first_l n (f ∷ fs) [] l = tt
refuse_first_l n (f ∷ fs) (p ∷ ps) l = cond_l f (refuse n p) (refuse_first n fs ps) l (refuse_first_l n fs ps l)

stop_at_l : (x : Next) → Low (stop_at x)
stop_at_l (word_from p) = tt
stop_at_l (text_end p) = omega arith

check_macro_names_l : (met : List Bytes) (ws : List Word) → Low (check_macro_names met ws)
check_macro_names_l met [] = tt
check_macro_names_l met (w ∷ ws) =
    bind_l (at w.at (new_name met (macro_name w.text))) _ (at_l w.at (new_name met (macro_name w.text)) (new_name_j met (macro_name w.text))) (λ u. check_macro_names_l (macro_name w.text ∷ met) ws)

check_macros_l : (t : Table) (ps : List ℕ) → Low (check_macros t ps)
check_macros_l t ps =
    bind_l (refuse_first 18 (map (λ m. not (all_known (names_of t) m.1)) t) ps) _ (refuse_first_l 18 (map (λ m. not (all_known (names_of t) m.1)) t) ps (omega arith)) (λ u.
    refuse_first_l 19 (on_circle (length t) (macro_needs t)) ps (omega arith))

check_list_l : (met : List Bytes) (ws : List Word) → Low (check_list met ws)
check_list_l met [] = tt
check_list_l met (w ∷ ws) =
    bind_l (at w.at (check (not (is_part_letter w.text)) 11)) _ (at_l w.at (check (not (is_part_letter w.text)) 11) (check_j (not (is_part_letter w.text)) 11 (omega arith))) (λ u.
    bind_l (at w.at (new_name met (entry w.text).0)) _ (at_l w.at (new_name met (entry w.text).0) (new_name_j met (entry w.text).0)) (λ v. check_list_l ((entry w.text).0 ∷ met) ws))

missing_l : (X : Type 0) (n : ℕ) (x : Next) → n < 23 → Low (missing {X = X} n x)
missing_l X n (word_from p) l = l
missing_l X n (text_end p) l = omega arith

settle_l : {X : Type 0} (ws : List Word) (next : Next) (k : Taken) (r : Reading X) → LowR r → Low (settle ws next k r)
settle_l {X} ws next k (reads x) l = tt
settle_l {X} ws next k (refuses n i) l = l
settle_l {X} ws next k (lacks n) l = missing_l (X × Taken) n next l
settle_l {X} ws next k (claims c i r) l = bind_l (at (place_in ws i) (taking k c)) _ (at_l (place_in ws i) (taking k c) (taking_j k c)) (λ k'. settle_l ws next k' r l)

read_parts_l : (t : Table) (end : Next) (k : Taken) (gs : List (List Word)) → Low (read_parts t end k gs)
read_parts_l t end k [] = tt
read_parts_l t end k (ws ∷ more) =
    bind_l (settle ws (next_word more end) k (read_part t (texts ws))) _ (settle_l ws (next_word more end) k (read_part t (texts ws)) (read_part_r t (texts ws))) (λ pk.
    bind_l (read_parts t end pk.1 more) _ (read_parts_l t end pk.1 more) (λ ps. tt))

check_items_l : {X : Type 0} (names : List Bytes) (ws : List Word) (r : Reading X) → Low (check_items names ws r)
check_items_l names ws (reads x) = tt
check_items_l names ws (refuses n i) = tt
check_items_l names ws (lacks n) = tt
check_items_l names ws (claims (a_name n) i r) = check_items_l names ws r
check_items_l names ws (claims (some_items e) i r) =
    bind_l (at (place_in ws i) (check (all (item_known names) e) 22)) _ (at_l (place_in ws i) (check (all (item_known names) e) 22) (check_j (all (item_known names) e) 22 (omega arith))) (λ u. check_items_l names ws r)
check_items_l names ws (claims (some_words n) i r) = check_items_l names ws r

check_expressions_l : (t : Table) (names : List Bytes) (gs : List (List Word)) → Low (check_expressions t names gs)
check_expressions_l t names [] = tt
check_expressions_l t names (ws ∷ more) = bind_l (check_items names ws (read_part t (texts ws))) _ (check_items_l names ws (read_part t (texts ws))) (λ u. check_expressions_l t names more)

check_among_l : (n : ℕ) (others : List Bytes) (es : List (Bytes × ℕ)) → n < 23 → Low (check_among n others es)
check_among_l n others es l = refuse_first_l n (map (λ e. not (among others e.0)) es) (places es) l

check_whole_l : (t : Table) (s : Sections) (ls ps : List (Bytes × ℕ)) → Low (check_whole t s ls ps)
check_whole_l t s ls ps =
    bind_l (check_among 20 (names_of ps) ls) _ (check_among_l 20 (names_of ps) ls (omega arith)) (λ u.
    bind_l (check_among 21 (names_of ls) ps) _ (check_among_l 21 (names_of ls) ps (omega arith)) (λ v. check_expressions_l t (names_of ps) s.parts))

drawn_parts_l : (t : Table) (s : Sections) → Low (drawn_parts t s)
drawn_parts_l t s =
    bind_l (read_parts t s.after_parts nothing s.parts) _ (read_parts_l t s.after_parts nothing s.parts) (λ ps.
    bind_l (stop_at s.after_parts) _ (stop_at_l s.after_parts) (λ stop.
    bind_l (check_whole t s (list_places s.listed) (part_places s.parts)) _ (check_whole_l t s (list_places s.listed) (part_places s.parts)) (λ u. tt)))

drawn_from_l : (s : Sections) → Low (drawn_from s)
drawn_from_l s =
    bind_l (check_macro_names [] (map (λ m. m.0) s.macros ++ s.half)) _ (check_macro_names_l [] (map (λ m. m.0) s.macros ++ s.half)) (λ u.
    bind_l (check_macros (sorted (macro_table s.macros)) (places (macro_places s.macros))) _ (check_macros_l (sorted (macro_table s.macros)) (places (macro_places s.macros))) (λ v.
    bind_l (check_list [] s.listed) _ (check_list_l [] s.listed) (λ w.
    bind_l (stop_at s.after_list) _ (stop_at_l s.after_list) (λ p. drawn_parts_l (finished (macro_table s.macros)) s))))

if_short_l : (b : Bool) (t : Bytes) → Low (if_short b t)
if_short_l true t = drawn_from_l (sections t)
if_short_l false t = omega arith

pub drawn_low : (t : Bytes) → Low (drawn t)
drawn_low t = if_short_l (leb (length t) 131072) t

pub refused_low : (t : Bytes) (n p : ℕ) → drawn t ≡ refuse n p → n < 23
refused_low t n p e = subst Low e (drawn_low t)
