-- What is read of the words that a listing writes for one part: that part, with its claims.
use Rattle.std.proofs.Common.{◌≡◌, ℕ, zero, suc, ◌+◌, ◌*◌, ◌<◌, ◌≤◌, true, false, ◌||◌, eqb, leb, List, [], ◌∷◌, ◌++◌, map, length, drop, decimal, sym, refl, ap, ◌∙◌, subst, arith}
use Rattle.std.proofs.lemmas.Bool.Decides.{nat_tests}
use lib.ListN.{length-map}
use Rattle.std.proofs.lemmas.Bool.{ne_eqb, le-leb, and_left, and_right, or_from}
use Rattle.std.proofs.lemmas.List.{drop-drop}
use Rattle.scan.specs.Names.{Bytes, same, all}
use Rattle.numbers.specs.Judged.{Judged, good, check}
use Rattle.numbers.specs.Numbers.{sum}
use Rattle.verdict.specs.Letters.{is_part_letter, is_stop}
use Rattle.verdict.specs.Items.{Expression}
use Rattle.verdict.specs.Macros.{Table, given, expression_field, number_field, size_field}
use Rattle.verdict.specs.Parts as parts
use Rattle.verdict.specs.Parts.{Body, alu, selector, memory, Part, Claim, a_name, some_items, some_words, Reading, reads, claims, judged, word_at, ends_at, expression_in, cases_from, has_case, numbers_from, read_part}
use Rattle.verdict.specs.Sections.{begins_macro}
use Rattle.verdict.specs.Verdict.{item_known}
use Rattle.verdict.specs.Listing.{expression_text, part_texts}
use Rattle.verdict.specs.Sound.{All, ProperName, SoundExpression, SoundBody, item_count, word_count}
use Rattle.verdict.proofs.Inversions.{check_true}
use Rattle.verdict.proofs.Readings.{made}
use Rattle.verdict.proofs.Alike.{claims_of, Reads, KnownItems}
use Rattle.verdict.proofs.Scans.{Within, within_less, spans, Solid}
use Rattle.verdict.proofs.Figures.{tell_item, decimal_figures, decimal_within, decimal_some, decimal_long, name_bytes, number_field_holds, size_field_holds, expression_within, expression_length, expression_field_holds}

-- READINGS

-- a reading that takes these claims and then reads x
pub data Gives {X : Type 0} : Reading X → List Claim → X → Type 0 where
  done : (x : X) → Gives (reads x) [] x
  more : (c : Claim) (i : ℕ) {r : Reading X} {cs : List Claim} {x : X} → Gives r cs x → Gives (claims c i r) (c ∷ cs) x

gives_bind : {X Y : Type 0} (r : Reading X) (f : X → Reading Y) {cs ds : List Claim} {x : X} {y : Y} → Gives r cs x → Gives (f x) ds y → Gives (parts.◌>>=◌ r f) (cs ++ ds) y
gives_bind r f (done x) h = h
gives_bind r f (more c i {r = q} g) h = more c i (gives_bind q f g h)

-- the last claims
gives_then : {X Y : Type 0} (r : Reading X) (f : X → Reading Y) {cs : List Claim} {x : X} {y : Y} → Gives r cs x → Gives (f x) [] y → Gives (parts.◌>>=◌ r f) cs y
gives_then r f (done x) h = h
gives_then r f (more c i {r = q} g) h = more c i (gives_then q f g h)

judged_gives : {X : Type 0} (i : ℕ) (j : Judged X) (x : X) → j ≡ good x → Gives (judged i j) [] x
judged_gives {X} i j x e = subst (λ (k : Judged X). Gives (judged i k) [] x) (sym e) (done x)

pub gives_reads : {X : Type 0} {r : Reading X} {cs : List Claim} {x : X} → Gives r cs x → Reads r
gives_reads (done x) = tt
gives_reads (more c i g) = gives_reads g

pub gives_claims : {X : Type 0} {r : Reading X} {cs : List Claim} {x : X} → Gives r cs x → claims_of r ≡ cs
gives_claims (done x) = refl
gives_claims (more c i g) = ap (λ ds. c ∷ ds) (gives_claims g)

pub gives_made : {r : Reading Part} {cs : List Claim} {x : Part} → Gives r cs x → made r ≡ x
gives_made (done x) = refl
gives_made (more c i g) = gives_made g

abbrev pub KnownClaim : List Bytes → Claim → Type 0
KnownClaim names (a_name n) = Unit {0}
KnownClaim names (some_items e) = all (item_known names) e ≡ true
KnownClaim names (some_words n) = Unit {0}

pub gives_known : {X : Type 0} (names : List Bytes) {r : Reading X} {cs : List Claim} {x : X} → Gives r cs x → All (KnownClaim names) cs → KnownItems names r
gives_known names (done x) h = tt
gives_known names (more (a_name n) i g) h = gives_known names g h.1
gives_known names (more (some_items e) i g) h = (check_true (all (item_known names) e) 22 h.0, gives_known names g h.1)
gives_known names (more (some_words n) i g) h = gives_known names g h.1

-- WORDS OF A PART

expression_in_gives : (t : Table) (w : Bytes) (i : ℕ) (e : Expression Bytes) → expression_field t w ≡ good e → Gives (expression_in t w i) (some_items e ∷ []) e
expression_in_gives t w i e h = gives_bind (judged i (expression_field t w)) _ (judged_gives i (expression_field t w) e h) (more (some_items e) i (done e))

word_at_gives : (ws : List Bytes) (i : ℕ) (w : Bytes) (rest : List Bytes) → drop i ws ≡ w ∷ rest → Gives (word_at ws i) [] w
word_at_gives [] zero w rest e = absurd (omega (arith, ap length e))
word_at_gives [] (suc i) w rest e = absurd (omega (arith, ap length e))
word_at_gives (x ∷ ws) zero w rest e = let s : x ≡ w = cc in subst (λ y. Gives (reads x) [] y) s (done x)
word_at_gives (x ∷ ws) (suc i) w rest e = word_at_gives ws i w rest e

numbers_gives : (t : Table) (ws : List Bytes) (i : ℕ) (vs : List ℕ) → All (λ v. v ≤ 2147483647) vs → drop i ws ≡ map decimal vs → Gives (numbers_from t ws i (length vs)) [] vs
numbers_gives t ws i [] h e = done []
numbers_gives t ws i (v ∷ vs) h e =
    gives_bind (word_at ws i) _ (word_at_gives ws i (decimal v) (map decimal vs) e)
    (gives_bind (judged i (number_field t (decimal v))) _ (judged_gives i (number_field t (decimal v)) v (number_field_holds t v h.0))
    (gives_then (numbers_from t ws (i + 1) (length vs)) _ (numbers_gives t ws (i + 1) vs h.1 (sym (drop-drop 1 i ws) ∙ ap (drop 1) e)) (done (v ∷ vs))))

has_case_gives : (ws : List Bytes) → 0 < length ws → Gives (has_case ws) [] tt
has_case_gives [] p = absurd (let z : 0 < 0 = p in omega arith)
has_case_gives (w ∷ ws) p = done tt

-- PARTS

abbrev pub tell_body : List Bytes → Body ℕ → Body Bytes
tell_body names (alu f l r) = alu (map (tell_item names) f) (map (tell_item names) l) (map (tell_item names) r)
tell_body names (selector s cs) = selector (map (tell_item names) s) (map (map (tell_item names)) cs)
tell_body names (memory a d o vs) = memory (map (tell_item names) a) (map (tell_item names) d) (map (tell_item names) o) vs

abbrev pub claims_for : Bytes → Body Bytes → List Claim
claims_for n (alu f l r) = a_name n ∷ some_items f ∷ some_items l ∷ some_items r ∷ []
claims_for n (selector s cs) = a_name n ∷ some_items s ∷ map some_items cs
claims_for n (memory a d o vs) = a_name n ∷ some_items a ∷ some_items d ∷ some_items o ∷ some_words (length vs) ∷ []

module _ (names : List Bytes) (proper : All ProperName names) (t : Table) where
  cases_give : (i : ℕ) (cs : List (Expression ℕ)) → All (SoundExpression (length names)) cs → i + length cs ≤ 131 →
      Gives (cases_from t i (map (expression_text names) cs)) (map some_items (map (map (tell_item names)) cs)) (map (map (tell_item names)) cs)
  cases_give i [] h l = done []
  cases_give i (c ∷ cs) h l =
      let e : Expression Bytes = map (tell_item names) c in
      gives_bind (expression_in t (expression_text names c) i) _ (expression_in_gives t (expression_text names c) i e (expression_field_holds names proper t c h.0))
      (gives_bind (judged i (check (leb i 130) 16)) _ (judged_gives i (check (leb i 130) 16) tt (check_true (leb i 130) 16 (le-leb i 130 (omega arith))))
      (gives_then (cases_from t (i + 1) (map (expression_text names) cs)) _ (cases_give (i + 1) cs h.1 (omega arith)) (done (e ∷ map (map (tell_item names)) cs))))

  pub part_gives : (n : Bytes) (b : Body ℕ) → SoundBody (length names) b → Gives (read_part t (part_texts names n b)) (claims_for n (tell_body names b)) (n, tell_body names b)
  part_gives n (alu f l r) h =
      more (a_name n) 1
      (gives_bind (expression_in t (expression_text names f) 2) _ (expression_in_gives t (expression_text names f) 2 (map (tell_item names) f) (expression_field_holds names proper t f h.function))
      (gives_bind (expression_in t (expression_text names l) 3) _ (expression_in_gives t (expression_text names l) 3 (map (tell_item names) l) (expression_field_holds names proper t l h.left))
      (gives_bind (expression_in t (expression_text names r) 4) _ (expression_in_gives t (expression_text names r) 4 (map (tell_item names) r) (expression_field_holds names proper t r h.right))
      (done (n, tell_body names (alu f l r))))))
  part_gives n (selector s cs) h =
      more (a_name n) 1
      (gives_bind (expression_in t (expression_text names s) 2) _ (expression_in_gives t (expression_text names s) 2 (map (tell_item names) s) (expression_field_holds names proper t s h.select))
      (gives_bind (has_case (map (expression_text names) cs)) _ (has_case_gives (map (expression_text names) cs) (omega (arith, length-map cs (expression_text names), h.some_case)))
      (gives_then (cases_from t 3 (map (expression_text names) cs)) _ (cases_give 3 cs h.cases (omega (arith, h.few_cases)))
      (done (n, tell_body names (selector s cs))))))
  part_gives n (memory a d o vs) h =
      let ws : List Bytes = part_texts names n (memory a d o vs) in
      more (a_name n) 1
      (gives_bind (expression_in t (expression_text names a) 2) _ (expression_in_gives t (expression_text names a) 2 (map (tell_item names) a) (expression_field_holds names proper t a h.address))
      (gives_bind (expression_in t (expression_text names d) 3) _ (expression_in_gives t (expression_text names d) 3 (map (tell_item names) d) (expression_field_holds names proper t d h.given))
      (gives_bind (expression_in t (expression_text names o) 4) _ (expression_in_gives t (expression_text names o) 4 (map (tell_item names) o) (expression_field_holds names proper t o h.operation))
      (gives_bind (judged 5 (size_field t (45 ∷ decimal (length vs)))) _ (judged_gives 5 (size_field t (45 ∷ decimal (length vs))) (given (length vs)) (size_field_holds t (length vs) h.some_word h.few_words))
      (more (some_words (length vs)) 5
      (gives_then (parts.◌>>=◌ (numbers_from t ws 6 (length vs)) (λ us. parts.◌>>=◌ (ends_at ws (6 + length vs)) (λ u. reads us))) _
      (gives_then (numbers_from t ws 6 (length vs)) _ (numbers_gives t ws 6 vs h.words refl)
      (gives_then (ends_at ws (6 + length vs)) _ (judged_gives (6 + length vs) (check (leb (length ws) (6 + length vs)) 11) tt (check_true _ 11 (le-leb (length ws) (6 + length vs) (omega (arith, length-map vs decimal))))) (done vs)))
      (done (n, tell_body names (memory a d o vs)))))))))

-- THE WORDS

-- a word that opens no part and no macro, and is no stop
pub record Fair (w : Bytes) : Type 0 where
  pub solid : Solid w
  pub no_letter : is_part_letter w ≡ false
  pub no_stop : is_stop w ≡ false

pub no_macro : (w : Bytes) → Solid w → begins_macro w ≡ false
no_macro [] h = refl
no_macro (b ∷ w) h = ne_eqb b 126 (λ e. omega (arith, h.bytes.0.1))

same_long : (w : Bytes) (c : ℕ) → 2 ≤ length w → same w (c ∷ []) ≡ false
same_long [] c l = refl
same_long (x ∷ []) c l = absurd (let z : 2 ≤ 1 = l in omega arith)
same_long (x ∷ y ∷ w) c l = and_right (eqb x c) false refl

same_first : (b : ℕ) (w : Bytes) (c : ℕ) → (b ≡ c → ⊥) → same (b ∷ w) (c ∷ []) ≡ false
same_first b w c h = and_left (eqb b c) (same w []) (ne_eqb b c h)

pub long_fair : (w : Bytes) → 2 ≤ length w → Within 33 w → Fair w
long_fair w l h = record {
  solid = record { some_byte = omega arith; bytes = h };
  no_letter = or_from (same w (65 ∷ []) || same w (83 ∷ [])) (same w (77 ∷ [])) (or_from (same w (65 ∷ [])) (same w (83 ∷ [])) (same_long w 65 l) (same_long w 83 l)) (same_long w 77 l);
  no_stop = same_long w 46 l;
}

stop_not : (w : Bytes) → Within 48 w → is_stop w ≡ false
stop_not [] h = refl
stop_not (b ∷ w) h = same_first b w 46 (λ e. omega (arith, h.0.0))

pub name_fair : (n : Bytes) → ProperName n → Fair n
name_fair n h =
    let b = name_bytes n h.formed in
    record { solid = record { some_byte = omega (arith, ap length b.is); bytes = within_less 48 33 n (omega arith) b.within }; no_letter = h.no_letter; no_stop = stop_not n b.within }

figures_letter : (ds : Bytes) → All (λ b. (48 ≤ b) × (b ≤ 57)) ds → is_part_letter ds ≡ false
figures_letter [] h = refl
figures_letter (b ∷ ds) h = let small : b ≤ 57 = h.0.1 in grind (arith, nat_tests)

pub decimal_fair : (n : ℕ) → n ≤ 2147483647 → Fair (decimal n)
decimal_fair n l = record {
  solid = record { some_byte = decimal_some n l; bytes = within_less 48 33 (decimal n) (omega arith) (decimal_within n l) };
  no_letter = figures_letter (decimal n) (decimal_figures n l);
  no_stop = stop_not (decimal n) (decimal_within n l);
}

decimals_fair : (vs : List ℕ) → All (λ v. v ≤ 2147483647) vs → All Fair (map decimal vs)
decimals_fair [] h = tt
decimals_fair (v ∷ vs) h = (decimal_fair v h.0, decimals_fair vs h.1)

decimals_spans : (vs : List ℕ) → All (λ v. v ≤ 2147483647) vs → spans (map decimal vs) ≤ 11 * length vs
decimals_spans [] h = omega arith
decimals_spans (v ∷ vs) h = omega (arith, decimal_long v h.0, decimals_spans vs h.1)

-- the letter of a part, and its other words
abbrev pub letter_of : Body ℕ → Bytes
letter_of (alu f l r) = 65 ∷ []
letter_of (selector s cs) = 83 ∷ []
letter_of (memory a d o vs) = 77 ∷ []

abbrev pub inner_of : List Bytes → Bytes → Body ℕ → List Bytes
inner_of names n (alu f l r) = n ∷ map (expression_text names) (f ∷ l ∷ r ∷ [])
inner_of names n (selector s cs) = n ∷ map (expression_text names) (s ∷ cs)
inner_of names n (memory a d o vs) = n ∷ (map (expression_text names) (a ∷ d ∷ o ∷ []) ++ ((45 ∷ decimal (length vs)) ∷ map decimal vs))

pub texts_are : (names : List Bytes) (n : Bytes) (b : Body ℕ) → letter_of b ∷ inner_of names n b ≡ part_texts names n b
texts_are names n (alu f l r) = refl
texts_are names n (selector s cs) = refl
texts_are names n (memory a d o vs) = refl

pub letter_opens : (b : Body ℕ) → is_part_letter (letter_of b) ≡ true
letter_opens (alu f l r) = refl
letter_opens (selector s cs) = refl
letter_opens (memory a d o vs) = refl

pub letter_solid : (b : Body ℕ) → Solid (letter_of b)
letter_solid (alu f l r) = record { some_byte = omega arith; bytes = ((omega arith, omega arith), tt) }
letter_solid (selector s cs) = record { some_byte = omega arith; bytes = ((omega arith, omega arith), tt) }
letter_solid (memory a d o vs) = record { some_byte = omega arith; bytes = ((omega arith, omega arith), tt) }

pub letter_no_stop : (b : Body ℕ) → is_stop (letter_of b) ≡ false
letter_no_stop (alu f l r) = refl
letter_no_stop (selector s cs) = refl
letter_no_stop (memory a d o vs) = refl

module _ (names : List Bytes) (proper : All ProperName names) where
  expression_fair : (e : Expression ℕ) → SoundExpression (length names) e → Fair (expression_text names e)
  expression_fair e h = long_fair (expression_text names e) (expression_length names proper e h).0 (within_less 44 33 (expression_text names e) (omega arith) (expression_within names proper e h.items))

  expressions_fair : (es : List (Expression ℕ)) → All (SoundExpression (length names)) es → All Fair (map (expression_text names) es)
  expressions_fair [] h = tt
  expressions_fair (e ∷ es) h = (expression_fair e h.0, expressions_fair es h.1)

  expressions_spans : (es : List (Expression ℕ)) → All (SoundExpression (length names)) es → spans (map (expression_text names) es) ≤ 23 * sum (map (λ e. length e) es)
  expressions_spans [] h = omega arith
  expressions_spans (e ∷ es) h = omega (arith, (expression_length names proper e h.0).1, expressions_spans es h.1)

  size_fair : (k : ℕ) → k ≤ 4096 → Fair (45 ∷ decimal k)
  size_fair k l = long_fair (45 ∷ decimal k) (omega (arith, decimal_some k (omega arith))) ((omega arith, omega arith), within_less 48 33 (decimal k) (omega arith) (decimal_within k (omega arith)))

  pub inner_fair : (n : Bytes) (b : Body ℕ) → ProperName n → SoundBody (length names) b → All Fair (inner_of names n b)
  inner_fair n (alu f l r) p h = (name_fair n p, (expression_fair f h.function, (expression_fair l h.left, (expression_fair r h.right, tt))))
  inner_fair n (selector s cs) p h = (name_fair n p, (expression_fair s h.select, expressions_fair cs h.cases))
  inner_fair n (memory a d o vs) p h = (name_fair n p, (expression_fair a h.address, (expression_fair d h.given, (expression_fair o h.operation, (size_fair (length vs) h.few_words, decimals_fair vs h.words)))))

  pub part_spans : (n : Bytes) (b : Body ℕ) → ProperName n → SoundBody (length names) b → spans (part_texts names n b) ≤ 31 + (23 * item_count b + 11 * word_count b)
  part_spans n (alu f l r) p h = omega (arith, (name_bytes n p.formed).short, expressions_spans (f ∷ l ∷ r ∷ []) (h.function, (h.left, (h.right, tt))))
  part_spans n (selector s cs) p h = omega (arith, (name_bytes n p.formed).short, expressions_spans (s ∷ cs) (h.select, h.cases))
  part_spans n (memory a d o vs) p h = omega (arith, (name_bytes n p.formed).short, expressions_spans (a ∷ d ∷ o ∷ []) (h.address, (h.given, (h.operation, tt))), decimal_long (length vs) (omega (arith, h.few_words)), decimals_spans vs h.words)
