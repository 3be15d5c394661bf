-- Macros that meet no refusal fall: each uses only macros that reach fewer. So all uses are put in.
use Rattle.std.proofs.Common.{◌≡◌, ℕ, suc, ◌<◌, Bool, true, false, cond, not, ◌||◌, List, [], ◌∷◌, ◌++◌, map, length, get_or, take, sym, refl, ap, ◌∙◌, subst, ap₂, ⊎_elim, arith}
use lib.ListN.{length-map}
use Rattle.std.proofs.lemmas.Bool.{false≢true, both_ways, or_cases, or_parts, not-false, cond-true, cond-false}
use Rattle.std.proofs.lemmas.List.{get_or-map}
use Rattle.graph.specs.Reach.{reaches, rank}
use Rattle.graph.proofs.Circles.{rank_falls}
use Rattle.graph.proofs.Counts.{count_short}
use Rattle.scan.specs.Names.{Bytes, same, before, among}
use Rattle.scan.specs.Words.{Word}
use Rattle.verdict.specs.Macros.{pieces, Table, names_of, text_of, put_in, filled, finished, all_known, uses_of, uses_macro}
use Rattle.verdict.specs.Limits.{new_name}
use Rattle.verdict.specs.Circles.{on_circle}
use Rattle.verdict.specs.Circuit.{insert, sorted, rank_in}
use Rattle.verdict.specs.Verdict.{read, at, refuse_first, macro_name, check_macro_names, macro_table, macro_places, macro_needs, places, check_macros}
use Rattle.verdict.specs.Written.{Writes, MacrosPutIn}
use Rattle.verdict.proofs.Orders.{same_eq, not_same, Distinct, or_swap}
use Rattle.verdict.proofs.Inversions.{bind_read, at_read}
use Rattle.verdict.proofs.Readings.{Apart, apart_distinct, name_new}
use Rattle.verdict.proofs.Circular.{first_read, flag, flags_length, length_sorted}
use Rattle.verdict.proofs.Putting.{full, filled_full, known_use, Falls, all_written, one_text}

-- SORTED TABLES SAY THE SAME

among_insert : {X : Type 0} (e : Bytes × X) (es : List (Bytes × X)) (n : Bytes) → among (names_of (insert e es)) n ≡ (same e.0 n || among (names_of es) n)
among_insert e [] n = refl
among_insert {X} e (x ∷ es) n = by (before e.0 x.0) (among_insert e es n)
  where
    by : (b : Bool) → among (names_of (insert e es)) n ≡ (same e.0 n || among (names_of es) n) → among (names_of (cond b (e ∷ x ∷ es) (x ∷ insert e es))) n ≡ (same e.0 n || (same x.0 n || among (names_of es) n))
    by true h = refl
    by false h = ap (λ b. same x.0 n || b) h ∙ or_swap (same x.0 n) (same e.0 n) (among (names_of es) n)

pub among_sorted : {X : Type 0} (es : List (Bytes × X)) (n : Bytes) → among (names_of (sorted es)) n ≡ among (names_of es) n
among_sorted [] n = refl
among_sorted (e ∷ es) n = among_insert e (sorted es) n ∙ ap (λ b. same e.0 n || b) (among_sorted es n)

-- two different names are not both n
swap_cond : (a b : Bool) (x y z : Bytes) → (a ≡ true → b ≡ true → ⊥) → cond a x (cond b y z) ≡ cond b y (cond a x z)
swap_cond true true x y z h = absurd (h refl refl)
swap_cond true false x y z h = refl
swap_cond false true x y z h = refl
swap_cond false false x y z h = refl

text_of_insert : (e : Bytes × Bytes) (es : Table) (n : Bytes) → among (names_of es) e.0 ≡ false → text_of (insert e es) n ≡ cond (same e.0 n) e.1 (text_of es n)
text_of_insert e [] n h = refl
text_of_insert e (x ∷ es) n h = by (before e.0 x.0) (text_of_insert e es n (or_parts (same x.0 e.0) (among (names_of es) e.0) h).1)
  where
    by : (b : Bool) → text_of (insert e es) n ≡ cond (same e.0 n) e.1 (text_of es n) → text_of (cond b (e ∷ x ∷ es) (x ∷ insert e es)) n ≡ cond (same e.0 n) e.1 (cond (same x.0 n) x.1 (text_of es n))
    by true k = refl
    by false k =
        ap (λ z. cond (same x.0 n) x.1 z) k
        ∙ swap_cond (same x.0 n) (same e.0 n) x.1 e.1 (text_of es n)
        (λ p q. not_same x.0 e.0 (or_parts (same x.0 e.0) (among (names_of es) e.0) h).0 (same_eq x.0 n p ∙ sym (same_eq e.0 n q)))

pub text_of_sorted : (es : Table) → Distinct (names_of es) → (n : Bytes) → text_of (sorted es) n ≡ text_of es n
text_of_sorted [] d n = refl
text_of_sorted (e ∷ es) d n = text_of_insert e (sorted es) n (among_sorted es e.0 ∙ d.0) ∙ ap (λ z. cond (same e.0 n) e.1 z) (text_of_sorted es d.1 n)

-- A NAME'S PLACE

-- what stands in a table at the place of a name
pub record Stands (t : Table) (n : Bytes) (i : ℕ) : Type 0 where
  pub within : i < length t
  pub name : (get_or t i ([], [])).0 ≡ n
  pub text : (get_or t i ([], [])).1 ≡ text_of t n

pub stands : (t : Table) (n : Bytes) → among (names_of t) n ≡ true → Stands t n (rank_in (names_of t) n)
stands [] n h = absurd (false≢true h)
stands (e ∷ es) n h = by (same e.0 n) refl (λ g. stands es n g)
  where
    by : (b : Bool) → same e.0 n ≡ b → (among (names_of es) n ≡ true → Stands es n (rank_in (names_of es) n)) → Stands (e ∷ es) n (cond b 0 (suc (rank_in (names_of es) n)))
    by true q k = record { within = omega arith; name = same_eq e.0 n q; text = sym (cond-true (same e.0 n) e.1 (text_of es n) q) }
    by false q k =
        let s = k (⊎_elim (λ y. absurd (both_ways (same e.0 n) q y)) (λ y. y) (or_cases (same e.0 n) (among (names_of es) n) h)) in
        record { within = omega (arith, s.within); name = s.name; text = s.text ∙ sym (cond-false (same e.0 n) e.1 (text_of es n) q) }

-- FALLING

module _ (t : Table) (d : Distinct (names_of t))
    (known : (i : ℕ) → i < length (sorted t) → all_known (names_of (sorted t)) (get_or (sorted t) i ([], [])).1 ≡ true)
    (clear : (a : ℕ) → a < length (sorted t) → reaches (macro_needs (sorted t)) (length (sorted t)) a a ≡ false) where
  -- how many macros a macro reaches
  abbrev measure : Bytes → ℕ
  measure n = rank (length (sorted t)) (macro_needs (sorted t)) (rank_in (names_of (sorted t)) n)

  place : (n : Bytes) → among (names_of t) n ≡ true → Stands (sorted t) n (rank_in (names_of (sorted t)) n)
  place n e = stands (sorted t) n (among_sorted t n ∙ e)

  text_there : (n : Bytes) → among (names_of t) n ≡ true → (get_or (sorted t) (rank_in (names_of (sorted t)) n) ([], [])).1 ≡ text_of t n
  text_there n e = (place n e).text ∙ text_of_sorted t d n

  uses_known : (n : Bytes) → among (names_of t) n ≡ true → (m : Bytes) → among (uses_of (pieces (text_of t n))) m ≡ true → among (names_of t) m ≡ true
  uses_known n e m u =
      sym (among_sorted t m)
      ∙ known_use (names_of (sorted t)) (pieces (text_of t n))
      (subst (λ x. all_known (names_of (sorted t)) x ≡ true) (text_there n e) (known (rank_in (names_of (sorted t)) n) (place n e).within)) m u

  need : (n : Bytes) → among (names_of t) n ≡ true → (m : Bytes) → among (names_of t) m ≡ true → among (uses_of (pieces (text_of t n))) m ≡ true → macro_needs (sorted t) (rank_in (names_of (sorted t)) n) (rank_in (names_of (sorted t)) m) ≡ true
  need n e m k u = ap₂ uses_macro (place m k).name (text_there n e) ∙ u

  falls : Falls t measure
  falls n e m u =
      let k = uses_known n e m u in
      (k, rank_falls (length (sorted t)) (macro_needs (sorted t)) clear (rank_in (names_of (sorted t)) n) (rank_in (names_of (sorted t)) m) (place n e).within (place m k).within (need n e m k u))

  below : (n : Bytes) → among (names_of t) n ≡ true → measure n < length t
  below n e =
      subst (λ k. measure n < k) (length_sorted t)
      (count_short (reaches (macro_needs (sorted t)) (length (sorted t)) (rank_in (names_of (sorted t)) n)) (length (sorted t)) (rank_in (names_of (sorted t)) n) (place n e).within (clear (rank_in (names_of (sorted t)) n) (place n e).within))

  put_in_place : (w : Bytes) → all_known (names_of t) w ≡ true → (out : Bytes) × Writes t (pieces w) out × (filled (finished t) w ≡ take 1024 out) × ((other : Bytes) → Writes t (pieces w) other → out ≡ other)
  put_in_place w h =
      let v = all_written t measure falls (length t) below w h in
      (put_in (full (length t) t) (pieces w), v, filled_full (length t) t w, λ other o. one_text t v o)

-- THE CHECKS

names_apart : (met : List Bytes) (ms : List (Word × Word)) (half : List Word) (u : Unit {0}) → check_macro_names met (map (λ m. m.0) ms ++ half) ≡ read u → Apart met (names_of (macro_table ms))
names_apart met [] half u e = tt
names_apart met (m ∷ ms) half u e =
    let b = bind_read (at m.0.at (new_name met (macro_name m.0.text))) _ u e in
    (name_new met (macro_name m.0.text) b.0 (at_read m.0.at (new_name met (macro_name m.0.text)) b.0 b.1), names_apart (macro_name m.0.text ∷ met) ms half u b.2)

module _ (ms : List (Word × Word)) (e : check_macros (sorted (macro_table ms)) (places (macro_places ms)) ≡ read tt) where
  pub table_length : length (sorted (macro_table ms)) ≡ length (places (macro_places ms))
  table_length =
      (length_sorted (macro_table ms) ∙ length-map ms (λ (m : Word × Word). (macro_name m.0.text, m.1.text)))
      ∙ sym (length-map (macro_places ms) (λ (x : Bytes × ℕ). x.1) ∙ (length_sorted (map (λ (m : Word × Word). (macro_name m.0.text, m.0.at)) ms) ∙ length-map ms (λ (m : Word × Word). (macro_name m.0.text, m.0.at))))

  abbrev unknown : Bytes × Bytes → Bool
  unknown m = not (all_known (names_of (sorted (macro_table ms))) m.1)

  passed : (u : Unit {0}) × (refuse_first 18 (map unknown (sorted (macro_table ms))) (places (macro_places ms)) ≡ read u) × (refuse_first 19 (on_circle (length (sorted (macro_table ms))) (macro_needs (sorted (macro_table ms)))) (places (macro_places ms)) ≡ read tt)
  passed = bind_read (refuse_first 18 (map unknown (sorted (macro_table ms))) (places (macro_places ms))) _ tt e

  texts_known : (i : ℕ) → i < length (sorted (macro_table ms)) → all_known (names_of (sorted (macro_table ms))) (get_or (sorted (macro_table ms)) i ([], [])).1 ≡ true
  texts_known i l =
      not-false (all_known (names_of (sorted (macro_table ms))) (get_or (sorted (macro_table ms)) i ([], [])).1)
      (sym (get_or-map unknown (sorted (macro_table ms)) i ([], []) false l)
      ∙ first_read 18 (map unknown (sorted (macro_table ms))) (places (macro_places ms)) passed.0 (length-map (sorted (macro_table ms)) unknown ∙ table_length) passed.1 i)

  no_circle : (a : ℕ) → a < length (sorted (macro_table ms)) → reaches (macro_needs (sorted (macro_table ms))) (length (sorted (macro_table ms))) a a ≡ false
  no_circle a l =
      sym (flag (length (sorted (macro_table ms))) (macro_needs (sorted (macro_table ms))) a l)
      ∙ first_read 19 (on_circle (length (sorted (macro_table ms))) (macro_needs (sorted (macro_table ms)))) (places (macro_places ms)) tt (flags_length (length (sorted (macro_table ms))) (macro_needs (sorted (macro_table ms))) ∙ table_length) passed.2 a

pub macros_put_in : MacrosPutIn
macros_put_in ms half e c w h =
    put_in_place (macro_table ms) (apart_distinct [] (names_of (macro_table ms)) (names_apart [] ms half tt e)) (texts_known ms c) (no_circle ms c) w h
