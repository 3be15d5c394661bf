-- Why tables of the same macros judge fields alike, whatever their order.
use Rattle.std.proofs.Common.{◌≡◌, ℕ, zero, suc, Bool, true, false, cond, ◌&&◌, ◌||◌, leb, List, [], ◌∷◌, ◌++◌, length, take, sym, refl, ap, ◌∙◌, ap₂}
use Rattle.std.proofs.lemmas.Bool.{or_parts, or_from}
use Rattle.numbers.specs.Judged.{good, ◌>>=◌, check}
use Rattle.scan.specs.Names.{Bytes, same, before, among, all}
use Rattle.verdict.specs.Circuit.{insert, sorted}
use Rattle.verdict.specs.Macros.{Piece, plain, macro, pieces, Table, names_of, text_of, put_in, filled, deep, finished, is_known, all_known, field}
use Rattle.verdict.proofs.Orders.{or_swap, same_not, not_same}
use Rattle.verdict.proofs.Uses.{among_sorted}
use Rattle.macros.specs.Tables.{Distinct}
use Rattle.macros.proofs.Depth.{text_of_map}
use Rattle.macros.proofs.Fields.{names_deep}

-- SORTING KEEPS NAMES APART

among_insert : (e : Bytes × Bytes) (es : Table) (n : Bytes) → among (names_of (insert e es)) n ≡ (same e.0 n || among (names_of es) n)
among_insert e [] n = refl
among_insert e (x ∷ es) n = by (before e.0 x.0) (among_insert e es n)
  where
    by : (b : Bool) → among (names_of (insert e es)) n ≡ (same e.0 n || among (names_of es) n) → among (names_of (cond b (e ∷ x ∷ es) (x ∷ insert e es))) n ≡ (same e.0 n || (same x.0 n || among (names_of es) n))
    by true h = refl
    by false h = ap (λ b. same x.0 n || b) h ∙ or_swap (same x.0 n) (same e.0 n) (among (names_of es) n)

distinct_insert : (e : Bytes × Bytes) (es : Table) → among (names_of es) e.0 ≡ false → Distinct (names_of es) → Distinct (names_of (insert e es))
distinct_insert e [] h d = (refl, tt)
distinct_insert e (x ∷ es) h d = by (before e.0 x.0) (distinct_insert e es k.1 d.1)
  where
    k : (same x.0 e.0 ≡ false) × (among (names_of es) e.0 ≡ false)
    k = or_parts (same x.0 e.0) (among (names_of es) e.0) h

    by : (b : Bool) → Distinct (names_of (insert e es)) → Distinct (names_of (cond b (e ∷ x ∷ es) (x ∷ insert e es)))
    by true r = (h, d)
    by false r = (among_insert e es x.0 ∙ or_from (same e.0 x.0) (among (names_of es) x.0) (same_not e.0 x.0 (λ q. not_same x.0 e.0 k.0 (sym q))) d.0, r)

pub distinct_sorted : (es : Table) → Distinct (names_of es) → Distinct (names_of (sorted es))
distinct_sorted [] d = tt
distinct_sorted (e ∷ es) d = distinct_insert e (sorted es) (among_sorted es e.0 ∙ d.0) (distinct_sorted es d.1)

-- THE SAME TEXTS

put_same : (d f : Table) → ((n : Bytes) → text_of d n ≡ text_of f n) → (ps : List Piece) → put_in d ps ≡ put_in f ps
put_same d f h [] = refl
put_same d f h (plain b ∷ ps) = ap (λ l. b ∷ l) (put_same d f h ps)
put_same d f h (macro n ∷ ps) = ap₂ ◌++◌ (h n) (put_same d f h ps)

known_same : (ms ns : List Bytes) → ((n : Bytes) → among ms n ≡ among ns n) → (ps : List Piece) → all (is_known ms) ps ≡ all (is_known ns) ps
known_same ms ns h [] = refl
known_same ms ns h (plain b ∷ ps) = known_same ms ns h ps
known_same ms ns h (macro n ∷ ps) = ap₂ ◌&&◌ (h n) (known_same ms ns h ps)

module _ (a b : Table) (long : length a ≡ length b) (names : (n : Bytes) → among (names_of a) n ≡ among (names_of b) n) (texts : (n : Bytes) → text_of a n ≡ text_of b n) where
  deep_same : (k : ℕ) (n : Bytes) → text_of (deep k a) n ≡ text_of (deep k b) n
  deep_same zero n = texts n
  deep_same (suc k) n =
      text_of_map (filled (deep k a)) refl a n
      ∙ (ap (take 1024) (put_same (deep k a) (deep k b) (deep_same k) (pieces (text_of a n)))
      ∙ (ap (filled (deep k b)) (texts n) ∙ sym (text_of_map (filled (deep k b)) refl b n)))

  filled_same : (w : Bytes) → filled (finished a) w ≡ filled (finished b) w
  filled_same w = ap (take 1024) (put_same (deep (length a) a) (deep (length a) b) (deep_same (length a)) (pieces w)) ∙ ap (λ k. filled (deep k b) w) long

  pub fields_same : (w : Bytes) → field (finished a) w ≡ field (finished b) w
  fields_same w =
      ap₂ (λ x y. check x 18 >>= (λ _. check (leb (length y) 1023) 16 >>= (λ _. good y)))
      (ap (λ ns. all_known ns w) (names_deep (length a) a) ∙ (known_same (names_of a) (names_of b) names (pieces w) ∙ sym (ap (λ ns. all_known ns w) (names_deep (length b) b))))
      (filled_same w)
