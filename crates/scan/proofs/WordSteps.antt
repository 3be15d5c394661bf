-- What one byte does to the words that are still to come, and what words come from a place past the text's end.
use Rattle.std.proofs.Common.{◌≡◌, ℕ, ◌+◌, ◌<◌, ◌≤◌, min, [], ◌∷◌, length, get_or, drop, sym, refl, ap, ◌∙◌, ⊎_elim, arith}
use Rattle.std.proofs.lemmas.List.{drop_more, drop_all}
use Rattle.std.proofs.lemmas.Bool.{cases_lt}
use Rattle.scan.specs.Names.{Bytes}
use Rattle.scan.specs.declared.scanner.Class.{Class}
use Rattle.scan.specs.Words.{Where, between, word, comment, after, ended, words_from, words_after, class_of}

one : (t : Bytes) (w : Where) (p b : ℕ) (bs : Bytes) → words_from t w p (b ∷ bs) ≡ ended t w (class_of b) p (words_from t (after w (class_of b) p) (p + 1) bs)
one t between p b bs = refl
one t (word from) p b bs = refl
one t comment p b bs = refl

-- the words from the place p on, by the byte that stands there
pub turn : (t : Bytes) (w : Where) (k : Class) (p : ℕ) → p < length t → k ≡ class_of (get_or t p 0) → words_from t w p (drop p t) ≡ ended t w k p (words_from t (after w k p) (p + 1) (drop (p + 1) t))
turn t w k p h e = rw (e, drop_more t p 0) (one t w p (get_or t p 0) (drop (p + 1) t))

-- a start past the text's end counts as the end
pub starts : (t : Bytes) (from : ℕ) → words_after t (min from (length t)) ≡ words_after t from
starts t from = ⊎_elim
    (λ l. ap (words_after t) (omega arith))
    (λ l. none (min from (length t)) (omega arith) ∙ sym (none from l))
    (cases_lt from (length t)) where
      none : (p : ℕ) → length t ≤ p → words_after t p ≡ []
      none p h = ap (words_from t between p) (drop_all p t h)
