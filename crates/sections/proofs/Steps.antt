-- The walks over words, by where a search in them ends.
use Rattle.std.proofs.Common.{◌≡◌, ℕ, zero, suc, ◌+◌, ◌*◌, ◌<◌, Bool, true, false, cond, not, ltb, List, [], ◌∷◌, length, get_or, Some, None, sym, refl, ap, ◌∙◌, arith}
use Rattle.std.specs.Prelude.{position}
use Rattle.std.specs.List.{position_or_len}
use Rattle.std.proofs.lemmas.List.Sums.{prefix_len-le-length}
use Rattle.std.proofs.lemmas.Bool.{cond-true, cond-false, ltb-true, ltb-false}
use Rattle.scan.specs.Names.{Bytes}
use Rattle.scan.specs.Words.{Word}
use Rattle.scan.specs.declared.reader.TextWord.{TextWord}
use Rattle.verdict.specs.Sections.{begins_macro}
use Rattle.sections.specs.TextWords.{words_of}
use Rattle.sections.specs.Walks.{macro_count}

-- what a read past the words would give
abbrev pub plain : TextWord
plain = record { text = record { ref_ptr = (0, 0); now = [] }; place = 0 }

-- how many words stand before the first that passes
abbrev pub until : (Bytes → Bool) → List Word → ℕ
until passes [] = 0
until passes (w ∷ ws) = cond (passes w.text) 0 (suc (until passes ws))

module _ (passes : Bytes → Bool) where
  until_is : (ws : List TextWord) → until passes (words_of ws) ≡ position_or_len (λ (w : TextWord). passes w.text.now) ws
  until_is [] = refl
  until_is (w ∷ ws) = elim (passes w.text.now) as (λ v. cond v 0 (suc (until passes (words_of ws))) ≡ cond (not v) (1 + position_or_len (λ (x : TextWord). passes x.text.now) ws) 0) [
    | true ↦ refl
    | false ↦ ap suc (until_is ws) ∙ omega arith
  ]

  -- the place that a search finds, if it finds one
  pub until_found : (ws : List TextWord) (i : ℕ) → position (λ (w : TextWord). passes w.text.now) ws ≡ Some i → (i < length ws) × (until passes (words_of ws) ≡ i)
  until_found ws i e =
      let n = position_or_len (λ (w : TextWord). passes w.text.now) ws in
      elim (ltb n (length ws)) as (λ v. ltb n (length ws) ≡ v → cond v (Some n) None ≡ Some i → (i < length ws) × (until passes (words_of ws) ≡ i)) [
        | true ↦ λ lt is. let same : n ≡ i = cc in (omega (arith, ltb-true _ _ lt), until_is ws ∙ same)
        | false ↦ λ lt is. absurd (let z : ◌≡◌ {A = ℕ} 0 1 = cc in omega arith)
      ] refl e

  pub until_missed : (ws : List TextWord) → position (λ (w : TextWord). passes w.text.now) ws ≡ None → until passes (words_of ws) ≡ length ws
  until_missed ws e =
      let n = position_or_len (λ (w : TextWord). passes w.text.now) ws in
      let low = prefix_len-le-length (λ (w : TextWord). not (passes w.text.now)) ws in
      elim (ltb n (length ws)) as (λ v. ltb n (length ws) ≡ v → cond v (Some n) None ≡ None → until passes (words_of ws) ≡ length ws) [
        | true ↦ λ lt is. absurd (let z : ◌≡◌ {A = ℕ} 0 1 = cc in omega arith)
        | false ↦ λ lt is. omega (arith, until_is ws, ltb-false _ _ lt)
      ] refl e

-- over the macros, two words at a time
pub count_some : (n : ℕ) (ws : List TextWord) → n * 2 < length ws → ((d : TextWord) → begins_macro (get_or ws (n * 2) d).text.now ≡ false) → ((k : ℕ) (d : TextWord) → k < n → begins_macro (get_or ws (k * 2) d).text.now ≡ true) → macro_count false (words_of ws) ≡ n * 2
count_some n [] h here before = absurd (omega arith)
count_some zero (w ∷ ws) h here before = cond-false (begins_macro w.text.now) (suc (macro_count true (words_of ws))) 0 (here plain)
count_some (suc n) (w ∷ []) h here before = absurd (omega arith)
count_some (suc n) (w ∷ t ∷ ws) h here before =
    let two : (k : ℕ) → suc k * 2 ≡ suc (suc (k * 2)) = λ k. omega arith in
    let rest = count_some n ws (omega (arith, two n)) (λ d. rw (two n) at (here d)) (λ k d lt. rw (two k) at (before (suc k) d (omega arith))) in
    cond-true (begins_macro w.text.now) (suc (macro_count true (words_of (t ∷ ws)))) 0 (before 0 plain (omega arith)) ∙ ap (λ m. suc (suc m)) rest ∙ sym (two n)

pub count_all : (ws : List TextWord) → ((k : ℕ) (d : TextWord) → k * 2 < length ws → begins_macro (get_or ws (k * 2) d).text.now ≡ true) → macro_count false (words_of ws) ≡ length ws
count_all [] h = refl
count_all (w ∷ []) h = cond-true (begins_macro w.text.now) 1 0 (h 0 plain (omega arith))
count_all (w ∷ t ∷ ws) h =
    let two : (k : ℕ) → suc k * 2 ≡ suc (suc (k * 2)) = λ k. omega arith in
    cond-true (begins_macro w.text.now) (suc (macro_count true (words_of (t ∷ ws)))) 0 (h 0 plain (omega arith))
    ∙ ap (λ m. suc (suc m)) (count_all ws (λ k d lt. rw (two k) at (h (suc k) d (omega (arith, two k)))))
