-- The verdict where the count is good: the pairs decide, and the words behind the count are those read anew from its end.
use Rattle.std.proofs.Common.{◌≡◌, ℕ, ◌<◌, ◌≤◌, ltb, List, [], ◌∷◌, length, Ok, Err, Result, sym, ap, ◌∙◌, inl, inr, arith}
use Rattle.std.proofs.lemmas.Bool.{cases_lt, cond-true, cond-false, lt-ltb, le-ltb}
use Rattle.refusal.specs.declared.kinds.Fault.{Fault}
use Rattle.refusal.specs.declared.kinds.Refusal.TheVariants.{TextTooLong}
use Rattle.scan.specs.Names.{Bytes}
use Rattle.scan.specs.Words.{Word, words_after}
use Rattle.sheet.specs.Sheets.{RunSheet, number_of, pairs, sheet_in, sheet_of}
use Rattle.sheet.specs.Judged.{asked, verdict}
use Rattle.sheet.specs.Meant.{read}
use Rattle.sheet.specs.declared.judging.Run.{Run}

short : (t : Bytes) (from : ℕ) → length t < 4294967296 → sheet_of t from ≡ verdict t from
short t from h = sym (cond-true _ _ _ (lt-ltb (length t) 4294967296 h))

sheet_good : (end n : ℕ) (u : Unit {0}) (c : Word) (ws : List Word) → Ok n ≡ number_of 100000 c → Ok u ≡ pairs end ws → Ok (record { cycles = n; words = ws }) ≡ sheet_in end (c ∷ ws)
sheet_good end n u c ws e d = rw (← e, ← d)

sheet_bad : (end n : ℕ) (f : Fault) (c : Word) (ws : List Word) → Ok n ≡ number_of 100000 c → Err f ≡ pairs end ws → Err f ≡ sheet_in end (c ∷ ws)
sheet_bad end n f c ws e d = rw (← e, ← d)

pub passed : (t : Bytes) (from n after : ℕ) (u : Unit {0}) (c : Word) (ws : List Word) → length t < 4294967296 → words_after t from ≡ c ∷ ws
    → Ok n ≡ number_of 100000 c → Ok u ≡ pairs (length t) ws → ws ≡ words_after t after
    → Ok (record { cycles = n; words = words_after t after }) ≡ verdict t from
passed t from n after u c ws h w e d a =
    let f : List Word → Result RunSheet Fault = λ vs. Ok (record { cycles = n; words = vs }) in
    ap f (sym a) ∙ sheet_good (length t) n u c ws e d ∙ ap (sheet_in (length t)) (sym w) ∙ short t from h

pub failed : (t : Bytes) (from n : ℕ) (f : Fault) (c : Word) (ws : List Word) → length t < 4294967296 → words_after t from ≡ c ∷ ws
    → Ok n ≡ number_of 100000 c → Err f ≡ pairs (length t) ws → Err f ≡ verdict t from
failed t from n f c ws h w e d = sheet_bad (length t) n f c ws e d ∙ ap (sheet_in (length t)) (sym w) ∙ short t from h

long : (t : Bytes) (from : ℕ) (r : Run) → 4294967296 ≤ length t → asked t (Ok r) ≡ verdict t from → ⊥
long t from r h e =
    let f = cond-false (ltb (length t) 4294967296) (sheet_of t from) (Err (record { refusal = TextTooLong; place = 0 })) (le-ltb (length t) 4294967296 h) in
    let z : ◌≡◌ {A = ℕ} 0 1 = cc in omega arith

pub judged_reads : (t : Bytes) (from : ℕ) (r : Run) → asked t (Ok r) ≡ verdict t from → sheet_of t from ≡ Ok (record { cycles = r.cycles; words = read t r.pairs })
judged_reads t from r e = elim (cases_lt (length t) 4294967296) [
  | inl h ↦ let same = cond-true (ltb (length t) 4294967296) (words_after t r.pairs) [] (lt-ltb (length t) 4294967296 h) in
      let f : List Word → Result RunSheet Fault = λ vs. Ok (record { cycles = r.cycles; words = vs }) in
      short t from h ∙ sym e ∙ ap f (sym same)
  | inr h ↦ absurd (long t from r h e)
]
