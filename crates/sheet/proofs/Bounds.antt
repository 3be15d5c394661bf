-- A text has no more words than bytes, since each byte ends at most one word and the text's end ends one that a byte began.
use Rattle.std.proofs.Common.{ℕ, suc, ◌+◌, ◌≤◌, List, [], ◌∷◌, ◌++◌, length, drop, Some, None, Option, arith, length-drop}
use Rattle.std.specs.Option.{option_to_list}
use Rattle.scan.specs.Names.{Bytes}
use Rattle.scan.specs.Words.{Word, Where, between, word, comment, class_of, after, ended, words_from, words_after}
use Rattle.scan.specs.declared.scanner.Class.{Class}
use Rattle.scan.specs.declared.scanner.Class.TheVariants.{Blank, Open, Close, Other}
use Rattle.numbers.specs.Numbers.{number}
use Rattle.sheet.specs.Waiting.{sent, waiting_at}

-- the word that is begun
abbrev begun : Where → ℕ
begun between = 0
begun (word f) = 1
begun comment = 0

turn : (t : Bytes) (s : Where) (k : Class) (p : ℕ) (bs : Bytes)
    → ((s' : Where) → length (words_from t s' (p + 1) bs) ≤ length bs + begun s')
    → length (ended t s k p (words_from t (after s k p) (p + 1) bs)) ≤ suc (length bs) + begun s
turn t between Blank p bs on = omega (arith, on between)
turn t between Open p bs on = omega (arith, on comment)
turn t between Close p bs on = omega (arith, on (word p))
turn t between Other p bs on = omega (arith, on (word p))
turn t (word f) Blank p bs on = omega (arith, on between)
turn t (word f) Open p bs on = omega (arith, on comment)
turn t (word f) Close p bs on = omega (arith, on (word f))
turn t (word f) Other p bs on = omega (arith, on (word f))
turn t comment Blank p bs on = omega (arith, on comment)
turn t comment Open p bs on = omega (arith, on comment)
turn t comment Close p bs on = omega (arith, on between)
turn t comment Other p bs on = omega (arith, on comment)

few : (t : Bytes) (s : Where) (p : ℕ) (bs : Bytes) → length (words_from t s p bs) ≤ length bs + begun s
few t between p [] = omega arith
few t (word f) p [] = omega arith
few t comment p [] = omega arith
few t s p (b ∷ bs) = turn t s (class_of b) p bs (λ s'. few t s' (p + 1) bs)

one : (o : Option ℕ) (ws : List ℕ) → length (option_to_list o ++ ws) ≤ 1 + length ws
one (Some w) ws = omega arith
one None ws = omega arith

paired : (p : ℕ) (ws : List Word) → length (waiting_at p ws) ≤ length ws
paired p [] = omega arith
paired p (a ∷ []) = omega arith
paired p (a ∷ b ∷ ws) = omega (arith, one (sent p (number a.text) (number b.text)) (waiting_at p ws), paired p ws)

pub fits : (t : Bytes) (from p : ℕ) → length (waiting_at p (words_after t from)) ≤ length t
fits t from p = omega (arith, paired p (words_after t from), few t between from (drop from t), length-drop from t)
