-- Which words of a run sheet wait at which port.
use Rattle.std.specs.Prelude.{ℕ, cond, List, [], ◌∷◌, ◌++◌, Some, None, Option, ◌==◌}
use Rattle.std.specs.Option.{option_to_list}
use Rattle.scan.specs.Words.{Word}
use Rattle.numbers.specs.Judged.{Judged, good, bad}
use Rattle.numbers.specs.Numbers.{number}

-- what a pair of numbers sends to port p: the second, if the first is p
abbrev pub sent : ℕ → Judged ℕ → Judged ℕ → Option ℕ
sent p (good q) (good w) = cond (q == p) (Some w) None
sent p (good q) (bad k) = None
sent p (bad k) said = None

-- the words that wait at port p, where these are the words of the text after the count: pairs of port and word
abbrev pub waiting_at : ℕ → List Word → List ℕ
waiting_at p [] = []
waiting_at p (a ∷ []) = []
waiting_at p (a ∷ b ∷ ws) = option_to_list (sent p (number a.text) (number b.text)) ++ waiting_at p ws
