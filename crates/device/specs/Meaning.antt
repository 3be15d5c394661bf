-- What a device means: at each port the words waiting, the words taken and the space left; and how giving and taking change that.
use Rattle.std.specs.Prelude.{ℕ, zero, suc, cond, List, [], ◌∷◌, ◌++◌, ◌==◌}

pub record Port : Type 0 where
  -- the words that wait to be given, the first of them first
  pub waiting : List ℕ
  -- the words taken so far, the last of them last
  pub taken : List ℕ
  -- how many words it can still take
  pub space : ℕ

abbrev pub Meaning : Type 0
Meaning = ℕ → Port

-- a port that no device serves
abbrev pub unserved : Port
unserved = record { waiting = []; taken = []; space = 0 }

-- a list without its first word
abbrev pub rest : List ℕ → List ℕ
rest [] = []
rest (w ∷ ws) = ws

-- a port after it was asked for a word: where none waits nothing changes
abbrev pub given_port : Port → Port
given_port p = record { waiting = rest p.waiting; taken = p.taken; space = p.space }

-- the words taken after w came, with so much space before
abbrev pub one_more : List ℕ → ℕ → ℕ → List ℕ
one_more ws w zero = ws
one_more ws w (suc n) = ws ++ w ∷ []

abbrev pub one_less : ℕ → ℕ
one_less zero = zero
one_less (suc n) = n

-- a port after it was handed the word w: where there is no space nothing changes
abbrev pub taken_port : ℕ → Port → Port
taken_port w p = record { waiting = p.waiting; taken = one_more p.taken w p.space; space = one_less p.space }

-- a change at one port, and at no other
abbrev pub at_port : Meaning → ℕ → (Port → Port) → Meaning
at_port m p f = λ q. cond (q == p) (f (m q)) (m q)

-- what the device means after port p was asked for a word
abbrev pub gave : Meaning → ℕ → Meaning
gave m p = at_port m p given_port

-- what the device means after port p was handed the word w
abbrev pub took : Meaning → ℕ → ℕ → Meaning
took m p w = at_port m p (taken_port w)
