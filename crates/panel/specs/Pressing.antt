-- What a pressing answers and does.
use Rattle.std.specs.Prelude.{ℕ, ◌^◌, cond, ◌&&◌, List, [], ◌∷◌, ◌++◌, length, Ok, Err, Result, nat_lt}
use Rattle.refusal.specs.declared.kinds.Fault.{Fault}
use Rattle.refusal.specs.declared.kinds.Refusal.TheVariants.{WordTooHigh, NoPress}
use Rattle.device.specs.Meaning.{Port, Meaning, at_port}
use Rattle.device.specs.Answers.{refused}

-- the answer where these words wait: eight are as many as can
abbrev pub let_in : List ℕ → Result (Unit {0}) Fault
let_in ws = cond (nat_lt (length ws) 8) (Ok tt) (Err (refused NoPress))

-- the words that wait after w was pressed where these waited
abbrev pub queued : ℕ → List ℕ → List ℕ
queued w ws = cond (nat_lt (length ws) 8) (ws ++ w ∷ []) ws

-- a port after w was pressed
abbrev pub pressed_port : ℕ → Port → Port
pressed_port w p = record { waiting = queued w p.waiting; taken = p.taken; space = p.space }

-- the answer to pressing the number w at port p
abbrev pub press_answer : Meaning → ℕ → ℕ → Result (Unit {0}) Fault
press_answer m p w = cond (nat_lt w (2 ^ 31)) (cond (nat_lt p 8) (let_in (m p).waiting) (Err (refused NoPress))) (Err (refused WordTooHigh))

-- what the panel means after the number w was pressed at port p
abbrev pub pressed : Meaning → ℕ → ℕ → Meaning
pressed m p w = cond (nat_lt w (2 ^ 31) && nat_lt p 8) (at_port m p (pressed_port w)) m
