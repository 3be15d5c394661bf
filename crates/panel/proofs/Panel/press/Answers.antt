-- One port of the row is changed.
use Rattle.std.proofs.Common.{◌≡◌, ℕ, ◌^◌, ◌<◌, true, ltb, List, length, get_or, set, rules, arith}
use Rattle.std.proofs.lemmas.Bool.{lt-ltb}
use Rattle.device.specs.Rows.{row}
use Rattle.device.proofs.Places.{row_set}
use Rattle.panel.specs.Meant.{port_meaning}
use Rattle.panel.specs.Pressing.{pressed, pressed_port}
use Rattle.panel.specs.declared.port.PanelPort.{PanelPort}
use Rattle.panel.proofs.Panel.press.Goals as goal

-- where y stood at the place q, and x is y after v was pressed, that is a pressing of v at port q
pressed_at : (ps : List PanelPort) (q p v w : ℕ) (x y : PanelPort) → length ps ≡ 8 → q ≡ p → v ≡ w → w < 2 ^ 31 → q < length ps → y ≡ get_or ps q y
    → port_meaning x ≡ pressed_port v (port_meaning y) → row port_meaning (set ps q x) ≡ pressed (row port_meaning ps) p w
pressed_at ps q p v w x y wide here same low there was e =
    let small : ltb w (2 ^ 31) ≡ true = lt-ltb w (2 ^ 31) low in
    let served : ltb p 8 ≡ true = lt-ltb p 8 (omega arith) in
    rw (small, served, ← same, ← here) (row_set port_meaning ps q x y (pressed_port v) there was e)

pub returns-in-Some-clause-after : goal.returns-in-Some-clause-after
returns-in-Some-clause-after c = search (rules, arith, pressed_at)
