-- What a panel means.
use Rattle.std.specs.Prelude.{cond, [], nat_lt}
use Rattle.device.specs.Meaning.{Port, Meaning, unserved}
use Rattle.device.specs.Kept.{values, kept, room}
use Rattle.device.specs.Rows.{row}
use Rattle.panel.specs.declared.port.PanelPort.{PanelPort}
use Rattle.panel.specs.declared.Panel.{Panel}

abbrev pub port_meaning : PanelPort → Port
port_meaning p = record { waiting = values p.pressed.items; taken = kept 8 p.taken; space = room 8 p.taken }

abbrev pub panel_meaning : Panel → Meaning
panel_meaning s = row port_meaning s.ports.items

-- a port at the start
abbrev pub fresh : Port
fresh = record { waiting = []; taken = []; space = 8 }

-- a panel at the start: the ports 0 to 7, and no others
abbrev pub fresh_panel : Meaning
fresh_panel = λ p. cond (nat_lt p 8) fresh unserved
