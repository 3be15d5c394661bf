-- The pairs that are left are judged as all are.
use Rattle.std.proofs.Common.{◌≡◌, length}
use Rattle.scan.specs.Reading.{left, reader_text}
use Rattle.sheet.specs.Sheets.{pairs}
use Rattle.sheet.proofs.judging.check_pairs.Given as goal

abbrev pub invariant-loop-port : goal.invariant-loop-port
invariant-loop-port l = (reader_text l.reader ≡ reader_text l.initial.reader) × (pairs (length (reader_text l.initial.reader)) (left l.initial.reader) ≡ pairs (length (reader_text l.initial.reader)) (left l.reader))

abbrev pub decreases-loop-port : goal.decreases-loop-port
decreases-loop-port l = length (left l.reader)
