-- What is written and what the pieces that are left say make the whole; a use is put in below its user's place.
use Rattle.std.proofs.Common.{◌≡◌, ◌+◌, ◌*◌, true, ◌++◌, vec_items}
use Rattle.scan.specs.Names.{all}
use Rattle.verdict.specs.Macros.{names_of, put_in}
use Rattle.macros.specs.Full.{full, said, is_before}
use Rattle.macros.specs.Pieces.{remaining}
use Rattle.macros.specs.Tables.{table_of}
use Rattle.macros.proofs.table.Macros.+expand_text_expand_use.Given as goal

abbrev pub decreases-expand_text : goal.decreases-expand_text
decreases-expand_text l = 2 * l.below + 1

abbrev pub decreases-expand_use : goal.decreases-expand_use
decreases-expand_use l = 2 * l.below

abbrev pub invariant-expand_text-loop-piece : goal.invariant-expand_text-loop-piece
invariant-expand_text-loop-piece l = record {
  buffer : l.field.out.ghost_name ≡ l.initial.field.out.ghost_name;
  place : l.field.place ≡ l.initial.field.place;
  before : all (is_before (names_of (table_of l.self)) l.below) (remaining l.piece-iterator) ≡ true;
  whole :
      vec_items l.field.out.now ++ put_in (full l.below (table_of l.self)) (remaining l.piece-iterator)
      ≡ vec_items l.initial.field.out.now ++ said l.below (table_of l.self) l.text;
}
