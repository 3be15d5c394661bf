-- A number is its quotient by a power of two, times that power, and its remainder.
use Rattle.std.proofs.Common.{arith, pow-add}
use lib.Arith.{digits_lt}
use lib.Pow.{high, low}
use Rattle.word.proofs.Neighbours.{neighbours}
use Rattle.word.proofs.laws.place_laws_stand.Goals as goal

pub returns : goal.returns
returns c =
    record {
      all = λ n h. omega arith;
      item = λ there width item h. low there width h;
      there = λ there width item h. high there width h;
      room = λ there before width item p q. rw pow-add (digits_lt p q);
      joined = neighbours;
    }
