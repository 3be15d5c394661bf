-- Sums and differences are linear, and the rest is shown in proofs/Codes.antt.
use Rattle.std.proofs.Common.{refl, arith}
use Rattle.word.proofs.Codes.{apply_word, code_above}
use Rattle.word.proofs.laws.function_laws_stand.Goals as goal

pub returns : goal.returns
returns c =
    record {
      word = apply_word;
      turned = λ l r p. omega arith;
      plain = λ l r p q. omega arith;
      wrapped = λ l r p q. omega arith;
      undone = λ l r p q. omega arith;
      eleven = refl;
      above = code_above;
    }
