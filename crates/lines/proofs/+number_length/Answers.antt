-- One digit more than the number without its last digit has.
use Rattle.std.proofs.Common.{◌+◌, ◌/◌, ◌%◌, ◌^◌, ◌<◌, length, decimal, ap, ◌∙◌, arith}
use Rattle.std.proofs.lemmas.Fmt.{decimal_digit, decimal_step}
use Rattle.std.proofs.lemmas.List.{length_push}
use Rattle.lines.proofs.+number_length.Goals as goal

pub returns-then-number-lt10 : goal.returns-then-number-lt10
returns-then-number-lt10 t c =
    let one = ap length (decimal_digit c.args.number c.if-number-lt10.true) in
    record { digits = omega (arith, one); bound = omega arith }

pub returns : goal.returns
returns t c =
    let n = c.args.number in
    let fit : n < 2 ^ 64 = omega arith in
    let more = ap length (decimal_step n c.if-number-lt10.false fit) ∙ length_push (decimal (n / 10)) (48 + n % 10) in
    record { digits = omega (arith, more, c.number_length.ensures.digits); bound = omega (arith, c.number_length.ensures.bound) }
