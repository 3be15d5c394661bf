-- The small cases hold, since both sides compute to the same.
use Rattle.std.proofs.Common.{refl}
use Rattle.verdict.specs.Bench.{BenchCases}

pub bench_cases : BenchCases
bench_cases = record {
  two_items = refl;
  joined_items = λ shown. refl;
  three_terms = refl;
  power_30 = refl;
  power_31 = refl;
  malformed_first = refl;
  too_large_first = refl;
  uses = refl;
  put_in_place = refl;
  itself = refl;
  by_memory = refl;
}
