use Rattle.verdict.proofs.Bench.{bench_cases}
use Rattle.verdict.proofs.bench_cases_stand.Goals as goal

pub returns : goal.returns
returns c = bench_cases
