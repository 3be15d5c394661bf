-- By whether a fault was met before.
use Rattle.std.proofs.Common.{◌≡◌, Some, None, refl, ap, rules}
use Rattle.items.specs.Least.{with_fault}
use Rattle.items.proofs.smallest.Smallest.meet.Goals as goal

pub returns : goal.returns
returns c =
    let told = c.map_or.ensures in
    elim c.args.self.now.met as (λ m. c.args.self.now.met ≡ m → Some c.map_or.result ≡ Some (with_fault m c.args.fault)) [
      | None ↦ λ is. ap Some (rw is at told)
      | Some before ↦ λ is. let one = rw is at told in search rules
    ] refl
