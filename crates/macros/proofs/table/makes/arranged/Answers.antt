-- The chain gives the macros at the places of the order.
use Rattle.std.proofs.Common.{◌<◌, [], length, get_or, arith, rules, tests}
use Rattle.std.proofs.lemmas.List.{get_or_read}
use Rattle.std.proofs.lemmas.Iterator.{YieldsList-from_slice, YieldsList-from_map_by}
use Rattle.std.proofs.lemmas.Iterator.Adapters.{serves_from_places}
use Rattle.std.proofs.lemmas.Iterator.Consumers.{map_from_collect}
use Rattle.macros.specs.Uses.{entry, entries}
use Rattle.macros.proofs.Entries.{entry_at}
use Rattle.macros.proofs.table.makes.arranged.Goals as goal

pub collect-requires-clause-can : goal.collect-requires-clause-can
collect-requires-clause-can c = (
  tt,
  serves_from_places (YieldsList-from_slice c.args.order.now (cc)) (λ x q k. search (rules, tests)) (λ x k l e.
      let within : x.now < length c.args.table.now = omega (arith, c.requires k l, get_or_read c.args.order.now k x.now l e 0) in
      search rules),
)

pub returns : goal.returns
returns c =
    let table = c.args.table.now in
    map_from_collect c.collect.result c.collect.ensures.ran (YieldsList-from_map_by _ entry (λ i. get_or (entries table) i ([], [])) (YieldsList-from_slice c.args.order.now (cc)) c.map.ensures.closure
    (λ x r q k. (search (rules, tests), search (rules, tests, entry_at))))
