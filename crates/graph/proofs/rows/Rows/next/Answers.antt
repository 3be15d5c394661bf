-- The chain gathers the next row of each node; all rows are as long as there are rows.
use Rattle.std.proofs.Common.{◌≡◌, [], length, vec_items, sym, ap, ◌∙◌, rules, tests}
use Rattle.std.proofs.lemmas.List.{length-map, get_or_read}
use Rattle.std.proofs.lemmas.Iterator.{YieldsList-from_slice, YieldsList-from_map_by}
use Rattle.std.proofs.lemmas.Iterator.Adapters.{serves_from_places}
use Rattle.graph.specs.Grid.{bits, cell, grid, through}
use Rattle.graph.proofs.Grids.{row_read, row_long, rows_square, joined, rows_next}
use Rattle.graph.proofs.Gathering.{gathered}
use Rattle.graph.proofs.rows.Rows.next.Goals as goal

pub try_collect-requires-clause-can : goal.try_collect-requires-clause-can
try_collect-requires-clause-can c =
    let rows = vec_items c.args.self.now.rows in
    let long-k = ap length c.as_slice-via.ensures.value ∙ row_long rows c.args.k c.index.result.now c.requires c.index.ensures c.args.self.now.square in (
      search rules,
      serves_from_places (YieldsList-from_map_by _ (λ r. r.now) vec_items (YieldsList-from_slice rows (cc)) c.map.ensures.closure (λ x r q k. (search rules, search rules)))
          (λ x q k. search (rules, tests)) (λ x i l e.
          let long : length x.now ≡ length rows = ap length (get_or_read (bits rows) i x.now l e []) ∙ (c.args.self.now.square i l ∙ length-map rows vec_items) in
          search rules),
    )

gathers : (c : goal.In_ok-rows) → bits (vec_items c.in_ok-rows.rows) ≡ grid (length (vec_items c.args.self.now.rows)) (through (cell (bits (vec_items c.args.self.now.rows))) c.args.k)
gathers c =
    let rows = vec_items c.args.self.now.rows in
    let via = c.as_slice-via.result.now in
    let same = c.as_slice-via.ensures.value ∙ row_read rows c.args.k c.index.result.now c.requires c.index.ensures in
    let ran = c.in_ok-rows.ensures.ran in
    gathered _ (λ x. x.now) _ (joined c.args.k via) _ (λ x r q k. (search rules, search rules)) _ (λ p x q k. (k.0, sym k.1, k.2.0))
    (bits rows) (YieldsList-from_map_by _ (λ r. r.now) vec_items (YieldsList-from_slice rows (cc)) c.map.ensures.closure (λ x r q k. (search rules, search rules))) c.map-2.ensures.closure c.in_ok-rows.rows ran.0 ran.1 ran.2 ran.3.0 ran.4
    ∙ rows_next (bits rows) c.args.k (length rows) via (length-map rows vec_items) c.args.self.now.square same

pub invariant_of-result : goal.invariant_of-result
invariant_of-result c =
    record { square = rows_square _ (length (vec_items c.args.self.now.rows)) (through (cell (bits (vec_items c.args.self.now.rows))) c.args.k) (gathers c) }

pub returns : goal.returns
returns c = gathers c.before
