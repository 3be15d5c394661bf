-- The chain joins the two rows place by place.
use Rattle.std.proofs.Common.{◌≡◌, Bool, false, ◌&&◌, ◌||◌, map, get_or, vec_items, IfOk, rules, ◌∙◌}
use Rattle.std.specs.List.{zip}
use Rattle.std.proofs.lemmas.Iterator.{items_from_collect, YieldsList-from_map, YieldsList-from_zip, YieldsList-from_slice}
use Rattle.std.proofs.lemmas.Result.{IfOk-weaker}
use Rattle.graph.proofs.Grids.{row_joined}
use Rattle.graph.proofs.rows.next_row.Goals as goal

pub returns : goal.returns
returns c =
    let row = c.args.row.now in
    let via = c.args.via.now in
    let joins = get_or row c.args.k false in
    let joined : IfOk c.collect.result (λ v. vec_items v ≡ map (λ (p : Bool × Bool). p.0 || (joins && p.1)) (zip row via)) =
    items_from_collect _ c.collect.ensures.ran (YieldsList-from_map _ (λ (p : Bool × Bool). p.0 || (joins && p.1)) (YieldsList-from_zip (YieldsList-from_slice row (cc)) (YieldsList-from_slice via (cc))) c.map.ensures.closure (λ x r q k. search rules)) in
    IfOk-weaker c.collect.result _ _ (λ v e. e ∙ row_joined row via joins c.requires.same) joined
