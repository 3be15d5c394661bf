-- The macros by name are those that the definition judges; those that pass are set along an order of theirs.
use Rattle.std.proofs.Common.{length, vec_items, sym, ap, ◌∙◌}
use Rattle.std.proofs.lemmas.Bool.{ltb-false}
use Rattle.std.proofs.lemmas.Result.{err_from_is_err_and}
use Rattle.verdict.specs.Verdict.{read}
use Rattle.macros.specs.Tables.{picked}
use Rattle.macros.specs.Uses.{entries}
use Rattle.macros.proofs.Making.{unknown_told, circle_judged, order_failed, table_in_order, same_fields}
use Rattle.macros.proofs.table.Macros.new.Goals as goal

pub returns-in_err-check_known : goal.returns-in_err-check_known
returns-in_err-check_known c =
    let by_name = c.as_slice-rows.ensures.value ∙ c.in_ok-by_name.ensures.items in
    let p = err_from_is_err_and c.from_residual-in_err-check_known.result c.from_residual-in_err-check_known.ensures.1 in
    rw (p.1, p.2) (unknown_told c.args.defined.now c.as_slice-rows.result.now by_name (ltb-false 64 (length c.args.defined.now) (sym c.in_default.ensures.lookup.0)) _ _ c.in_err-check_known.ensures)

pub returns-in_err-order : goal.returns-in_err-order
returns-in_err-order c =
    let by_name = c.as_slice-rows.ensures.value ∙ c.in_ok-by_name.ensures.items in
    let p = err_from_is_err_and c.from_residual-in_err-order.result c.from_residual-in_err-order.ensures.1 in
    rw (p.1, p.2) (order_failed c.args.defined.now c.as_slice-rows.result.now by_name (ltb-false 64 (length c.args.defined.now) (sym c.in_default.ensures.lookup.0)) c.in_ok-check_known.ensures _ c.in_err-order.ensures)

pub invariant_of-result : goal.invariant_of-result
invariant_of-result c =
    let by_name = c.as_slice-rows.ensures.value ∙ c.in_ok-by_name.ensures.items in record {
      ordered = table_in_order c.args.defined.now c.as_slice-rows.result.now by_name (ltb-false 64 (length c.args.defined.now) (sym c.in_default.ensures.lookup.0)) c.in_ok-check_known.ensures
          (vec_items c.in_ok-order.order) c.in_ok-order.ensures.0 (vec_items c.in_ok-table.table)
          (c.in_ok-table.ensures ∙ ap (picked (entries c.as_slice-rows.result.now)) c.as_slice.ensures.value);
    }

pub returns : goal.returns
returns c =
    let by_name = c.as_slice-rows.ensures.value ∙ c.in_ok-by_name.ensures.items in
    let told = c.in_ok-order.ensures in (
      circle_judged c.args.defined.now c.as_slice-rows.result.now by_name (ltb-false 64 (length c.args.defined.now) (sym c.in_default.ensures.lookup.0)) c.in_ok-check_known.ensures (read tt) told.2,
      λ d w.
          same_fields c.args.defined.now c.as_slice-rows.result.now by_name (ltb-false 64 (length c.args.defined.now) (sym c.in_default.ensures.lookup.0))
          (vec_items c.in_ok-order.order) told.0 told.1 (vec_items c.in_ok-table.table)
          (c.in_ok-table.ensures ∙ ap (picked (entries c.as_slice-rows.result.now)) c.as_slice.ensures.value) d w,
    )
