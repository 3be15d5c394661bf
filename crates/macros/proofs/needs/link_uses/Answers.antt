-- A macro that the text uses is needed once it is passed.
use Rattle.std.proofs.Common.{◌≡◌, ◌<◌, [], get_or, sym, ap, ◌∙◌, subst}
use Rattle.links.specs.Linked.{nodes, linked}
use Rattle.verdict.specs.Macros.{uses_macro}
use Rattle.macros.specs.Uses.{entries}
use Rattle.macros.proofs.Entries.{blank, entry_at}
use Rattle.macros.proofs.Linking.{need_added, need_passed}
use Rattle.macros.proofs.needs.link_uses.Goals as goal
use Rattle.macros.proofs.needs.link_uses.Goals.{then-uses_macro, else-uses_macro}

pub loop-to-preserved : goal.loop-to-preserved
loop-to-preserved c =
    let name : (get_or (entries c.args.table.now) c.loop-to.to ([], [])).0 ≡ (get_or c.args.table.now c.loop-to.to blank).name.now = ap (λ e. e.0) (sym (entry_at c.args.table.now c.loop-to.to)) in
    let uses = ap (λ n. uses_macro n c.args.text.now) name ∙ sym c.uses_macro.ensures in
    elim c.if-uses_macro.branch [
      | then-uses_macro w ↦ (
        ap nodes w.links-is ∙ (w.add.ensures.nodes ∙ c.loop-to.invariant.0),
        λ x y lx ly.
            need_added (entries c.args.table.now) c.args.text.now c.args.from c.loop-to.to x y
            (linked c.args.links.now x y) (linked c.loop-to.links x y) (c.loop-to.invariant.1 x y lx ly) (linked c.if-uses_macro.links x y)
            (ap (λ g. linked g x y) w.links-is ∙ w.add.ensures.arcs x y (subst (λ k. x < k) (sym c.loop-to.invariant.0) lx) (subst (λ k. y < k) (sym c.loop-to.invariant.0) ly))
            (uses ∙ w.if-uses_macro.true),
      )
      | else-uses_macro w ↦ (
        ap nodes w.links-is ∙ c.loop-to.invariant.0,
        λ x y lx ly.
            ap (λ g. linked g x y) w.links-is
            ∙ need_passed (entries c.args.table.now) c.args.text.now c.args.from c.loop-to.to x y
            (linked c.args.links.now x y) (linked c.loop-to.links x y) (c.loop-to.invariant.1 x y lx ly) (uses ∙ w.if-uses_macro.false),
      )
    ]
