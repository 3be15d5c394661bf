-- A use is handed out with its name, and the text goes on behind it; another byte is handed out alone.
use Rattle.std.proofs.Common.{ap, ◌∙◌, rules}
use Rattle.verdict.specs.Macros.{pieces}
use Rattle.macros.specs.Uses.{use_at}
use Rattle.macros.proofs.Handing.{hands_use}
use Rattle.macros.proofs.pieces.TextPiecesIterator.next.Goals as goal

pub slice_bounds-self-count : goal.slice_bounds-self-count
slice_bounds-self-count c =
    (hands_use c.in_ok-first.first.now c.in_ok-first.behind.now c.in-Some.name.now (c.in-Some.ensures ∙ ap use_at c.in_ok-first.ensures.cases.0)).1

pub slice_bounds-self-start : goal.slice_bounds-self-start
slice_bounds-self-start c =
    let h = (hands_use c.in_ok-first.first.now c.in_ok-first.behind.now c.in-Some.name.now (c.in-Some.ensures ∙ ap use_at c.in_ok-first.ensures.cases.0)).1 in
    search rules

pub returns-in-Some : goal.returns-in-Some
returns-in-Some c =
    let h = hands_use c.in_ok-first.first.now c.in_ok-first.behind.now c.in-Some.name.now (c.in-Some.ensures ∙ ap use_at c.in_ok-first.ensures.cases.0) in
    let hands = ap pieces c.in_ok-first.ensures.cases.0 ∙ h.0 in
    search rules
