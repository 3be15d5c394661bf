-- At most 64 macros are all nodes of the graph, so its order or its least node on a circle is theirs.
use Rattle.std.proofs.Common.{◌≡◌, length, sym, ◌∙◌, arith}
use lib.ListN.{length-map}
use Rattle.links.specs.Linked.{nodes, linked}
use Rattle.macros.specs.declared.uses.Macro.{Macro}
use Rattle.macros.specs.Uses.{entry, entries, places_of}
use Rattle.macros.proofs.Linking.{order_of_table}
use Rattle.macros.proofs.needs.order_of.Goals as goal

pub returns : goal.returns
returns c =
    let table = c.args.table.now in
    let size : nodes c.links_of.result ≡ length (entries table) = omega (arith, c.links_of.ensures.nodes, c.requires, length-map table entry) in
    let long : length (places_of table) ≡ length (entries table) = length-map table (λ (m : Macro). m.place) ∙ sym (length-map table entry) in
    order_of_table (entries table) (places_of table) (nodes c.links_of.result) (linked c.links_of.result) size long c.links_of.ensures.arcs c.ordered.result c.ordered.ensures
