-- The table is in order and the uses are known, so all of them are put in.
use Rattle.std.proofs.Common.{◌≡◌, true, false, [], length, Err, vec_items, sym, ap, ◌∙◌, subst, arith, rules}
use lib.ListN.{length-map}
use Rattle.refusal.specs.Numbers.{number}
use Rattle.numbers.specs.Judged.{bad}
use Rattle.verdict.specs.Macros.{names_of, pieces, all_known, field, finished}
use Rattle.macros.specs.Filling.{Wrote, Filled}
use Rattle.macros.specs.Full.{said, all_before}
use Rattle.macros.specs.Tables.{table_of}
use Rattle.macros.specs.Uses.{entry, entries}
use Rattle.macros.proofs.Entries.{names_count}
use Rattle.macros.proofs.Fields.{unknown_field, known_before, filled_from}
use Rattle.macros.proofs.table.Macros.fill.Goals as goal

pub returns-then-not-all_known-clause-filled : goal.returns-then-not-all_known-clause-filled
returns-then-not-all_known-clause-filled c =
    let value = c.as_slice.ensures.value in
    let table = table_of c.args.self.now in
    let unknown : all_known (names_of table) c.args.word.text.now ≡ false =
    ap (λ ms. all_known (names_of (entries ms)) c.args.word.text.now) (sym value) ∙ sym c.if-not-all_known.ensures in
    subst (λ f. Filled c.args.word.place (field (finished table) c.args.word.text.now) (vec_items c.clear.new.self) (Err f)) (sym c.into.ensures) (
      unknown_field table c.args.word.text.now unknown ∙ ap (λ f. bad (number f.refusal)) (sym c.at.ensures),
      ap (λ f. f.place) c.at.ensures,
    )

pub expand_text-requires-clause-before : goal.expand_text-requires-clause-before
expand_text-requires-clause-before c =
    let table = table_of c.args.self.now in
    let text = c.args.word.text.now in
    let known : all_known (names_of table) text ≡ true = subst (λ ms. all_known (names_of (entries ms)) text ≡ true) c.as_slice.ensures.value (sym c.if-not-all_known.ensures) in
    let count : length (names_of table) ≡ c.len.result = names_count (vec_items c.args.self.now.table) ∙ omega (arith, c.len.ensures, c.args.self.now.table.ok.0) in
    subst (λ k. all_before (names_of table) k text ≡ true) count (known_before (names_of table) (pieces text) known)

pub returns-clause-filled : goal.returns-clause-filled
returns-clause-filled c =
    let table = table_of c.args.self.now in
    let text = c.args.word.text.now in
    let known : all_known (names_of table) text ≡ true = subst (λ ms. all_known (names_of (entries ms)) text ≡ true) c.as_slice.ensures.value (sym c.if-not-all_known.ensures) in
    let holds = vec_items c.expand_text.new.field.out.now in
    let count : c.len.result ≡ length table = omega (arith, c.len.ensures, c.args.self.now.table.ok.0, length-map (vec_items c.args.self.now.table) entry) in
    let wrote : Wrote c.args.word.place [] holds (said (length table) table text) c.expand_text.result =
    subst (λ k. Wrote c.args.word.place [] holds (said k table text) c.expand_text.result) count
    (subst (λ held. Wrote c.args.word.place held holds (said c.len.result table text) c.expand_text.result) c.clear.ensures.items
    c.expand_text.ensures.2) in
    let filled = filled_from table text known c.args.word.place holds c.expand_text.result wrote in
    search rules
