-- Each piece is put behind what is written; a use is put in by the macro's own text, which uses only macros before it.
use Rattle.std.proofs.Common.{◌≡◌, true, get_or, Some, None, [], ◌∷◌, length, vec_items, sym, ap, ◌∙◌, subst, arith}
use Rattle.std.proofs.lemmas.List.{get_or_read}
use Rattle.std.proofs.lemmas.Result.{err_from_is_err_and}
use Rattle.names.specs.Positions.{position_in}
use Rattle.verdict.specs.Macros.{names_of, put_in, text_of, plain, macro}
use Rattle.macros.specs.Full.{full, said, all_before}
use Rattle.macros.specs.Growing.{Grew}
use Rattle.macros.specs.Pieces.{remaining, meant}
use Rattle.macros.specs.Tables.{table_of}
use Rattle.macros.specs.Uses.{entries}
use Rattle.macros.proofs.Entries.{blank}
use Rattle.macros.proofs.Standing.{rank_is, text_before, text_said, not_missing}
use Rattle.macros.proofs.Writing.{split, refuse}
use Rattle.macros.proofs.table.Macros.+expand_text_expand_use.Goals as goal

pub expand_text-returns-in_err-put-in-Plain : goal.expand_text-returns-in_err-put-in-Plain
expand_text-returns-in_err-put-in-Plain t c =
    let first : remaining c.loop-piece.piece-iterator ≡ plain c.in-Plain.byte ∷ remaining c.next.new.self =
    c.in-Some.ensures.steps ∙ ap (λ p. meant p ∷ remaining c.next.new.self) c.in-Plain.is in
    let p = err_from_is_err_and c.from_residual.result c.from_residual.ensures.1 in
    let macros = full c.args.below (table_of c.args.self.now) in
    rw (p.1, p.2)
    (refuse c.args.field.now c.loop-piece.field c.put.new.self (c.in-Plain.byte ∷ []) (said c.args.below (table_of c.args.self.now) c.args.text.now) (put_in macros (remaining c.next.new.self)) _
    c.loop-piece.invariant.buffer c.loop-piece.invariant.place
    (split macros (vec_items c.loop-piece.field.out.now) _ (remaining c.loop-piece.piece-iterator) (remaining c.next.new.self) (plain c.in-Plain.byte) first c.loop-piece.invariant.whole)
    c.in_err-put-in-Plain.ensures)

pub expand_text-returns-in_err-expand_use-in-Use : goal.expand_text-returns-in_err-expand_use-in-Use
expand_text-returns-in_err-expand_use-in-Use t c =
    let first : remaining c.loop-piece.piece-iterator ≡ macro c.in-Use.used.now ∷ remaining c.next.new.self =
    c.in-Some.ensures.steps ∙ ap (λ p. meant p ∷ remaining c.next.new.self) c.in-Use.is in
    let p = err_from_is_err_and c.from_residual-in_err-expand_use-in-Use.result c.from_residual-in_err-expand_use-in-Use.ensures.1 in
    let macros = full c.args.below (table_of c.args.self.now) in
    rw (p.1, p.2)
    (refuse c.args.field.now c.loop-piece.field c.expand_use.new.field (text_of macros c.in-Use.used.now) (said c.args.below (table_of c.args.self.now) c.args.text.now) (put_in macros (remaining c.next.new.self)) _
    c.loop-piece.invariant.buffer c.loop-piece.invariant.place
    (split macros (vec_items c.loop-piece.field.out.now) _ (remaining c.loop-piece.piece-iterator) (remaining c.next.new.self) (macro c.in-Use.used.now) first c.loop-piece.invariant.whole)
    c.in_err-expand_use-in-Use.ensures)

pub expand_use-expand_text-requires : goal.expand_use-expand_text-requires
expand_use-expand_text-requires t c =
    let ms = vec_items c.args.self.now.table in
    let found : Some c.in-Some.at ≡ position_in (names_of (entries ms)) c.args.used.now = subst (λ l. Some c.in-Some.at ≡ position_in (names_of (entries l)) c.args.used.now) c.as_slice.ensures.value c.in-Some.ensures.first in
    let rank = rank_is ms c.args.used.now c.in-Some.at found in
    let is : c.index.result.now ≡ get_or ms c.in-Some.at blank = get_or_read ms c.in-Some.at c.index.result.now (omega (arith, c.in-Some.ensures.within, ap length c.as_slice.ensures.value)) c.index.ensures blank in
    (omega (arith, c.requires.before), (subst (λ m. all_before (names_of (entries ms)) c.in-Some.at m.text.now ≡ true) (sym is) (text_before ms c.args.used.now c.in-Some.at found c.args.self.now.ordered), omega (arith, c.requires.before, c.requires.within)))

pub expand_use-unreachable-requires : goal.expand_use-unreachable-requires
expand_use-unreachable-requires t c =
    let ms = vec_items c.args.self.now.table in
    let missing : None ≡ position_in (names_of (entries ms)) c.args.used.now = subst (λ l. None ≡ position_in (names_of (entries l)) c.args.used.now) c.as_slice.ensures.value (sym c.in_default.is ∙ c.macro_of.ensures.first) in
    not_missing ms c.args.used.now c.args.below missing c.requires.before (omega (arith, c.requires.within, c.args.self.now.table.ok.0))

pub expand_use-returns : goal.expand_use-returns
expand_use-returns t c =
    let ms = vec_items c.args.self.now.table in
    let found : Some c.in-Some.at ≡ position_in (names_of (entries ms)) c.args.used.now = subst (λ l. Some c.in-Some.at ≡ position_in (names_of (entries l)) c.args.used.now) c.as_slice.ensures.value c.in-Some.ensures.first in
    let is : c.index.result.now ≡ get_or ms c.in-Some.at blank = get_or_read ms c.in-Some.at c.index.result.now (omega (arith, c.in-Some.ensures.within, ap length c.as_slice.ensures.value)) c.index.ensures blank in
    subst (λ w. Grew c.args.field.now c.expand_text.new.field w c.expand_text.result)
    (ap (λ m. said c.in-Some.at (entries ms) m.text.now) is ∙ text_said ms c.args.used.now c.in-Some.at found c.args.below c.args.self.now.ordered (omega (arith, c.requires.within, c.args.self.now.table.ok.0)) c.requires.before)
    c.expand_text.ensures
