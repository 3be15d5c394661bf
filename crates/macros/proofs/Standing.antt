-- Why a use can be put in by the macro that a search finds: the macro stands before its users, and so do those that its text uses.
use Rattle.std.proofs.Common.{◌≡◌, ℕ, ◌<◌, ◌≤◌, true, List, length, get_or, Some, None, unwrap_or, sym, ap, ◌∙◌, subst, arith}
use lib.ListN.{length-map}
use Rattle.names.specs.Positions.{position_in}
use Rattle.names.proofs.Finding.{rank_position, rank_found}
use Rattle.scan.specs.Names.{Bytes}
use Rattle.verdict.specs.Circuit.{rank_in}
use Rattle.verdict.specs.Macros.{names_of, text_of}
use Rattle.macros.specs.declared.uses.Macro.{Macro}
use Rattle.macros.specs.Full.{full, said, all_before, text_at, InOrder}
use Rattle.macros.specs.Uses.{entry, entries}
use Rattle.macros.proofs.Entries.{names_count, blank, entry_at}
use Rattle.macros.proofs.Depth.{use_said}

-- a macro before `below` is found
pub not_missing : (ms : List Macro) (n : Bytes) (below : ℕ) → None ≡ position_in (names_of (entries ms)) n → rank_in (names_of (entries ms)) n < below → below ≤ length ms → ⊥
not_missing ms n below e h l =
    let r : rank_in (names_of (entries ms)) n ≡ length (names_of (entries ms)) = rank_position (names_of (entries ms)) n ∙ ap (λ o. unwrap_or o (length (names_of (entries ms)))) (sym e) in
    omega (arith, names_count ms)

text_of_entry : (ms : List Macro) (p : ℕ) → (get_or ms p blank).text.now ≡ text_at (entries ms) p
text_of_entry ms p = ap (λ e. e.1) (entry_at ms p)

module _ (ms : List Macro) (n : Bytes) (at : ℕ) (e : Some at ≡ position_in (names_of (entries ms)) n) where
  pub rank_is : rank_in (names_of (entries ms)) n ≡ at
  rank_is = rank_found (names_of (entries ms)) n at (sym e)

  pub text_before : InOrder (entries ms) → all_before (names_of (entries ms)) at (get_or ms at blank).text.now ≡ true
  text_before o = subst (λ w. all_before (names_of (entries ms)) at w ≡ true) (sym (text_of_entry ms at)) (o at)

  pub text_said : (below : ℕ) → InOrder (entries ms) → below ≤ length ms → rank_in (names_of (entries ms)) n < below → said at (entries ms) (get_or ms at blank).text.now ≡ text_of (full below (entries ms)) n
  text_said below o l h =
      ap (said at (entries ms)) (text_of_entry ms at)
      ∙ (subst (λ k. said k (entries ms) (text_at (entries ms) k) ≡ text_of (full below (entries ms)) n) rank_is
      (use_said (entries ms) o below n (omega (arith, length-map ms entry)) h))
