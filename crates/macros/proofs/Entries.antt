-- Why the entries of macros have the macros' names, texts and number.
use Rattle.std.proofs.Common.{◌≡◌, ℕ, zero, suc, List, [], ◌∷◌, map, length, get_or, refl, ap, ◌∙◌}
use lib.ListN.{length-map}
use Rattle.scan.specs.Names.{Bytes}
use Rattle.verdict.specs.Macros.{names_of}
use Rattle.macros.specs.declared.uses.Macro.{Macro}
use Rattle.macros.specs.Uses.{entry, entries}

pub names_are : (ms : List Macro) → map (λ m. m.name.now) ms ≡ names_of (entries ms)
names_are [] = refl
names_are (m ∷ ms) = ap (λ l. m.name.now ∷ l) (names_are ms)

pub names_count : (ms : List Macro) → length (names_of (entries ms)) ≡ length ms
names_count ms = length-map (entries ms) (λ (e : Bytes × Bytes). e.0) ∙ length-map ms entry

-- what stands past the end of a list of macros
abbrev pub blank : Macro
blank = record { name = record { ref_ptr = (0, 0); now = [] }; text = record { ref_ptr = (0, 0); now = [] }; place = 0 }

pub entry_at : (ms : List Macro) (p : ℕ) → entry (get_or ms p blank) ≡ get_or (entries ms) p ([], [])
entry_at [] p = refl
entry_at (m ∷ ms) zero = refl
entry_at (m ∷ ms) (suc p) = entry_at ms p
