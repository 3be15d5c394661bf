-- Why the macros by name are judged as the definition says, and why the table that is made of them judges fields as they do.
use Rattle.std.proofs.Common.{◌≡◌, ℕ, ◌<◌, ◌≤◌, true, false, cond, not, List, [], ◌∷◌, length, get_or, Err, sym, refl, ap, ◌∙◌, subst, ap₂}
use lib.ListN.{length-map}
use Rattle.std.proofs.lemmas.List.{get_or-map}
use Rattle.std.proofs.lemmas.Bool.{le-leb, not-false}
use Rattle.refusal.specs.Numbers.{number}
use Rattle.refusal.specs.declared.kinds.Failure.{Failure}
use Rattle.refusal.specs.declared.kinds.Failure.TheVariants.{Refused, NoMemory}
use Rattle.graph.specs.Needs.{Orders}
use Rattle.names.specs.ByName.{sorted_by}
use Rattle.names.proofs.Sorting.{sorted_told}
use Rattle.scan.specs.Names.{Bytes, among}
use Rattle.verdict.specs.Circuit.{sorted}
use Rattle.verdict.specs.Macros.{names_of, text_of, all_known, field, finished}
use Rattle.verdict.specs.Verdict.{Read, read, refuse, refuse_first, places, check_macros, macro_needs, ◌>>=◌}
use Rattle.verdict.proofs.Circular.{first_read, length_sorted}
use Rattle.verdict.proofs.Uses.{among_sorted, text_of_sorted}
use Rattle.macros.specs.declared.uses.Macro.{Macro}
use Rattle.macros.specs.Full.{text_at, InOrder}
use Rattle.macros.specs.Needs.{circle_told, OrderTold}
use Rattle.macros.specs.Tables.{Distinct, picked, unknowns, placed, judged, Made}
use Rattle.macros.specs.Uses.{entry, entries, places_of}
use Rattle.macros.proofs.Arranging.{picked_length, picked_known, picked_text, in_order}
use Rattle.macros.proofs.Same.{distinct_sorted, fields_same}

places_placed : (ms : List Macro) → places_of ms ≡ places (placed ms)
places_placed [] = refl
places_placed (m ∷ ms) = ap (λ l. m.place ∷ l) (places_placed ms)

module _ (ms rows : List Macro) (by_name : rows ≡ sorted_by (λ (m : Macro). m.name.now) ms) (few : length ms ≤ 64) where
  rows_entries : entries rows ≡ sorted (entries ms)
  rows_entries = ap entries by_name ∙ sorted_told (λ (m : Macro). m.name.now) (λ (m : Macro). m.text.now) ms

  rows_places : places_of rows ≡ places (sorted (placed ms))
  rows_places = places_placed rows ∙ ap places (ap placed by_name ∙ sorted_told (λ (m : Macro). m.name.now) (λ (m : Macro). m.place) ms)

  pub rows_length : length rows ≡ length ms
  rows_length = sym (length-map rows entry) ∙ (ap length rows_entries ∙ (length_sorted (entries ms) ∙ length-map ms entry))

  judged_is : judged ms ≡ (refuse_first 18 (unknowns (entries rows)) (places_of rows) >>= (λ _. circle_told (entries rows) (places_of rows)))
  judged_is =
      ap (λ b. cond b (check_macros (sorted (entries ms)) (places (sorted (placed ms)))) (refuse 16 (get_or (places_of ms) 64 0))) (le-leb (length ms) 64 few)
      ∙ ap₂ check_macros (sym rows_entries) (sym rows_places)

  -- 18
  pub unknown_told : (n p : ℕ) → refuse n p ≡ refuse_first 18 (unknowns (entries rows)) (places_of rows) → judged ms ≡ refuse n p
  unknown_told n p e = judged_is ∙ ap (λ (r : Read (Unit {0})). r >>= (λ _. circle_told (entries rows) (places_of rows))) (sym e)

  module _ (known : read tt ≡ refuse_first 18 (unknowns (entries rows)) (places_of rows)) where
    -- 19, or nothing
    pub circle_judged : (r : Read (Unit {0})) → circle_told (entries rows) (places_of rows) ≡ r → judged ms ≡ r
    circle_judged r e = judged_is ∙ (ap (λ (q : Read (Unit {0})). q >>= (λ _. circle_told (entries rows) (places_of rows))) (sym known) ∙ e)

    pub order_failed : (f : Failure) → OrderTold (entries rows) (places_of rows) (Err f) → Made ms (Err f)
    order_failed (Refused g) e = circle_judged (refuse (number g.refusal) g.place) e
    order_failed NoMemory e = tt

    texts_known : (i : ℕ) → i < length (entries rows) → all_known (names_of (entries rows)) (text_at (entries rows) i) ≡ true
    texts_known i l =
        not-false (all_known (names_of (entries rows)) (text_at (entries rows) i))
        (sym (get_or-map (λ (m : Bytes × Bytes). not (all_known (names_of (entries rows)) m.1)) (entries rows) i ([], []) false l)
        ∙ first_read 18 (unknowns (entries rows)) (places_of rows) tt
        (length-map (entries rows) (λ (m : Bytes × Bytes). not (all_known (names_of (entries rows)) m.1)) ∙ (length-map rows entry ∙ sym (length-map rows (λ (m : Macro). m.place)))) (sym known) i)

    module _ (v : List ℕ) (o : Orders (length (entries rows)) (macro_needs (entries rows)) v) where
      pub table_in_order : (made : List Macro) → entries made ≡ picked (entries rows) v → InOrder (entries made)
      table_in_order made e = subst InOrder (sym e) (in_order (entries rows) v o texts_known)

  pub same_fields : (v : List ℕ) → Orders (length (entries rows)) (macro_needs (entries rows)) v → length v ≡ length (entries rows) → (made : List Macro) → entries made ≡ picked (entries rows) v → Distinct (names_of (entries ms)) → (w : Bytes) → field (finished (entries made)) w ≡ field (finished (entries ms)) w
  same_fields v o long made e d w =
      let apart : Distinct (names_of (entries rows)) = subst (λ t. Distinct (names_of t)) (sym rows_entries) (distinct_sorted (entries ms) d) in
      ap (λ t. field (finished t) w) e
      ∙ fields_same (picked (entries rows) v) (entries ms)
      (picked_length (entries rows) v o ∙ (long ∙ (ap length rows_entries ∙ length_sorted (entries ms))))
      (λ n. picked_known (entries rows) v o n ∙ (ap (λ t. among (names_of t) n) rows_entries ∙ among_sorted (entries ms) n))
      (λ n. picked_text (entries rows) v o apart n ∙ (ap (λ t. text_of t n) rows_entries ∙ text_of_sorted (entries ms) d n))
      w
