-- The search passes nodes that do not reach themselves, and ends at one that does.
use Rattle.std.proofs.Common.{◌≡◌, ℕ, ◌+◌, ◌<◌, Bool, true, false, List, ◌∷◌, [], length, get_or, Some, None, Option, Vec, IfSome, MatchOption, unwrap_or, vec_items, sym, ap, ◌∙◌, subst, arith, rules, tests}
use Rattle.std.specs.List.{enumerate_from, AllWithin, HoldsAt}
use Rattle.std.proofs.lemmas.Iterator.{YieldsList-from_slice, IsFirst-from_position}
use Rattle.std.proofs.lemmas.Iterator.Adapters.{serves_from_places}
use Rattle.std.proofs.lemmas.Iterator.Consumers.{YieldsList-from_enumerate}
use Rattle.std.proofs.lemmas.List.{get_or_default}
use Rattle.std.proofs.lemmas.List.FromFn.{length-enumerate_from, get_or-enumerate_from}
use Rattle.graph.specs.Grid.{bits, cell, Square}
use Rattle.graph.proofs.Grids.{row_long, cell_read}
use Rattle.graph.proofs.rows.Rows.first_on_circle.Goals as goal

-- a numbered row has b at its own number
abbrev Own : {Z : Type 0} → Bool → ℕ × Vec Bool Z → Type 0
Own b p = b ≡ get_or (vec_items p.1) p.0 b

own_cell : {Z : Type 0} (rows : List (Vec Bool Z)) (b : Bool) (i : ℕ) → Square (bits rows) → i < length rows → HoldsAt (Own b) (enumerate_from 0 rows) i → cell (bits rows) i i ≡ b
own_cell [] b i square l h = absurd (omega arith)
own_cell (y ∷ ys) b i square l h =
    let from_zero : 0 + i ≡ i = omega arith in
    let own : Own b (i, get_or (y ∷ ys) i y) = subst (λ k. Own b (k, get_or (y ∷ ys) i y)) from_zero (subst (Own b) (get_or-enumerate_from 0 (y ∷ ys) i (0, y) l) (h (0, y))) in
    sym (cell_read (y ∷ ys) i (get_or (y ∷ ys) i y) l (get_or_default (y ∷ ys) i y (get_or (y ∷ ys) i y) l) square i b l own)

-- what the search tells in its two cases
parts : {Z : Type 0} (rows : List (Vec Bool Z)) (r : Option ℕ) → Square (bits rows)
    → MatchOption r (AllWithin (Own false) (enumerate_from 0 rows) 0 (length (enumerate_from 0 rows))) (λ i. (i < length (enumerate_from 0 rows)) × HoldsAt (Own true) (enumerate_from 0 rows) i × AllWithin (Own false) (enumerate_from 0 rows) 0 i)
    → IfSome r (λ a. (a < length rows) × (cell (bits rows) a a ≡ true)) × ((b : ℕ) → b < unwrap_or r (length rows) → cell (bits rows) b b ≡ false)
parts rows None square h =
    (tt, λ b l. own_cell rows false b square l (λ d. h b d (omega arith) (omega (arith, length-enumerate_from 0 rows))))
parts rows (Some a) square h =
    let l : a < length rows = omega (arith, h.0, length-enumerate_from 0 rows) in
    ((l, own_cell rows true a square l h.1), λ b m. own_cell rows false b square (omega arith) (λ d. h.2 b d (omega arith) m))

-- a numbered row has a place of its own number
within : {Z : Type 0} (rows : List (Vec Bool Z)) (p : ℕ × Vec Bool Z) (i : ℕ) → Square (bits rows) → i < length (enumerate_from 0 rows) → p ≡ get_or (enumerate_from 0 rows) i p → p.0 < length (vec_items p.1)
within rows p i square l e =
    let l' : i < length rows = omega (arith, length-enumerate_from 0 rows) in
    let is = e ∙ get_or-enumerate_from 0 rows i p l' in
    omega (arith, ap (λ q. q.0) is, row_long rows i p.1 l' (ap (λ q. q.1) is) square)

pub position-requires-clause-callable : goal.position-requires-clause-callable
position-requires-clause-callable c =
    let rows = vec_items c.args.self.now.rows in
    serves_from_places (YieldsList-from_enumerate (YieldsList-from_slice rows (cc)) c.enumerate.ensures.count)
    (λ x q k. search (rules, tests))
    (λ x i l e. let own = within rows (x.0, x.1.now) i c.args.self.now.square l e in search rules)

pub returns : goal.returns
returns c =
    let rows = vec_items c.args.self.now.rows in
    let h = parts rows c.position.result c.args.self.now.square
    (IsFirst-from_position _ _ c.position.result (Own true) (Own false) c.position.ensures.ran
    (YieldsList-from_enumerate (YieldsList-from_slice rows (cc)) c.enumerate.ensures.count)
    (λ x q k. search (rules, tests))
    (λ x q k. (search rules, search (rules, tests)))) in
    record { found = h.0; before = h.1 }
