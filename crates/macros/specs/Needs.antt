-- Which macro of a table uses which, and what is answered on their order.
use Rattle.std.specs.Prelude.{◌≡◌, ℕ, ◌<◌, ◌&&◌, ◌||◌, List, [], length, Ok, Err, vec_items, Result, Vec, ◌==◌, nat_lt, slice_index_or}
use Rattle.std.specs.declared.alloc.Global.{Global}
use Rattle.refusal.specs.Numbers.{number}
use Rattle.refusal.specs.declared.kinds.Failure.{Failure}
use Rattle.refusal.specs.declared.kinds.Failure.TheVariants.{Refused, NoMemory}
use Rattle.links.specs.declared.arcs.Links.{Links}
use Rattle.links.specs.Linked.{nodes, linked}
use Rattle.graph.specs.Needs.{Orders}
use Rattle.scan.specs.Names.{Bytes}
use Rattle.verdict.specs.Circles.{on_circle}
use Rattle.verdict.specs.Macros.{Table, uses_macro}
use Rattle.verdict.specs.Verdict.{Read, read, refuse, refuse_first, macro_needs}

-- of the nodes, `from` needs now those of the first k macros that the text uses, and every other need is as it was
abbrev pub UsesAdded : Links → ℕ → Table → Bytes → ℕ → Links → Type 0
UsesAdded g from t text k g' =
    (x y : ℕ) → x < nodes g → y < nodes g → linked g' x y ≡ (linked g x y || (x == from && (nat_lt y k && uses_macro (slice_index_or t y ([], [])).0 text)))

-- 19 at the place of the least macro on a circle
abbrev pub circle_told : Table → List ℕ → Read (Unit {0})
circle_told t ps = refuse_first 19 (on_circle (length t) (macro_needs t)) ps

-- an order of all macros, and none lies on a circle; or the refusal of a circle
abbrev pub OrderTold : Table → List ℕ → Result (Vec ℕ Global) Failure → Type 0
OrderTold t ps (Ok v) = Orders (length t) (macro_needs t) (vec_items v) × (length (vec_items v) ≡ length t) × (circle_told t ps ≡ read tt)
OrderTold t ps (Err (Refused f)) = circle_told t ps ≡ refuse (number f.refusal) f.place
OrderTold t ps (Err NoMemory) = Unit {0}
