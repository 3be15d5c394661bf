-- What is told of an expression: how many items it has, and which of them are kept.
use Rattle.std.specs.Prelude.{◌≡◌, ℕ, List, [], ◌∷◌, ◌++◌, map, length, Ok, Err, Result}
use Rattle.refusal.specs.declared.kinds.Failure.{Failure}
use Rattle.refusal.specs.declared.kinds.Failure.TheVariants.{Refused, NoMemory}
use Rattle.scan.specs.Names.{Bytes}
use Rattle.scan.specs.declared.names.Name.{Name}
use Rattle.circuit.specs.declared.parts.Item.{Item as CodeItem}
use Rattle.numbers.specs.Judged.{Judged, good, bad, ◌>>=◌}
use Rattle.numbers.specs.Splits.{split}
use Rattle.verdict.specs.Items.{Expression, item, expression}
use Rattle.items.specs.Meaning.{item_of}
use Rattle.items.specs.Least.{fault_number}

-- how many items there are
abbrev pub counted : Judged (Expression Bytes) → Judged ℕ
counted j = do
  es ← j
  good (length es)

-- one piece after the other, up to the first that is refused
abbrev pub in_turn : {X : Type 0} → List (Judged X) → Judged (List X)
in_turn [] = good []
in_turn (j ∷ js) = do
  x ← j
  xs ← in_turn js
  good (x ∷ xs)

-- the items of a field, read one after the other
abbrev pub items_in_turn : Bytes → Judged (Expression Bytes)
items_in_turn t = in_turn (map item (split 44 t))

-- all items of the field are new, or the first that is refused is the answer, at the place
abbrev pub Read : Bytes → ℕ → Expression Bytes → Result (Unit {0}) Failure → Type 0
Read t place new (Ok done) = items_in_turn t ≡ good new
Read t place new (Err (Refused f)) = (items_in_turn t ≡ bad (fault_number f)) × (f.place ≡ place)
Read t place new (Err NoMemory) = Unit {0}

-- a good expression is not refused, and its items are the new ones
abbrev pub Whole : Expression Bytes → Expression Bytes → Result (Unit {0}) Failure → Type 0
Whole es new (Ok done) = new ≡ es
Whole es new (Err (Refused f)) = ⊥
Whole es new (Err NoMemory) = Unit {0}

-- the items that were there, and new ones behind them
pub record Kept (t : Bytes) (place : ℕ) (before after : List (CodeItem Name)) (r : Result (Unit {0}) Failure) : Type 0 where
  pub new : List (CodeItem Name)
  pub behind : after ≡ before ++ new
  pub read : Read t place (map item_of new) r
  pub whole : (es : Expression Bytes) → expression t ≡ good es → Whole es (map item_of new) r
