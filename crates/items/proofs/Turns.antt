-- Items read one after the other are all items: where none is refused, the order in which they are judged does not matter.
use Rattle.std.proofs.Common.{◌≡◌, ℕ, Bool, true, false, leb, List, [], ◌∷◌, ◌++◌, map, sym, refl, ap, ◌∙◌, append_assoc, append-nil, arith}
use mathlib.Core.List.{map-append}
use Rattle.scan.specs.Names.{Bytes}
use Rattle.scan.specs.declared.names.Name.{Name}
use Rattle.circuit.specs.declared.parts.Item.{Item as CodeItem}
use Rattle.numbers.specs.Judged as judging
use Rattle.numbers.specs.Judged.{Judged, good, bad, check, front, every}
use Rattle.numbers.specs.Numbers.{sum}
use Rattle.numbers.specs.Splits.{split}
use Rattle.verdict.specs.Items.{Expression, width, item, expression}
use Rattle.items.specs.Meaning.{item_of}
use Rattle.items.specs.Told.{in_turn, items_in_turn}

-- what comes, behind what was read
abbrev pub after : {X : Type 0} → List X → Judged (List X) → Judged (List X)
after xs j = judging.◌>>=◌ j (λ ys. good (xs ++ ys))

-- one more
more : {X : Type 0} (xs : List X) (x : X) (j : Judged (List X)) → after (xs ++ x ∷ []) j ≡ after xs (judging.◌>>=◌ j (λ ys. good (x ∷ ys)))
more xs x (good ys) = ap good (append_assoc xs (x ∷ []) ys)
more xs x (bad k) = refl

-- the next piece is a good item
pub turn_more : (new : List (CodeItem Name)) (one : CodeItem Name) (p : Bytes) (ps qs : List Bytes) {all : Judged (Expression Bytes)} → good (item_of one) ≡ item p → qs ≡ p ∷ ps → after (map item_of new) (in_turn (map item qs)) ≡ all → after (map item_of (new ++ one ∷ [])) (in_turn (map item ps)) ≡ all
turn_more new one p ps qs e h inv =
    ap (λ es. after es (in_turn (map item ps))) (map-append item_of new (one ∷ [])) ∙ more (map item_of new) (item_of one) (in_turn (map item ps))
    ∙ ap (λ j. after (map item_of new) (judging.◌>>=◌ j (λ x. judging.◌>>=◌ (in_turn (map item ps)) (λ xs. good (x ∷ xs))))) e
    ∙ sym (ap (λ rs. after (map item_of new) (in_turn (map item rs))) h)
    ∙ inv

-- the next piece is refused
pub turn_bad : (new : Expression Bytes) (k : ℕ) (p : Bytes) (ps qs : List Bytes) {all : Judged (Expression Bytes)} → bad k ≡ item p → qs ≡ p ∷ ps → after new (in_turn (map item qs)) ≡ all → all ≡ bad k
turn_bad new k p ps qs e h inv =
    sym inv ∙ ap (λ rs. after new (in_turn (map item rs))) h ∙ sym (ap (λ j. after new (judging.◌>>=◌ j (λ x. judging.◌>>=◌ (in_turn (map item ps)) (λ xs. good (x ∷ xs))))) e)

-- one more item behind those that were kept
pub kept_more : {X : Type 0} (before new there now : List X) (x : X) → now ≡ there ++ x ∷ [] → there ≡ before ++ new → now ≡ before ++ (new ++ x ∷ [])
kept_more before new there now x e h = e ∙ ap (λ xs. xs ++ x ∷ []) h ∙ append_assoc before new (x ∷ [])

-- all good: the same in turn
pub every_turn : {X : Type 0} (js : List (Judged X)) (xs : List X) → every js ≡ good xs → in_turn js ≡ good xs
every_turn [] xs e = e
every_turn {X} (j ∷ js) xs e = one j (every js) (every_turn js) e where
  one : (j : Judged X) (k : Judged (List X)) → ((ys : List X) → k ≡ good ys → in_turn js ≡ good ys) → front j k ≡ good xs → judging.◌>>=◌ j (λ x. judging.◌>>=◌ (in_turn js) (λ ys. good (x ∷ ys))) ≡ good xs
  one (good x) (good ys) ih h = ap (λ t. judging.◌>>=◌ t (λ zs. good (x ∷ zs))) (ih ys refl) ∙ h
  one (good x) (bad m) ih h = let z : ◌≡◌ {A = ℕ} 0 1 = cc in absurd (omega arith)
  one (bad n) (good ys) ih h = let z : ◌≡◌ {A = ℕ} 0 1 = cc in absurd (omega arith)
  one (bad n) (bad m) ih h = let z : ◌≡◌ {A = ℕ} 0 1 = cc in absurd (omega arith)

narrow : (j : Judged (Expression Bytes)) (es : Expression Bytes) → judging.◌>>=◌ j (λ xs. judging.◌>>=◌ (check (leb (sum (map width xs)) 31) 15) (λ _. good xs)) ≡ good es → j ≡ good es
narrow (good xs) es h = checked (leb (sum (map width xs)) 31) h where
  checked : (v : Bool) → judging.◌>>=◌ (check v 15) (λ _. good xs) ≡ good es → good xs ≡ good es
  checked true e = e
  checked false e = let z : ◌≡◌ {A = ℕ} 0 1 = cc in absurd (omega arith)
narrow (bad k) es h = let z : ◌≡◌ {A = ℕ} 0 1 = cc in absurd (omega arith)

pub expression_turn : (t : Bytes) (es : Expression Bytes) → expression t ≡ good es → items_in_turn t ≡ good es
expression_turn t es h = every_turn (map item (split 44 t)) es (narrow (every (map item (split 44 t))) es h)

-- the end
pub turn_all : (new : Expression Bytes) (ps : List Bytes) {all : Judged (Expression Bytes)} → ps ≡ [] → after new (in_turn (map item ps)) ≡ all → all ≡ good new
turn_all new ps e h = sym h ∙ ap (λ qs. after new (in_turn (map item qs))) e ∙ ap good (append-nil new)

-- what is read in turn of a good expression is the expression
pub turn_same : (t : Bytes) (new es : Expression Bytes) → items_in_turn t ≡ good new → expression t ≡ good es → new ≡ es
turn_same t new es e h = let all = expression_turn t es h in cc

pub turn_never : (t : Bytes) (k : ℕ) (es : Expression Bytes) → items_in_turn t ≡ bad k → expression t ≡ good es → ⊥
turn_never t k es e h = let all = expression_turn t es h in let z : ◌≡◌ {A = ℕ} 0 1 = cc in omega arith
