-- What `try_collect` gathers from a chain whose closure may fail: where no call failed, the rows of all calls.
use Rattle.std.proofs.Common.{◌≡◌, Bool, List, [], ◌∷◌, ◌++◌, map, Ok, Option, Result, vec_items, Vec, IfOk, sym, ap, ◌∙◌, subst, append_assoc, append-nil}
use mathlib.Core.List.{map-map}
use Rattle.std.specs.Fn.{Called}
use Rattle.std.specs.Iterator.{Yields, Drains}
use Rattle.std.specs.Iterator.Adapters.{map_source, map_callee}
use Rattle.std.specs.declared.iter.Map.{Map}
use Rattle.std.specs.List.{FoldsTo}
use Rattle.std.proofs.lemmas.Iterator.{YieldsList, maps, items_from_drains}
use Rattle.std.proofs.lemmas.List.{map_push}
use Rattle.std.proofs.lemmas.Result.{IfOk-at_ok}
use denote.Param.Members.{Mut}
use Rattle.graph.specs.Grid.{bits}

module _ {S A B Z Y E F : Type 0} (steps : S → Option A → S → Type 0) (v : A → B) (g : Mut F (A × Unit {0}) (Result (Vec Bool Z) E)) (row : B → List Bool) (f : F)
    (calls : (x : A) (r : Result (Vec Bool Z) E) (q : F) → Called g f (x, tt) r q → (q ≡ f) × IfOk r (λ w. vec_items w ≡ row (v x)))
    (R : Vec (Vec Bool Z) Y → Result (Vec Bool Z) E → Vec (Vec Bool Z) Y → Type 0)
    (adds : (p : Vec (Vec Bool Z) Y) (x : Result (Vec Bool Z) E) (q : Vec (Vec Bool Z) Y) → R p x q → (y : Vec Bool Z) × (x ≡ Ok y) × (vec_items q ≡ vec_items p ++ y ∷ [])) where
  gather : (s t : Map S F) (xs : List (Result (Vec Bool Z) E)) (b w : Vec (Vec Bool Z) Y) → map_callee s ≡ f → Yields (maps steps g) s xs t → FoldsTo R b xs w →
      (zs : List A) × Yields steps (map_source s) zs (map_source t) × (bits (vec_items w) ≡ bits (vec_items b) ++ map (λ z. row (v z)) zs)
  gather s t [] b w e y d = ([], ap map_source y, ap (λ q. bits (vec_items q)) (sym d) ∙ sym (append-nil (bits (vec_items b))))
  gather s t (x ∷ xs) b w e y d =
      let z = y.1.0 in
      let called : Called g f (z, tt) x (map_callee y.0) = subst (λ h. Called g h (z, tt) x (map_callee y.0)) e y.1.2 in
      let k = calls z x (map_callee y.0) called in
      let a = adds b x d.0 d.1 in
      let is : vec_items a.0 ≡ row (v z) = IfOk-at_ok (λ w. vec_items w ≡ row (v z)) a.1 k.1 in
      let rest = gather y.0 t xs d.0 w (k.0) y.2 d.2 in (
        z ∷ rest.0,
        (map_source y.0, y.1.1, rest.1),
        rest.2
            ∙ (ap (λ u. u ++ map (λ z. row (v z)) rest.0) (ap bits a.2 ∙ (map_push vec_items (vec_items b) a.0 ∙ ap (λ r. bits (vec_items b) ++ r ∷ []) is))
            ∙ append_assoc (bits (vec_items b)) (row (v z) ∷ []) (map (λ z. row (v z)) rest.0)),
      )

  pub gathered : {s : Map S F} (all : List B) → YieldsList steps v (map_source s) all → map_callee s ≡ f → (w : Vec (Vec Bool Z) Y) (xs : List (Result (Vec Bool Z) E)) (b : Vec (Vec Bool Z) Y) → Drains (maps steps g) s xs → vec_items b ≡ [] → FoldsTo R b xs w → bits (vec_items w) ≡ map row all
  gathered {s} all road callee w xs b dr empty d =
      let h = gather s dr.1.0 xs b w callee dr.1.1 d in
      let passed : map v h.0 ≡ all = items_from_drains h.0 (map_source dr.1.0, h.1, λ _. (map_source dr.0, dr.1.2.0)) road in
      h.2 ∙ (ap (λ u. bits u ++ map (λ z. row (v z)) h.0) empty ∙ (sym (map-map row v h.0) ∙ ap (map row) passed))
