-- Why a search tells whether a macro is known, and why tests of pieces one by one tell of all of them.
use Rattle.std.proofs.Common.{◌≡◌, ℕ, Bool, ◌&&◌, ◌||◌, List, [], ◌∷◌, is_some, Option, sym, refl, ap, ◌∙◌}
use Rattle.std.specs.List.{list_all, list_any}
use Rattle.names.specs.Positions.{position_in}
use Rattle.names.proofs.Finding.{found_among}
use Rattle.scan.specs.Names.{Bytes, same, among, all}
use Rattle.verdict.specs.Macros.{Piece, plain, macro, uses_of}
use Rattle.macros.specs.Pieces.{is_use_of}

pub asked : (ns : List Bytes) (n : Bytes) (o : Option ℕ) (b : Bool) → o ≡ position_in ns n → is_some o ≡ b → among ns n ≡ b
asked ns n o b e h = sym (found_among ns n) ∙ (ap is_some (sym e) ∙ h)

-- the library's word for a test of all
pub all_is : {X : Type 0} (p : X → Bool) (xs : List X) → list_all p xs ≡ all p xs
all_is p [] = refl
all_is p (x ∷ xs) = ap (λ b. p x && b) (all_is p xs)

pub any_use : (n : Bytes) (ps : List Piece) → list_any (is_use_of n) ps ≡ among (uses_of ps) n
any_use n [] = refl
any_use n (plain b ∷ ps) = any_use n ps
any_use n (macro m ∷ ps) = ap (λ b. same m n || b) (any_use n ps)
