-- Why the pieces that are handed out are the pieces of the text: a use takes the bytes of its name from the text, and another byte only itself.
use Rattle.std.proofs.Common.{◌≡◌, ℕ, zero, suc, ◌-◌, ◌≤◌, Bool, true, false, cond, [], ◌∷◌, length, take, drop, Some, None, sym, refl, ap, ◌∙◌, arith}
use Rattle.std.proofs.lemmas.List.{take_rest}
use Rattle.scan.specs.Names.{Bytes}
use Rattle.verdict.specs.Macros.{run, opens_use, used_name, piece_at, plain, macro, pieces_from, pieces}
use Rattle.macros.specs.Uses.{use_at}
use Rattle.macros.proofs.Runs.{run_short}

-- the bytes that belong to the use before are passed over
pub from_later : (k : ℕ) (t : Bytes) → pieces_from k t ≡ pieces (drop k t)
from_later zero t = refl
from_later (suc k) [] = refl
from_later (suc k) (b ∷ bs) = from_later k bs

-- what the first byte opens
first_piece : (o : Bool) (b : ℕ) (bs : Bytes) → piece_at o b (used_name o bs) ∷ pieces_from (length (used_name o bs)) bs ≡ cond o (macro (run bs) ∷ pieces (drop (length (run bs)) bs)) (plain b ∷ pieces bs)
first_piece true b bs = ap (λ l. macro (run bs) ∷ l) (from_later (length (run bs)) bs)
first_piece false b bs = refl

used : (o : Bool) (n m : Bytes) → Some n ≡ cond o (Some m) None → (o ≡ true) × (n ≡ m)
used true n m e = (refl, cc)
used false n m e = let z : ◌≡◌ {A = ℕ} 0 1 = cc in absurd (omega arith)

pub hands_use : (b : ℕ) (bs n : Bytes) → Some n ≡ use_at (b ∷ bs) → (pieces (b ∷ bs) ≡ macro n ∷ pieces (take (length bs - length n) (drop (length n) bs))) × (length n ≤ length bs)
hands_use b bs n e =
    let u = used (opens_use b bs) n (run bs) e in (
      first_piece (opens_use b bs) b bs
          ∙ (ap (λ o. cond o (macro (run bs) ∷ pieces (drop (length (run bs)) bs)) (plain b ∷ pieces bs)) u.0
          ∙ (ap (λ m. macro m ∷ pieces (drop (length m) bs)) (sym u.1)
          ∙ ap (λ l. macro n ∷ pieces l) (sym (take_rest bs (length n))))),
      omega (arith, run_short bs, ap length u.1),
    )
