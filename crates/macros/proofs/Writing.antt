-- Why the buffer grows by what each piece stands for, and why a buffer that is too small for a part is too small for the whole.
use Rattle.std.proofs.Common.{◌≡◌, ℕ, List, [], ◌∷◌, ◌++◌, length, take, vec_items, Err, sym, refl, ap, ◌∙◌, subst, append_assoc, arith, length-append}
use Rattle.std.proofs.lemmas.List.{take-append-le, take_at}
use Rattle.refusal.specs.declared.kinds.Failure.{Failure}
use Rattle.refusal.specs.declared.kinds.Failure.TheVariants.{Refused, NoMemory}
use Rattle.scan.specs.Names.{Bytes}
use Rattle.verdict.specs.Macros.{Piece, plain, macro, Table, text_of, put_in}
use Rattle.macros.specs.declared.expand.Field.{Field}
use Rattle.macros.specs.Filling.{Wrote}
use Rattle.macros.specs.Growing.{Grew}

-- what a piece stands for
abbrev pub bytes_of : Table → Piece → Bytes
bytes_of f (plain b) = b ∷ []
bytes_of f (macro n) = text_of f n

put_first : (f : Table) (p : Piece) (ps : List Piece) → put_in f (p ∷ ps) ≡ bytes_of f p ++ put_in f ps
put_first f (plain b) ps = refl
put_first f (macro n) ps = refl

-- the first of the pieces that are left, and the others
pub split : (f : Table) (o whole : Bytes) (ps rest : List Piece) (p : Piece) → ps ≡ p ∷ rest → o ++ put_in f ps ≡ whole → o ++ (bytes_of f p ++ put_in f rest) ≡ whole
split f o whole ps rest p e h = ap (λ l. o ++ l) (sym (put_first f p rest) ∙ ap (put_in f) (sym e)) ∙ h

-- a part that does not fit
too_long : (place : ℕ) (o₀ o o' w more rest : Bytes) (f : Failure) → o ++ (w ++ rest) ≡ o₀ ++ more → Wrote place o o' w (Err f) → Wrote place o₀ o' more (Err f)
too_long place o₀ o o' w more rest (Refused f) e h =
    let whole : (o ++ w) ++ rest ≡ o₀ ++ more = append_assoc o w rest ∙ e in (
      h.0,
      omega (arith, h.1, ap length whole, length-append (o ++ w) rest),
      h.2 ∙ (sym (take-append-le 1023 (o ++ w) rest (omega (arith, h.1))) ∙ ap (take 1023) whole),
    )
too_long place o₀ o o' w more rest NoMemory e h = h

-- a part that does not fit into the field
pub refuse : (f₀ f f' : Field) (w more rest : Bytes) (e : Failure) → f.out.ghost_name ≡ f₀.out.ghost_name → f.place ≡ f₀.place →
    vec_items f.out.now ++ (w ++ rest) ≡ vec_items f₀.out.now ++ more → Grew f f' w (Err e) → Grew f₀ f' more (Err e)
refuse f₀ f f' w more rest e b p h g = (
  g.0 ∙ b,
  g.1 ∙ p,
  too_long f₀.place (vec_items f₀.out.now) (vec_items f.out.now) (vec_items f'.out.now) w more rest e h
      (subst (λ k. Wrote k (vec_items f.out.now) (vec_items f'.out.now) w (Err e)) p g.2),
)

-- a full buffer holds the first bytes of what does not fit
pub full_buffer : (o : Bytes) (b : ℕ) → length o ≡ 1023 → o ≡ take 1023 (o ++ (b ∷ []))
full_buffer o b e = sym (take_at o (b ∷ []) 1023 e)
