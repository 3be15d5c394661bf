-- Why a buffer that took a field with all uses put in holds what the field is judged to be: the judgement looks at its first 1,024 bytes.
use Rattle.std.proofs.Common.{◌≡◌, ℕ, zero, suc, ◌<◌, ◌≤◌, Bool, true, false, cond, ltb, leb, List, [], ◌∷◌, map, length, take, Ok, Err, Result, sym, refl, ap, ◌∙◌, ⊎_elim, arith}
use Rattle.std.proofs.lemmas.List.{take_all, length-take-le}
use Rattle.std.proofs.lemmas.Bool.{and_parts, and_from, or_cases, le-leb, lt-leb, lt-ltb, false≢true, both_ways}
use Rattle.refusal.specs.Numbers.{number}
use Rattle.refusal.specs.declared.kinds.Failure.{Failure}
use Rattle.refusal.specs.declared.kinds.Failure.TheVariants.{Refused, NoMemory}
use Rattle.numbers.specs.Judged.{good, bad, ◌>>=◌, check}
use Rattle.scan.specs.Names.{Bytes, same, among, all}
use Rattle.verdict.specs.Circuit.{rank_in}
use Rattle.verdict.specs.Macros.{Piece, plain, macro, Table, names_of, filled, deep, finished, is_known, all_known, field}
use Rattle.verdict.proofs.Putting.{filled_full}
use Rattle.macros.specs.Filling.{Wrote, Filled}
use Rattle.macros.specs.Full.{said, is_before}

-- putting in keeps the names
pub names_deep : (k : ℕ) (t : Table) → names_of (deep k t) ≡ names_of t
names_deep zero t = refl
names_deep (suc k) t = kept (filled (deep k t)) t
  where
    kept : (g : Bytes → Bytes) (es : Table) → names_of (map (λ (e : Bytes × Bytes). (e.0, g e.1)) es) ≡ names_of es
    kept g [] = refl
    kept g (e ∷ es) = ap (λ l. e.0 ∷ l) (kept g es)

-- a known name stands among the names
pub rank_within : (ns : List Bytes) (n : Bytes) → among ns n ≡ true → rank_in ns n < length ns
rank_within [] n h = absurd (false≢true h)
rank_within (m ∷ ms) n h = by (same m n) refl (λ g. rank_within ms n g)
  where
    by : (b : Bool) → same m n ≡ b → (among ms n ≡ true → rank_in ms n < length ms) → cond b 0 (suc (rank_in ms n)) < length (m ∷ ms)
    by true q k = omega arith
    by false q k =
        let l = k (⊎_elim (λ y. absurd (both_ways (same m n) q y)) (λ y. y) (or_cases (same m n) (among ms n) h)) in
        omega arith

pub known_before : (ns : List Bytes) (ps : List Piece) → all (is_known ns) ps ≡ true → all (is_before ns (length ns)) ps ≡ true
known_before ns [] h = refl
known_before ns (plain b ∷ ps) h = known_before ns ps h
known_before ns (macro n ∷ ps) h =
    let k = and_parts (among ns n) (all (is_known ns) ps) h in
    and_from (ltb (rank_in ns n) (length ns)) (all (is_before ns (length ns)) ps) (lt-ltb (rank_in ns n) (length ns) (rank_within ns n k.0)) (known_before ns ps k.1)

pub unknown_field : (t : Table) (w : Bytes) → all_known (names_of t) w ≡ false → field (finished t) w ≡ bad 18
unknown_field t w h =
    ap (λ a. check a 18 >>= (λ _. check (leb (length (filled (finished t) w)) 1023) 16 >>= (λ _. good (filled (finished t) w))))
    (ap (λ ns. all_known ns w) (names_deep (length t) t) ∙ h)

module _ (t : Table) (w : Bytes) (known : all_known (names_of t) w ≡ true) where
  told : (x : Bytes) → filled (finished t) w ≡ x → field (finished t) w ≡ (check (leb (length x) 1023) 16 >>= (λ _. good x))
  told x e =
      ap (λ a. check a 18 >>= (λ _. check (leb (length (filled (finished t) w)) 1023) 16 >>= (λ _. good (filled (finished t) w))))
      (ap (λ ns. all_known ns w) (names_deep (length t) t) ∙ known)
      ∙ ap (λ y. check (leb (length y) 1023) 16 >>= (λ _. good y)) e

  cut : filled (finished t) w ≡ take 1024 (said (length t) t w)
  cut = filled_full (length t) t w

  fits : length (said (length t) t w) ≤ 1023 → field (finished t) w ≡ good (said (length t) t w)
  fits l =
      told (said (length t) t w) (cut ∙ take_all 1024 (said (length t) t w) (omega arith))
      ∙ ap (λ b. check b 16 >>= (λ _. good (said (length t) t w))) (le-leb (length (said (length t) t w)) 1023 l)

  too_long : 1023 < length (said (length t) t w) → field (finished t) w ≡ bad 16
  too_long l =
      let n : length (take 1024 (said (length t) t w)) ≡ 1024 = length-take-le 1024 (said (length t) t w) (omega arith) in
      told (take 1024 (said (length t) t w)) cut
      ∙ ap (λ b. check b 16 >>= (λ _. good (take 1024 (said (length t) t w)))) (lt-leb (length (take 1024 (said (length t) t w))) 1023 (omega arith))

  pub filled_from : (place : ℕ) (holds : Bytes) (r : Result Unit Failure) → Wrote place [] holds (said (length t) t w) r → Filled place (field (finished t) w) holds r
  filled_from place holds (Ok u) h = fits h.1 ∙ ap good (sym h.0)
  filled_from place holds (Err (Refused f)) h = (too_long h.1 ∙ ap (λ g. bad (number g.refusal)) (sym h.0), ap (λ g. g.place) h.0)
  filled_from place holds (Err NoMemory) h = tt
