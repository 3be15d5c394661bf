-- Why the words of a text are its pieces that no blank and no comment parts: what is known where the scan stands at a place.
use Rattle.std.proofs.Common.{◌≡◌, ℕ, zero, suc, ◌+◌, ◌-◌, ◌<◌, ◌≤◌, ◌⊎◌, List, [], ◌∷◌, length, get_or, take, drop, sym, refl, ap, ◌∙◌, subst, inl, inr, ⊎_elim, arith, length-drop, length-take-le, get_or-drop, get_or-take}
use Rattle.std.specs.List.{AllByRecursion}
use Rattle.std.proofs.lemmas.List.{drop_all}
use Rattle.std.proofs.lemmas.Bool.{cases_lt}
use Rattle.scan.specs.Names.{Bytes}
use Rattle.scan.specs.declared.scanner.Class.{Class}
use Rattle.scan.specs.declared.scanner.Class.TheVariants.{Blank, Open, Close, Other}
use Rattle.scan.specs.Words.{Word, Where, between, word, comment, after, ended, words_from, words_after, class_of, cut}
use Rattle.scan.specs.WordsStand.{IsBlank, Commented, Stands, Ascending, InSome, WordsStand}
use Rattle.scan.proofs.Classes.{Plain, Told, told, close_plain, blank_opens_not, blank_closes_not}
use Rattle.scan.proofs.WordSteps.{turn}

-- a comment is open at p: a place before p holds `{`, and no `}` stands from there on
abbrev OpenAt : Bytes → ℕ → ℕ → Type 0
OpenAt t s p = (o : ℕ) × (s ≤ o) × (o < p) × (get_or t o 0 ≡ 123) × ((j : ℕ) → o ≤ j → j < p → get_or t j 0 ≡ 125 → ⊥)

-- the bytes from f up to p are fit for a word, and none is in a comment
abbrev Inside : Bytes → ℕ → ℕ → ℕ → Type 0
Inside t s f p = (k : ℕ) → f ≤ k → k < p → Plain (get_or t k 0) × (Commented t s k → ⊥)

-- what is known where the scan from s on stands at p
abbrev Begun : Bytes → ℕ → Where → ℕ → Type 0
Begun t s between p = (s ≤ p) × (OpenAt t s p → ⊥)
Begun t s (word f) p = (s ≤ f) × (f < p) × (p ≤ length t) × Inside t s f p × (OpenAt t s p → ⊥)
Begun t s comment p = (s ≤ p) × OpenAt t s p

-- where what is not judged yet begins
abbrev lower : Where → ℕ → ℕ
lower between p = p
lower (word f) p = f
lower comment p = p

-- what is to show of the words to come
record Good (t : Bytes) (s q : ℕ) (ws : List Word) : Type 0 where
  each : AllByRecursion (Stands t) ws
  ascending : Ascending q ws
  rest : (k : ℕ) → q ≤ k → k < length t → InSome ws k ⊎ (IsBlank (get_or t k 0) ⊎ Commented t s k)
  apart : (k : ℕ) → InSome ws k → Commented t s k → ⊥

-- a byte other than `{` opens no comment
shut_on : (t : Bytes) (s p : ℕ) → (OpenAt t s p → ⊥) → (get_or t p 0 ≡ 123 → ⊥) → OpenAt t s (p + 1) → ⊥
shut_on t s p n ne c = ⊎_elim
    (λ l. n (c.0, c.1, l, c.3, λ j a b. c.4 j a (omega arith)))
    (λ l. let e : c.0 ≡ p = omega (arith, c.2) in ne (ap (λ i. get_or t i 0) (sym e) ∙ c.3))
    (cases_lt c.0 p)

-- and is in none that was not open
shut_here : (t : Bytes) (s p : ℕ) → (OpenAt t s p → ⊥) → (get_or t p 0 ≡ 123 → ⊥) → Commented t s p → ⊥
shut_here t s p n ne c = ⊎_elim
    (λ l. n (c.0, c.1, l, c.3, c.4))
    (λ l. let e : c.0 ≡ p = omega (arith, c.2) in ne (ap (λ i. get_or t i 0) (sym e) ∙ c.3))
    (cases_lt c.0 p)

-- `}` ends a comment
shut_by : (t : Bytes) (s p : ℕ) → get_or t p 0 ≡ 125 → OpenAt t s (p + 1) → ⊥
shut_by t s p e c = c.4 p (omega (arith, c.2)) (omega arith) e

-- any other byte leaves it open
open_on : (t : Bytes) (s p : ℕ) → OpenAt t s p → (get_or t p 0 ≡ 125 → ⊥) → OpenAt t s (p + 1)
open_on t s p c ne = (c.0, c.1, omega (arith, c.2), c.3, λ j a b. ⊎_elim (λ l. c.4 j a l) (λ l e. let same : j ≡ p = omega arith in ne (ap (λ i. get_or t i 0) (sym same) ∙ e)) (cases_lt j p))

-- `{` begins a comment, and is in it
open_by : (t : Bytes) (s p : ℕ) → s ≤ p → get_or t p 0 ≡ 123 → OpenAt t s (p + 1)
open_by t s p h e = (p, h, omega arith, e, λ j a b c. let same : j ≡ p = omega arith in let z : ◌≡◌ {A = ℕ} 123 125 = sym e ∙ (ap (λ i. get_or t i 0) (sym same) ∙ c) in omega arith)

opens : (t : Bytes) (s p : ℕ) → s ≤ p → get_or t p 0 ≡ 123 → Commented t s p
opens t s p h e = (p, h, omega arith, e, λ j a b c. omega arith)

-- what stands where a comment is open is in it
commented : (t : Bytes) (s p : ℕ) → OpenAt t s p → Commented t s p
commented t s p c = (c.0, c.1, omega (arith, c.2), c.3, c.4)

long : (t : Bytes) (f p : ℕ) → p ≤ length t → f ≤ p → length (take (p - f) (drop f t)) ≡ p - f
long t f p a b = length-take-le (p - f) (drop f t) (simp length-drop (omega arith))

begin : (t : Bytes) (s p : ℕ) → s ≤ p → p < length t → (OpenAt t s p → ⊥) → Plain (get_or t p 0) → Begun t s (word p) (p + 1)
begin t s p a lt n h =
    (a, omega arith, omega arith, (λ k x y. let same : p ≡ k = omega arith in subst (λ i. Plain (get_or t i 0) × (Commented t s i → ⊥)) same (h, shut_here t s p n h.1)), shut_on t s p n h.1)

one_more : (t : Bytes) (s f p : ℕ) → Begun t s (word f) p → p < length t → Plain (get_or t p 0) → Begun t s (word f) (p + 1)
one_more t s f p b lt h =
    (b.0, omega (arith, b.1), omega arith, (λ k x y. ⊎_elim (λ l. b.3 k x l) (λ l. let same : p ≡ k = omega arith in subst (λ i. Plain (get_or t i 0) × (Commented t s i → ⊥)) same (h, shut_here t s p b.4 h.1)) (cases_lt k p)), shut_on t s p b.4 h.1)

cut_stands : (t : Bytes) (s f p : ℕ) → Begun t s (word f) p → Stands t (cut t f p)
cut_stands t s f p b =
    let n : length (take (p - f) (drop f t)) ≡ p - f = long t f p b.2 (omega (arith, b.1)) in
    record {
      some = omega (arith, b.1);
      within = omega (arith, b.1, b.2);
      piece = ap (λ i. take i (drop f t)) (sym n);
      bytes = λ k lt. subst Plain (sym (get_or-take (p - f) (drop f t) k 0 (omega arith) ∙ get_or-drop f t k 0)) (b.3 (f + k) (omega arith) (omega (arith, b.1))).0;
    }

-- words that begin at x or later begin at an earlier place or later
higher : (ws : List Word) (x y : ℕ) → y ≤ x → Ascending x ws → Ascending y ws
higher [] x y h a = tt
higher (w ∷ ws) x y h a = (omega (arith, a.0), a.1)

-- the word that ends at p, before words that are right from q on, where the bytes from p up to q are judged
ends_well : (t : Bytes) (s f p q : ℕ) (ws : List Word) → Begun t s (word f) p → p ≤ q → ((k : ℕ) → p ≤ k → k < q → IsBlank (get_or t k 0) ⊎ Commented t s k) → Good t s q ws → Good t s f (cut t f p ∷ ws)
ends_well t s f p q ws b le judged g =
    let n : length (take (p - f) (drop f t)) ≡ p - f = long t f p b.2 (omega (arith, b.1)) in
    record {
      each = (cut_stands t s f p b, g.each);
      ascending = (omega arith, higher ws q (f + length (take (p - f) (drop f t))) (omega (arith, b.1)) g.ascending);
      rest = λ k x y. ⊎_elim
          (λ l. inl (inl (x, omega arith)))
          (λ l. ⊎_elim (λ m. inr (judged k l m)) (λ m. ⊎_elim (λ i. inl (inr i)) inr (g.rest k m y)) (cases_lt k q))
          (cases_lt k p);
      apart = λ k h. ⊎_elim (λ i. (b.3 k i.0 (omega (arith, i.1, b.1))).1) (λ i. g.apart k i) h;
    }

-- the byte at p is judged, and the words are right from there on
skips : (t : Bytes) (s p : ℕ) (ws : List Word) → IsBlank (get_or t p 0) ⊎ Commented t s p → Good t s (p + 1) ws → Good t s p ws
skips t s p ws h g = record {
  each = g.each;
  ascending = higher ws (p + 1) p (omega arith) g.ascending;
  rest = λ k x y. ⊎_elim (λ l. g.rest k l y) (λ l. let same : p ≡ k = omega arith in inr (subst (λ i. IsBlank (get_or t i 0) ⊎ Commented t s i) same h)) (order k);
  apart = g.apart;
} where
  order : (k : ℕ) → (p + 1 ≤ k) ⊎ (k ≤ p)
  order k = ⊎_elim (λ l. inl (omega arith)) (λ l. inr l) (cases_lt p k)

-- the one byte from p up to p + 1
only : (t : Bytes) (s p : ℕ) → IsBlank (get_or t p 0) ⊎ Commented t s p → (k : ℕ) → p ≤ k → k < p + 1 → IsBlank (get_or t k 0) ⊎ Commented t s k
only t s p h k x y = let same : p ≡ k = omega arith in subst (λ i. IsBlank (get_or t i 0) ⊎ Commented t s i) same h

abbrev next : Bytes → Where → ℕ → List Word
next t v p = words_from t v (p + 1) (drop (p + 1) t)

step : (t : Bytes) (s : ℕ) (w : Where) (k : Class) (p : ℕ) → ((v : Where) → Begun t s v (p + 1) → Good t s (lower v (p + 1)) (next t v p)) → p < length t → Told (get_or t p 0) k → Begun t s w p → Good t s (lower w p) (ended t w k p (next t (after w k p) p))
step t s between Blank p rec lt h b = skips t s p _ (inl h) (rec between (omega (arith, b.0), shut_on t s p b.1 (blank_opens_not (get_or t p 0) h)))
step t s between Open p rec lt h b = skips t s p _ (inr (opens t s p b.0 h)) (rec comment (omega (arith, b.0), open_by t s p b.0 h))
step t s between Close p rec lt h b = rec (word p) (begin t s p b.0 lt b.1 (close_plain (get_or t p 0) h))
step t s between Other p rec lt h b = rec (word p) (begin t s p b.0 lt b.1 h.0)
step t s (word f) Blank p rec lt h b = ends_well t s f p (p + 1) _ b (omega arith) (only t s p (inl h)) (rec between (omega (arith, b.0, b.1), shut_on t s p b.4 (blank_opens_not (get_or t p 0) h)))
step t s (word f) Open p rec lt h b =
    let le : s ≤ p = omega (arith, b.0, b.1) in
    ends_well t s f p (p + 1) _ b (omega arith) (only t s p (inr (opens t s p le h))) (rec comment (omega arith, open_by t s p le h))
step t s (word f) Close p rec lt h b = rec (word f) (one_more t s f p b lt (close_plain (get_or t p 0) h))
step t s (word f) Other p rec lt h b = rec (word f) (one_more t s f p b lt h.0)
step t s comment Blank p rec lt h b = skips t s p _ (inl h) (rec comment (omega (arith, b.0), open_on t s p b.1 (blank_closes_not (get_or t p 0) h)))
step t s comment Open p rec lt h b = skips t s p _ (inr (commented t s p b.1)) (rec comment (omega (arith, b.0), open_on t s p b.1 (λ e. omega (arith, h, e))))
step t s comment Close p rec lt h b = skips t s p _ (inr (commented t s p b.1)) (rec between (omega (arith, b.0), shut_by t s p h))
step t s comment Other p rec lt h b = skips t s p _ (inr (commented t s p b.1)) (rec comment (omega (arith, b.0), open_on t s p b.1 h.1))

none : (t : Bytes) (s p : ℕ) → length t ≤ p → Good t s p []
none t s p h = record { each = tt; ascending = tt; rest = λ k x y. absurd (omega arith); apart = λ k x y. absurd x }

last : (t : Bytes) (s : ℕ) (w : Where) (p : ℕ) → length t ≤ p → Begun t s w p → Good t s (lower w p) (words_from t w p [])
last t s between p h b = none t s p h
last t s (word f) p h b = ends_well t s f p p [] b (omega arith) (λ k x y. absurd (omega arith)) (none t s p h)
last t s comment p h b = none t s p h

-- n bytes at most are left
good : (n : ℕ) (t : Bytes) (s : ℕ) (w : Where) (p : ℕ) → length t ≤ p + n → Begun t s w p → Good t s (lower w p) (words_from t w p (drop p t))
good zero t s w p h b = rw (drop_all p t (omega arith)) (last t s w p (omega arith) b)
good (suc n) t s w p h b = ⊎_elim
    (λ lt. rw (turn t w (class_of (get_or t p 0)) p lt refl) (step t s w (class_of (get_or t p 0)) p (λ v. good n t s v (p + 1) (omega arith)) lt (told (get_or t p 0)) b))
    (λ le. rw (drop_all p t le) (last t s w p le b))
    (cases_lt p (length t))

pub words_stand : WordsStand
words_stand t from =
    let g : Good t from from (words_after t from) = good (length t) t from between from (omega arith) (omega arith, λ c. omega (arith, c.1, c.2)) in
    record { each = g.each; ascending = g.ascending; rest = g.rest; apart = g.apart }
