-- Reading anew from the end of a word finds the words behind it, since the byte there stands between words either way.
use Rattle.std.proofs.Common.{◌≡◌, ℕ, ◌+◌, ◌-◌, ◌<◌, ◌≤◌, List, [], ◌∷◌, length, drop, sym, refl, ap, ◌∙◌, add-one, arith, length-drop, length-take, drop-cons}
use Rattle.scan.specs.Names.{Bytes}
use Rattle.scan.specs.Words.{Word, Where, between, word, comment, class_of, cut, after, ended, words_from, words_after}
use Rattle.scan.specs.Scanning.{word_start, where_of}
use Rattle.scan.specs.Reading.{left, reader_text}
use Rattle.scan.specs.declared.reader.Reader.{Reader}
use Rattle.scan.specs.declared.scanner.Class.{Class}
use Rattle.scan.specs.declared.scanner.Class.TheVariants.{Blank, Open, Close, Other}

-- where a word ends
abbrev pub end : Word → ℕ
end w = w.at + length w.text

cut_end : (t : Bytes) (f p : ℕ) → f ≤ p → p ≤ length t → end (cut t f p) ≡ p
cut_end t f p h k = omega (arith, length-take (p - f) (drop f t), length-drop f t)

found : (t : Bytes) (f p : ℕ) (w : Word) (later rest : List Word) → f ≤ p → p ≤ length t
    → cut t f p ∷ later ≡ w ∷ rest → later ≡ words_after t p → rest ≡ words_after t (end w)
found t f p w later rest h k e s =
    let same : cut t f p ≡ w = cc in
    let more : rest ≡ later = cc in
    more ∙ s ∙ ap (words_after t) (sym (cut_end t f p h k)) ∙ ap (λ v. words_after t (end v)) same

turned : (t : Bytes) (s : Where) (k : Class) (p : ℕ) (bs : Bytes) (w : Word) (rest : List Word)
    → ((s' : Where) → word_start s' ≤ p + 1 → words_from t s' (p + 1) bs ≡ w ∷ rest → rest ≡ words_after t (end w))
    → words_from t (after between k p) (p + 1) bs ≡ words_after t p → word_start s ≤ p → p ≤ length t
    → ended t s k p (words_from t (after s k p) (p + 1) bs) ≡ w ∷ rest → rest ≡ words_after t (end w)
turned t between Blank p bs w rest on stop h l e = on between (omega arith) e
turned t between Open p bs w rest on stop h l e = on comment (omega arith) e
turned t between Close p bs w rest on stop h l e = on (word p) (omega arith) e
turned t between Other p bs w rest on stop h l e = on (word p) (omega arith) e
turned t (word f) Blank p bs w rest on stop h l e = found t f p w _ rest h l e stop
turned t (word f) Open p bs w rest on stop h l e = found t f p w _ rest h l e stop
turned t (word f) Close p bs w rest on stop h l e = on (word f) (omega arith) e
turned t (word f) Other p bs w rest on stop h l e = on (word f) (omega arith) e
turned t comment Blank p bs w rest on stop h l e = on comment (omega arith) e
turned t comment Open p bs w rest on stop h l e = on comment (omega arith) e
turned t comment Close p bs w rest on stop h l e = on between (omega arith) e
turned t comment Other p bs w rest on stop h l e = on comment (omega arith) e

behind : (t : Bytes) (p b : ℕ) (bs : Bytes) → b ∷ bs ≡ drop p t → (p < length t) × (bs ≡ drop (p + 1) t)
behind t p b bs e =
    let n = length-drop p t in
    let m = ap length e in
    let h : p < length t = omega arith in
    let d = drop-cons t p 0 h in
    (h, rw add-one (cc))

resumed : (t : Bytes) (s : Where) (p : ℕ) (bs : Bytes) (w : Word) (rest : List Word)
    → bs ≡ drop p t → word_start s ≤ p → p ≤ length t → words_from t s p bs ≡ w ∷ rest → rest ≡ words_after t (end w)
resumed t between p [] w rest d h l e = let z : ◌≡◌ {A = ℕ} 0 1 = cc in absurd (omega arith)
resumed t (word f) p [] w rest d h l e = found t f p w [] rest h l e (ap (words_from t between p) d)
resumed t comment p [] w rest d h l e = let z : ◌≡◌ {A = ℕ} 0 1 = cc in absurd (omega arith)
resumed t s p (b ∷ bs) w rest d h l e =
    let n = behind t p b bs d in
    turned t s (class_of b) p bs w rest (λ s' h' e'. resumed t s' (p + 1) bs w rest n.1 h' (omega arith) e') (ap (words_from t between p) d) h l e

pub resumes : (r : Reader) (w : Word) (rest : List Word) → left r ≡ w ∷ rest → rest ≡ words_after (reader_text r) (end w)
resumes r w rest e = resumed r.text.now (where_of r.scanner.state) r.at (drop r.at r.text.now) w rest refl r.began r.within e
