-- The verdict on a drawing's text.
use Rattle.std.specs.Prelude.{ℕ, zero, suc, ◌+◌, ◌-◌, Bool, true, false, cond, not, List, [], ◌∷◌, ◌++◌, map, length, get_or, take, drop, ◌==◌, nat_le, slice_index, slice_index_or}
use Rattle.scan.specs.Names.{Bytes, among, all}
use Rattle.scan.specs.Words.{Word, texts}
use Rattle.numbers.specs.Judged.{Judged, good, bad, check}
use Rattle.verdict.specs.Letters.{is_part_letter}
use Rattle.verdict.specs.Items.{Item, constant, bits}
use Rattle.verdict.specs.Macros.{Table, names_of, finished, all_known, uses_macro}
use Rattle.verdict.specs.Parts.{Part, a_name, some_items, some_words, Reading, reads, refuses, lacks, claims, read_part}
use Rattle.verdict.specs.Limits.{new_name, Taken, nothing, taking}
use Rattle.verdict.specs.Sections.{Next, word_from, text_end, Sections, sections}
use Rattle.verdict.specs.Circles.{on_circle}
use Rattle.verdict.specs.Circuit.{sorted, Circuit, circuit_of, needs}

-- what was read, or a refusal's number and place
pub data Read (X : Type 0) : Type 0 where
  read : X → Read X
  refuse : ℕ → ℕ → Read X

infixl 10 ◌>>=◌
abbrev pub ◌>>=◌ : {X Y : Type 0} → Read X → (X → Read Y) → Read Y
read x >>= f = f x
refuse n p >>= f = refuse n p

-- a judgement on the word at the place p
abbrev pub at : {X : Type 0} → ℕ → Judged X → Read X
at p (good x) = read x
at p (bad n) = refuse n p

-- refused with n at the place beside the first flag that is up
abbrev pub refuse_first : ℕ → List Bool → List ℕ → Read (Unit {0})
refuse_first n [] ps = read tt
refuse_first n (f ∷ fs) [] = read tt
refuse_first n (f ∷ fs) (p ∷ ps) = cond f (refuse n p) (refuse_first n fs ps)

abbrev pub places : List (Bytes × ℕ) → List ℕ
places es = map (λ e. e.1) es

-- 12 where the text ends before a stop; otherwise the stop's place
abbrev pub stop_at : Next → Read ℕ
stop_at (word_from p) = read p
stop_at (text_end p) = refuse 12 p

-- MACROS

-- the name in a `~` word
abbrev pub macro_name : Bytes → Bytes
macro_name w = drop 1 w

abbrev pub check_macro_names : List Bytes → List Word → Read (Unit {0})
check_macro_names met [] = read tt
check_macro_names met (w ∷ ws) = do
  _ ← at w.at (new_name met (macro_name w.text))
  check_macro_names (macro_name w.text ∷ met) ws

-- the macros' names and texts
abbrev pub macro_table : List (Word × Word) → Table
macro_table ms = map (λ m. (macro_name m.0.text, m.1.text)) ms

-- each macro's name with the place of its `~`, by name
abbrev pub macro_places : List (Word × Word) → List (Bytes × ℕ)
macro_places ms = sorted (map (λ m. (macro_name m.0.text, m.0.at)) ms)

-- does the macro i of the table use the macro j?
abbrev pub macro_needs : Table → ℕ → ℕ → Bool
macro_needs t i j = uses_macro (get_or t j ([], [])).0 (get_or t i ([], [])).1

-- of a table by name: 18, then 19, each at the least macro concerned
abbrev pub check_macros : Table → List ℕ → Read (Unit {0})
check_macros t ps = do
  _ ← refuse_first 18 (map (λ m. not (all_known (names_of t) m.1)) t) ps
  refuse_first 19 (on_circle (length t) (macro_needs t)) ps

-- THE NAME LIST

abbrev pub ends_in_star : Bytes → Bool
ends_in_star w = slice_index w (length w - 1) == 42

-- a listed name, and whether it is traced
abbrev pub entry : Bytes → Bytes × Bool
entry w = cond (ends_in_star w) (take (length w - 1) w, true) (w, false)

abbrev pub check_list : List Bytes → List Word → Read (Unit {0})
check_list met [] = read tt
check_list met (w ∷ ws) = do
  _ ← at w.at (check (not (is_part_letter w.text)) 11)
  _ ← at w.at (new_name met (entry w.text).0)
  check_list ((entry w.text).0 ∷ met) ws

-- PARTS

-- the place in the text of the word i of a part
abbrev pub place_in : List Word → ℕ → ℕ
place_in [] i = 0
place_in (w ∷ ws) zero = w.at
place_in (w ∷ ws) (suc i) = place_in ws i

-- what stands after a part: the next part's letter, or what follows the last part
abbrev pub next_word : List (List Word) → Next → Next
next_word [] end = end
next_word ([] ∷ ps) end = end
next_word ((w ∷ ws) ∷ ps) end = word_from w.at

-- a word is missing: the word that stands there meets n, or the text ends early
abbrev pub missing : {X : Type 0} → ℕ → Next → Read X
missing n (word_from p) = refuse n p
missing n (text_end p) = refuse 12 p

-- what one part comes to, its claims taken in the order of its words
abbrev pub settle : {X : Type 0} → List Word → Next → Taken → Reading X → Read (X × Taken)
settle ws next k (reads x) = read (x, k)
settle ws next k (refuses n i) = refuse n (place_in ws i)
settle ws next k (lacks n) = missing n next
settle ws next k (claims c i r) = do
  k' ← at (place_in ws i) (taking k c)
  settle ws next k' r

-- the parts one after the other; `end` is what follows the last
abbrev pub read_parts : Table → Next → Taken → List (List Word) → Read (List Part)
read_parts t end k [] = read []
read_parts t end k (ws ∷ more) = do
  pk ← settle ws (next_word more end) k (read_part t (texts ws))
  ps ← read_parts t end pk.1 more
  read (pk.0 ∷ ps)

-- AFTER THE CLOSING STOP

-- each listed name with the place of its word, by name
abbrev pub list_places : List Word → List (Bytes × ℕ)
list_places ws = sorted (map (λ w. ((entry w.text).0, w.at)) ws)

-- each part's name with the place of its word, the second of the part's, by name
abbrev pub part_places : List (List Word) → List (Bytes × ℕ)
part_places ps = sorted (map (λ ws. (slice_index_or (texts ws) 1 [], place_in ws 1)) ps)

-- 20 and 21: names that stand by name, each of which must be among others; the least that is not
abbrev pub check_among : ℕ → List Bytes → List (Bytes × ℕ) → Read (Unit {0})
check_among n others es = refuse_first n (map (λ e. not (among others e.0)) es) (places es)

abbrev pub item_known : List Bytes → Item Bytes → Bool
item_known names (constant v w) = true
item_known names (bits n b t) = among names n

-- 22: the expressions of one part name parts only
abbrev pub check_items : {X : Type 0} → List Bytes → List Word → Reading X → Read (Unit {0})
check_items names ws (reads x) = read tt
check_items names ws (refuses n i) = read tt
check_items names ws (lacks n) = read tt
check_items names ws (claims (a_name n) i r) = check_items names ws r
check_items names ws (claims (some_items e) i r) = do
  _ ← at (place_in ws i) (check (all (item_known names) e) 22)
  check_items names ws r
check_items names ws (claims (some_words n) i r) = check_items names ws r

-- 22, in text order
abbrev pub check_expressions : Table → List Bytes → List (List Word) → Read (Unit {0})
check_expressions t names [] = read tt
check_expressions t names (ws ∷ more) = do
  _ ← check_items names ws (read_part t (texts ws))
  check_expressions t names more

-- 20, then 21, then 22
abbrev pub check_whole : Table → Sections → List (Bytes × ℕ) → List (Bytes × ℕ) → Read (Unit {0})
check_whole t s listed parts = do
  _ ← check_among 20 (names_of parts) listed
  _ ← check_among 21 (names_of listed) parts
  check_expressions t (names_of parts) s.parts

-- THE WHOLE

-- a text that meets nothing but perhaps 23: its circuit, the count of parts, the place after the closing stop, and the parts' names with their places, by rank
pub record Drawn : Type 0 where
  pub circuit : Circuit
  pub count : ℕ
  pub end : ℕ
  pub names : List (Bytes × ℕ)

-- with the finished macros
abbrev pub drawn_parts : Table → Sections → Read Drawn
drawn_parts t s = do
  ps ← read_parts t s.after_parts nothing s.parts
  stop ← stop_at s.after_parts
  _ ← check_whole t s (list_places s.listed) (part_places s.parts)
  read (record { circuit = circuit_of (map entry (texts s.listed)) ps; count = length ps; end = stop + 1; names = part_places s.parts })

-- in text order: the macros' names, the macros' texts, the list, its stop, the parts and their stop, and the checks after it
abbrev pub drawn_from : Sections → Read Drawn
drawn_from s = do
  _ ← check_macro_names [] (map (λ m. m.0) s.macros ++ s.half)
  _ ← check_macros (sorted (macro_table s.macros)) (places (macro_places s.macros))
  _ ← check_list [] s.listed
  _ ← stop_at s.after_list
  drawn_parts (finished (macro_table s.macros)) s

abbrev pub if_short : Bool → Bytes → Read Drawn
if_short true t = drawn_from (sections t)
if_short false t = refuse 10 0

-- a text has at most 131,072 bytes
abbrev pub drawn : Bytes → Read Drawn
drawn t = if_short (nat_le (length t) 131072) t

-- 23, at the least name on a circle
abbrev pub check_circles : Drawn → Read (Unit {0})
check_circles d = refuse_first 23 (on_circle (length d.circuit.parts) (needs d.circuit.parts)) (places d.names)

pub data Verdict : Type 0 where
  refused : ℕ → ℕ → Verdict
  accepted : Circuit → ℕ → ℕ → Verdict

abbrev pub unless : Read (Unit {0}) → Drawn → Verdict
unless (read u) d = accepted d.circuit d.count d.end
unless (refuse n p) d = refused n p

abbrev pub verdict_of : Read Drawn → Verdict
verdict_of (read d) = unless (check_circles d) d
verdict_of (refuse n p) = refused n p

abbrev pub verdict : Bytes → Verdict
verdict t = verdict_of (drawn t)
