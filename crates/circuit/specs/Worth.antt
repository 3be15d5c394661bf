-- What expressions are worth and which selectors are astray, by the words that the parts show.
use Rattle.std.specs.Prelude.{ℕ, ◌%◌, ◌^◌, Bool, false, List, map, length, nat_le, slice_index, vec_items}
use Rattle.word.specs.declared.value.Word.{Word}
use Rattle.verdict.specs.Items.{Expression}
use Rattle.verdict.specs.Parts.{Body, alu, selector, memory}
use Rattle.verdict.specs.Values.{joined}
use Rattle.circuit.specs.declared.parts.Item.{Item as StoredItem}
use Rattle.circuit.specs.declared.parts.Part.{Part}
use Rattle.circuit.specs.Meaning.{item_by, values_of, expression_of, body_by}

-- the value of the word that a rank shows, and 0 past the last
abbrev pub shown_by : List Word → ℕ → ℕ
shown_by ws rank = slice_index (values_of ws) rank

-- the value of an expression, of whose bits a word has the low 31
abbrev pub worth_of : (ℕ → ℕ) → Expression ℕ → ℕ
worth_of shown e = joined shown e % 2 ^ 31

-- the same of items in storage
abbrev pub worth : List Word → List (StoredItem ℕ) → ℕ
worth ws items = worth_of (shown_by ws) (map (item_by (λ r. r)) items)

-- has a selector no case of the number that its select field gives?
abbrev pub astray : (ℕ → ℕ) → Body ℕ → Bool
astray shown (memory a d o vs) = false
astray shown (alu f l r) = false
astray shown (selector s cs) = nat_le (length cs) (worth_of shown s)

abbrev pub is_astray : List Word → Part → Bool
is_astray ws p = astray (shown_by ws) (body_by (expression_of (vec_items p.joined)) p.body)
