-- What a memory does by its operation, and what that does to its words and to a device.
use Rattle.std.specs.Prelude.{ℕ, cond, Option, Some, None, List, [], ◌∷◌, bit_and, nat_lt, ◌==◌, slice_index_or, slice_set, zero, suc}
use Rattle.std.specs.Option.{option_map}
use Rattle.word.specs.declared.value.Word.{Word}
use Rattle.device.specs.Meaning.{Meaning, gave, took}
use Rattle.ports.specs.declared.deed.Deed.{Deed}
use Rattle.ports.specs.declared.deed.Deed.TheVariants.{Read, Write, Give, Take}

-- the place of an address, if the memory has so many words
abbrev pub place_of : Word → ℕ → Option ℕ
place_of address count = cond (nat_lt address.value count) (Some address.value) None

-- what the two low bits of an operation say, to a memory of so many words
abbrev pub deed_of : Word → Word → Word → ℕ → Option Deed
deed_of operation address written count =
    let low = bit_and operation.value 3 in
    cond (low == 0) (option_map Read (place_of address count))
    (cond (low == 1) (option_map (λ place. Write place written) (place_of address count))
    (cond (low == 2) (Some (Give address)) (Some (Take address written))))

-- the memory's words after a deed
abbrev pub stored : Deed → List Word → List Word
stored (Write place word) words = slice_set words place word
stored (Read place) words = words
stored (Give port) words = words
stored (Take port word) words = words

-- the word that a port gives, or `held` where none waits
abbrev pub first_or : List ℕ → ℕ → ℕ
first_or [] held = held
first_or (word ∷ words) held = word

-- the word that a port takes, or `held` where there is no space
abbrev pub taken_or : ℕ → ℕ → ℕ → ℕ
taken_or zero word held = held
taken_or (suc space) word held = word

-- the word that is held after a deed, by the words before it, what the device meant, and the word held before
abbrev pub held_after : Deed → List Word → Meaning → Word → ℕ
held_after (Read place) words means held = (slice_index_or words place held).value
held_after (Write place word) words means held = word.value
held_after (Give port) words means held = first_or (means port.value).waiting held.value
held_after (Take port word) words means held = taken_or (means port.value).space word.value held.value

-- what the device means after a deed
abbrev pub passed : Deed → Meaning → Meaning
passed (Read place) means = means
passed (Write place word) means = means
passed (Give port) means = gave means port.value
passed (Take port word) means = took means port.value word.value
