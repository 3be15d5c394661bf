-- A memory before and after a step.
use Rattle.std.specs.Prelude.{◌≡◌, ℕ, Option, Some, None, Result, Ok, Err, List, MatchOption, vec_len}
use Rattle.refusal.specs.declared.kinds.Fault.{Fault}
use Rattle.refusal.specs.declared.kinds.Refusal.TheVariants.{AddressPast}
use Rattle.word.specs.declared.value.Word.{Word}
use Rattle.device.specs.Meaning.{Meaning}
use Rattle.ports.specs.declared.deed.Deed.{Deed}
use Rattle.ports.specs.declared.memory.Memory.{Memory}
use Rattle.ports.specs.declared.memory.Plan.{Plan}
use Rattle.ports.specs.declared.notes.Access.{Access}
use Rattle.ports.specs.declared.notes.Note.{Note}
use Rattle.ports.specs.Accesses.{access_of}
use Rattle.ports.specs.Deeds.{deed_of, stored, held_after, passed}

-- a memory newly made of its first words: nothing is planned, and nothing noted
pub record IsFresh (at : ℕ) (first : List Word) (memory : Memory) : Type 0 where
  pub rank : memory.rank ≡ at
  pub words : memory.words.items ≡ first
  pub plan : memory.plan ≡ None
  pub note : memory.note ≡ None

-- the memory with what its operation says as its plan
abbrev pub planned : Word → Word → Memory → Deed → Memory
planned operation address memory deed = record memory { plan = Some (record { deed = deed; access = access_of operation.value; address = address }) }

-- the operation is planned and nothing else is changed, or it is refused for its address and nothing is changed
abbrev pub PlansOrRefuses : Word → Word → Word → Memory → Memory → Result (Unit {0}) Fault → Type 0
PlansOrRefuses operation address written before after answer =
    MatchOption (deed_of operation address written (vec_len before.words))
    ((answer ≡ Err (record { refusal = AddressPast; place = before.rank })) × (after ≡ before))
    (λ deed. (answer ≡ Ok tt) × (after ≡ planned operation address before deed))

-- the note of an access, if there is one
abbrev pub note_of : Option Access → Word → Word → Option Note
note_of None address held = None
note_of (Some access) address held = Some (record { access = access; address = address; held = held })

-- nothing was planned, so nothing was done
pub record Rested (before after : Memory) (means means' : Meaning) (held held' : Word) : Type 0 where
  pub memory : after ≡ before
  pub device : means' ≡ means
  pub same : held' ≡ held

-- the plan was carried out: the words, the note, the device and the word held, which was `held` before and is `held'` after
pub record Carried (plan : Plan) (before after : Memory) (means means' : Meaning) (held held' : Word) : Type 0 where
  pub rank : after.rank ≡ before.rank
  pub words : after.words.items ≡ stored plan.deed before.words.items
  pub note : after.note ≡ note_of plan.access plan.address held'
  pub device : means' ≡ passed plan.deed means
  pub word : held'.value ≡ held_after plan.deed before.words.items means held

-- what was planned was carried out
abbrev pub CarriesOut : Memory → Memory → Meaning → Meaning → Word → Word → Type 0
CarriesOut before after means means' held held' = MatchOption before.plan (Rested before after means means' held held') (λ plan. Carried plan before after means means' held held')
