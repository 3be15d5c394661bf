-- What every accepted circuit satisfies, and that its clean listing is read back as it.
use Rattle.std.specs.Prelude.{◌≡◌, ℕ, ◌-◌, ◌^◌, ◌<◌, ◌≤◌, true, false, List, [], ◌∷◌, map, length}
use Rattle.scan.specs.Names.{Bytes, is_name, before, among}
use Rattle.numbers.specs.Numbers.{sum}
use Rattle.verdict.specs.Letters.{is_part_letter}
use Rattle.verdict.specs.Items.{Item, constant, bits, Expression, width}
use Rattle.verdict.specs.Macros.{names_of}
use Rattle.verdict.specs.Parts.{Body, alu, selector, memory}
use Rattle.verdict.specs.Circuit.{Circuit}
use Rattle.verdict.specs.Verdict.{verdict, accepted}
use Rattle.verdict.specs.Lines.{SetsInOrder}
use Rattle.verdict.specs.Listing.{listing}

-- each element has the property
abbrev pub All : {X : Type 0} → (X → Type 0) → List X → Type 0
All P [] = Unit {0}
All P (x ∷ xs) = P x × All P xs

-- a name that is no bare part letter
pub record ProperName (n : Bytes) : Type 0 where
  pub formed : is_name n ≡ true
  pub no_letter : is_part_letter n ≡ false

-- each name stands before all later ones
abbrev pub Ascending : List Bytes → Type 0
Ascending [] = Unit {0}
Ascending (n ∷ ns) = All (λ m. before n m ≡ true) ns × Ascending ns

-- no name stands twice
abbrev pub Once : List Bytes → Type 0
Once [] = Unit {0}
Once (n ∷ ns) = (among ns n ≡ false) × Once ns

-- an item, of n parts: a constant that fits its width, or bits of one of the parts
abbrev pub SoundItem : ℕ → Item ℕ → Type 0
SoundItem n (constant v w) = (1 ≤ w) × (w ≤ 31) × (v < 2 ^ w)
SoundItem n (bits r b t) = (r < n) × (b ≤ t) × (t ≤ 30)

pub record SoundExpression (n : ℕ) (e : Expression ℕ) : Type 0 where
  pub some_item : 0 < length e
  pub items : All (SoundItem n) e
  pub narrow : sum (map width e) ≤ 31

pub record SoundAlu (n : ℕ) (f l r : Expression ℕ) : Type 0 where
  pub function : SoundExpression n f
  pub left : SoundExpression n l
  pub right : SoundExpression n r

pub record SoundSelector (n : ℕ) (s : Expression ℕ) (cs : List (Expression ℕ)) : Type 0 where
  pub select : SoundExpression n s
  pub cases : All (SoundExpression n) cs
  pub some_case : 1 ≤ length cs
  pub few_cases : length cs ≤ 128

pub record SoundMemory (n : ℕ) (a d o : Expression ℕ) (vs : List ℕ) : Type 0 where
  pub address : SoundExpression n a
  pub given : SoundExpression n d
  pub operation : SoundExpression n o
  pub some_word : 1 ≤ length vs
  pub few_words : length vs ≤ 4096
  pub words : All (λ v. v ≤ 2147483647) vs

abbrev pub SoundBody : ℕ → Body ℕ → Type 0
SoundBody n (alu f l r) = SoundAlu n f l r
SoundBody n (selector s cs) = SoundSelector n s cs
SoundBody n (memory a d o vs) = SoundMemory n a d o vs

-- the items and the memory words of a part
abbrev pub expressions_of : {R : Type 0} → Body R → List (Expression R)
expressions_of (alu f l r) = f ∷ l ∷ r ∷ []
expressions_of (selector s cs) = s ∷ cs
expressions_of (memory a d o vs) = a ∷ d ∷ o ∷ []

abbrev pub item_count : {R : Type 0} → Body R → ℕ
item_count b = sum (map (λ e. length e) (expressions_of b))

abbrev pub word_count : {R : Type 0} → Body R → ℕ
word_count (alu f l r) = 0
word_count (selector s cs) = 0
word_count (memory a d o vs) = length vs

pub record Sound (c : Circuit) : Type 0 where
  pub names : All ProperName (names_of c.parts)
  pub ascending : Ascending (names_of c.parts)
  pub few_parts : length c.parts ≤ 64
  pub bodies : All (λ p. SoundBody (length c.parts) p.1) c.parts
  pub few_items : sum (map (λ p. item_count p.1) c.parts) ≤ 2048
  pub few_words : sum (map (λ p. word_count p.1) c.parts) ≤ 4096
  pub listed_are_parts : All (λ n. among (names_of c.parts) n ≡ true) (names_of c.listed)
  pub parts_are_listed : All (λ n. among (names_of c.listed) n ≡ true) (names_of c.parts)
  pub listed_once : Once (names_of c.listed)
  pub few_listed : length c.listed ≤ 64
  -- no circle: an order sets each ALU and selector after those that it reads
  pub order : (v : List ℕ) × SetsInOrder c v

-- the listing of a sound circuit is accepted as that circuit; its closing stop is the last byte but one
abbrev pub ReadsBack : Type 0
ReadsBack = (c : Circuit) → Sound c → verdict (listing c) ≡ accepted c (length c.parts) (length (listing c) - 1)

-- every accepted circuit is sound
abbrev pub AcceptedSound : Type 0
AcceptedSound = (t : Bytes) (c : Circuit) (n p : ℕ) → verdict t ≡ accepted c n p → Sound c

-- the listing of an accepted circuit is accepted as that circuit, with as many parts
abbrev pub ListingAccepted : Type 0
ListingAccepted = (t : Bytes) (c : Circuit) (n p : ℕ) → verdict t ≡ accepted c n p → verdict (listing c) ≡ accepted c n (length (listing c) - 1)
