-- The order of names is a strict total order, and the test for the same name tells equality.
use Rattle.std.specs.Prelude.{◌≡◌, true, false, ◌⊎◌, ◌≢◌}
use Rattle.scan.specs.Names.{Bytes, same, before}

pub record NamesOrdered : Type 0 where
  -- none comes before itself
  pub never : (a : Bytes) → before a a ≡ false
  -- one before another that is before a third comes before the third
  pub onward : (a b c : Bytes) → before a b ≡ true → before b c ≡ true → before a c ≡ true
  -- of two different ones, one comes before the other
  pub total : (a b : Bytes) → (a ≢ b) → (before a b ≡ true) ⊎ (before b a ≡ true)
  -- the test for the same bytes passes exactly the equal ones
  pub told : (a b : Bytes) → same a b ≡ true → a ≡ b
  pub self : (a : Bytes) → same a a ≡ true
