-- The numbers by which users know the refusals.
use Rattle.std.specs.Prelude.{ℕ}
use Rattle.refusal.specs.declared.kinds.Refusal.{Refusal}
use Rattle.refusal.specs.declared.kinds.Refusal.TheVariants.{TextTooLong, Malformed, TextEnds, NumberTooLarge, OutOfRange, TooWide, OverLimit, NameTwice, UnknownMacro, MacroCircle, ListedWithoutPart, PartNotListed, NoSuchPart, PartCircle, UnknownName, NoSuchRank, PlaceTooHigh, WordTooHigh, BufferShort, RunTooLong, BadSheet, NoPress, LastCycle, Astray, AddressPast, NothingWaits, NoSpace}

abbrev pub number : Refusal → ℕ
-- whoever draws
number TextTooLong = 10
number Malformed = 11
number TextEnds = 12
number NumberTooLarge = 13
number OutOfRange = 14
number TooWide = 15
number OverLimit = 16
number NameTwice = 17
number UnknownMacro = 18
number MacroCircle = 19
number ListedWithoutPart = 20
number PartNotListed = 21
number NoSuchPart = 22
number PartCircle = 23
-- whoever works the bench
number UnknownName = 30
number NoSuchRank = 31
number PlaceTooHigh = 32
number WordTooHigh = 33
number (BufferShort needed) = 34
number RunTooLong = 35
number BadSheet = 36
number NoPress = 37
-- the board
number LastCycle = 40
number Astray = 41
number AddressPast = 42
-- the ports
number NothingWaits = 43
number NoSpace = 44
