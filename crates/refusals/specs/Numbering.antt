use Rattle.std.specs.Prelude.{◌≡◌, ℕ, ◌≤◌, List, ◌++◌, Some, None, Ok, Err, Option, Result, ◌≢◌, codes, decimal}
use Rattle.refusals.specs.declared.Refusal.{Refusal}
use Rattle.refusals.specs.declared.UnknownNumber.{UnknownNumber}
use Rattle.refusals.specs.declared.Refusal.TheVariants.{
  NumberCut,
  NumberTooLong,
  NumberPadded,
  CountsOutside,
  JobOutOfOrder,
  WorthOutside,
  NoRowLeft,
  RowsMissing,
  TotalDiffers,
  BytesFollow,
  StartsUnfit,
  TooShort,
  NeverStarted,
  StepOutside,
  LanesOutside,
  NoSuchCarrier,
  NoSuchJob,
  NotWaiting,
  NoOpenBid,
  RowLookedAt,
  RowNotLookedAt,
  DepthOutside,
}

-- The number of each refusal.
abbrev pub number_of : Refusal → ℕ
number_of NumberCut = 1
number_of NumberTooLong = 2
number_of NumberPadded = 3
number_of CountsOutside = 4
number_of JobOutOfOrder = 5
number_of WorthOutside = 6
number_of NoRowLeft = 7
number_of RowsMissing = 8
number_of TotalDiffers = 9
number_of BytesFollow = 10
number_of StartsUnfit = 11
number_of TooShort = 12
number_of NeverStarted = 13
number_of StepOutside = 14
number_of LanesOutside = 15
number_of NoSuchCarrier = 16
number_of NoSuchJob = 17
number_of NotWaiting = 18
number_of NoOpenBid = 19
number_of RowLookedAt = 20
number_of RowNotLookedAt = 21
number_of DepthOutside = 22

-- Different refusals have different numbers, and the numbers are exactly 1 to 22.
pub record Numbered : Type 0 where
  pub apart : (a b : Refusal) → number_of a ≡ number_of b → a ≡ b
  pub within : (a : Refusal) → (1 ≤ number_of a) × (number_of a ≤ 22)
  pub every : (n : ℕ) → 1 ≤ n → n ≤ 22 → (a : Refusal) × (number_of a ≡ n)

-- The refusal that has the number n, or none if no refusal has it.
abbrev pub Named : ℕ → Option Refusal → Type 0
Named n (Some a) = number_of a ≡ n
Named n None = (a : Refusal) → number_of a ≢ n

-- The same, with the number that no refusal has.
abbrev pub NamedOrNot : ℕ → Result Refusal UnknownNumber → Type 0
NamedOrNot n (Ok a) = Named n (Some a)
NamedOrNot n (Err e) = (e.number ≡ n) × Named n None

-- A number that no refusal has, as it is printed.
abbrev pub unknown_text : UnknownNumber → List ℕ
unknown_text e = codes "no refusal has the number " ++ decimal e.number
