use Rattle.std.specs.Prelude.{ℕ, List, ◌++◌, codes, decimal}
use Rattle.refusals.specs.declared.Refusal.{Refusal}
use Rattle.refusals.specs.declared.Refusal.TheVariants.{
  NumberCut,
  NumberTooLong,
  NumberPadded,
  CountsOutside,
  JobOutOfOrder,
  WorthOutside,
  NoRowLeft,
  RowsMissing,
  TotalDiffers,
  BytesFollow,
  StartsUnfit,
  TooShort,
  NeverStarted,
  StepOutside,
  LanesOutside,
  NoSuchCarrier,
  NoSuchJob,
  NotWaiting,
  NoOpenBid,
  RowLookedAt,
  RowNotLookedAt,
  DepthOutside,
}
use Rattle.refusals.specs.Numbering.{number_of}

-- The bytes of each refusal's reason.
abbrev pub reason_of : Refusal → List ℕ
reason_of NumberCut = codes "the bytes end before a number, or inside one"
reason_of NumberTooLong = codes "a number goes on after its sixth byte"
reason_of NumberPadded = codes "a number is not in its shortest form: its last byte is zero"
reason_of CountsOutside = codes "carriers must be 1 to 128, jobs 1 to 256 and the ceiling at most 68719476736"
reason_of JobOutOfOrder = codes "a job is not below the number of jobs, or not above the job before it in its row"
reason_of WorthOutside = codes "a worth is 0 or above the ceiling"
reason_of NoRowLeft = codes "every announced row was read already"
reason_of RowsMissing = codes "announced rows are missing"
reason_of TotalDiffers = codes "the closing total is not the number of entries read"
reason_of BytesFollow = codes "bytes follow the closing total"
reason_of StartsUnfit = codes "the row starts do not fit: carriers + 1 of them, from 0, never falling, none past the last entry"
reason_of TooShort = codes "a table, ring, limit or buffer is too short for what has to be written"
reason_of NeverStarted = codes "the hall was never started"
reason_of StepOutside = codes "the step must be 1 to 68719476736"
reason_of LanesOutside = codes "the lanes must be 1 to 32"
reason_of NoSuchCarrier = codes "the carrier number is too large"
reason_of NoSuchJob = codes "the job number is too large"
reason_of NotWaiting = codes "the carrier to be summoned is not waiting"
reason_of NoOpenBid = codes "the carrier has no open bid"
reason_of RowLookedAt = codes "the carrier's row is fully looked at"
reason_of RowNotLookedAt = codes "the carrier's row has entries that were not looked at"
reason_of DepthOutside = codes "the depth must be 1 to 128"

-- A refusal as it is printed: its number and its reason.
abbrev pub refusal_text : Refusal → List ℕ
refusal_text r = decimal (number_of r) ++ (codes ": " ++ reason_of r)
