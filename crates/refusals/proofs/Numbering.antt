use Rattle.std.proofs.Common.{◌≡◌, ℕ, ◌+◌, ◌<◌, ◌≤◌, List, [], ◌∷◌, length, sym, ◌∙◌, ⊎_elim, arith, rules}
use Rattle.std.proofs.lemmas.Bool.{cases_eq}
use Rattle.refusals.specs.declared.Refusal.{Refusal}
use Rattle.refusals.specs.declared.Refusal.TheVariants.{
  NumberCut,
  NumberTooLong,
  NumberPadded,
  CountsOutside,
  JobOutOfOrder,
  WorthOutside,
  NoRowLeft,
  RowsMissing,
  TotalDiffers,
  BytesFollow,
  StartsUnfit,
  TooShort,
  NeverStarted,
  StepOutside,
  LanesOutside,
  NoSuchCarrier,
  NoSuchJob,
  NotWaiting,
  NoOpenBid,
  RowLookedAt,
  RowNotLookedAt,
  DepthOutside,
}
use Rattle.refusals.specs.Numbering.{number_of, Numbered}

within : (a : Refusal) → (1 ≤ number_of a) × (number_of a ≤ 22)
within a = search rules

apart : (a b : Refusal) → number_of a ≡ number_of b → a ≡ b
apart a b e = search rules

-- the numbers of these refusals count up from n
abbrev CountUp : ℕ → List Refusal → Type 0
CountUp n [] = Unit {0}
CountUp n (a ∷ rest) = (number_of a ≡ n) × CountUp (n + 1) rest

-- so each number from there on is one of theirs
reached : (list : List Refusal) (m n : ℕ) → CountUp m list → m ≤ n → n < m + length list → (a : Refusal) × (number_of a ≡ n)
reached [] m n up low high = absurd (omega arith)
reached (a ∷ rest) m n up low high =
    ⊎_elim
    (λ same. (a, up.0 ∙ sym same))
    (λ other. reached rest (m + 1) n up.1 (omega arith) (omega arith))
    (cases_eq n m)

refusals : List Refusal
refusals =
    NumberCut ∷ NumberTooLong ∷ NumberPadded ∷ CountsOutside ∷ JobOutOfOrder ∷ WorthOutside ∷ NoRowLeft ∷ RowsMissing
    ∷ TotalDiffers ∷ BytesFollow ∷ StartsUnfit ∷ TooShort ∷ NeverStarted ∷ StepOutside ∷ LanesOutside ∷ NoSuchCarrier
    ∷ NoSuchJob ∷ NotWaiting ∷ NoOpenBid ∷ RowLookedAt ∷ RowNotLookedAt ∷ DepthOutside ∷ []

every : (n : ℕ) → 1 ≤ n → n ≤ 22 → (a : Refusal) × (number_of a ≡ n)
unfolding refusals
every n low high = reached refusals 1 n (search rules) low (omega arith)

pub numbered : Numbered
numbered = record { apart = apart; within = within; every = every }
