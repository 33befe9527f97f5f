-- What is told of some bytes is told of a sheet file.
use Rattle.std.proofs.Common.{◌≡◌, ℕ, List, length, get_or, Some, None, Ok, Err, Result, IfOk, Option, sym, refl, ◌∙◌, arith, w8, Fits}
use Rattle.std.specs.declared.alloc.AllocError.{AllocError}
use Rattle.refusals.specs.declared.Fault.{Fault}
use Rattle.sources.specs.Meaning.{Meaning}
use Rattle.texts.specs.declared.Printed.{Printed}
use Rattle.sheetfile.specs.Reading.{loaded_within}
use Rattle.sheetfile.proofs.Again.{same_bytes}
use Rattle.sheetfile.proofs.Filling.{within_file}
use Rattle.inspection.specs.Inspected.{TellsListing, TellsFile}

module _ (bs : List ℕ) (typed : (i : ℕ) → Fits w8 (get_or bs i 0)) where
  tells_file : (p : Printed Fault) (r : Result Meaning Fault) → loaded_within bs ≡ r → TellsListing p (length bs) r → TellsFile p bs
  tells_file p (Err f) is told none = absurd (let z : ◌≡◌ {A = Option Fault} None (Some f) = sym none ∙ told.1 in let e : ◌≡◌ {A = ℕ} 0 1 = cc in omega arith)
  tells_file p (Ok m) is told none = let file = within_file bs typed m is in (m, file, told.0, same_bytes m bs file)

  pub each_tells_file : (r : Result (Printed Fault) AllocError) → IfOk r (λ p. TellsListing p (length bs) (loaded_within bs)) → IfOk r (λ p. TellsFile p bs)
  each_tells_file (Err e) told = tt
  each_tells_file (Ok p) told = tells_file p (loaded_within bs) refl told
