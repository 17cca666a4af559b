-- Places within a file.
use Rattle.std.proofs.Common.{◌≡◌, ◌≤◌, ℕ, [], ◌∷◌, length, Some, Result, Ok, Err, refl}
use Rattle.std.specs.Prelude.{IfOk}
use Rattle.scc_base.specs.declared.no_memory.NoMemory.{NoMemory}
use Rattle.scc_tokens_directives.specs.declared.file.Source.{Source}
use Rattle.scc_drive_errors.specs.declared.spots.Spot.{Spot}
use Rattle.scc_drive_errors.specs.Spots.{spot_in, IsSpotOf}

-- a place within a file is one of it
pub spots_within : (s : Source) (at : ℕ) → at ≤ length s.bytes → (r : Result Spot NoMemory) → IfOk r (λ spot. spot ≡ spot_in (Some s) at) → IfOk r (IsSpotOf (s ∷ []))
spots_within s at within (Ok spot) e = (record { file = 0; at = at }, (s, refl, within), e)
spots_within s at within (Err x) e = tt
