-- Where a place stands in its file, as a refusal says it.
use Rattle.std.specs.Prelude.{◌≡◌, ◌≤◌, ℕ, ◌+◌, List, [], ◌∷◌, take, length, if◌then◌else◌, ◌==◌, Option, Some, None, slice_get}
use Rattle.scc_base.specs.declared.refusal.Place.{Place}
use Rattle.scc_tokens_directives.specs.declared.file.Source.{Source}
use Rattle.scc_drive_errors.specs.declared.spots.Spot.{Spot}

-- The line and the column behind these bytes, from a line and a column on: an LF begins the next line.
unfoldable pub moved : ℕ → ℕ → List ℕ → ℕ × ℕ
moved line column [] = (line, column)
moved line column (b ∷ bs) = if b == 10 then moved (line + 1) 1 bs else moved line (column + 1) bs

abbrev pub position_at : List ℕ → ℕ → ℕ × ℕ
position_at bytes at = moved 1 1 (take at bytes)

-- a place of no file has no name
abbrev pub spot_in : Option Source → ℕ → Spot
spot_in None at = record { file = []; line = 1; column = 1 }
spot_in (Some s) at = record { file = s.name; line = (position_at s.bytes at).0; column = (position_at s.bytes at).1 }

abbrev pub spot_of : List Source → Place → Spot
spot_of sources place = spot_in (slice_get sources place.file) place.at

-- the first byte of a file of this name
abbrev pub first_spot : List ℕ → Spot
first_spot name = record { file = name; line = 1; column = 1 }

-- the place is a byte of one of the files, or its end
abbrev pub IsPlaceOf : List Source → Place → Type 0
IsPlaceOf sources place = (source : Source) × (slice_get sources place.file ≡ Some source) × (place.at ≤ length source.bytes)

-- some place of the files stands here
abbrev pub IsSpotOf : List Source → Spot → Type 0
IsSpotOf sources spot = (place : Place) × IsPlaceOf sources place × (spot ≡ spot_of sources place)

-- the same of a second place, where there is one
abbrev pub IsOtherOf : List Source → Option Spot → Type 0
IsOtherOf sources None = Unit {0}
IsOtherOf sources (Some spot) = IsSpotOf sources spot
