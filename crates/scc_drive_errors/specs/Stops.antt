-- Why a command has no output: a refusal at a spot, a file that is missing or failed, want of memory.
use Rattle.std.specs.Prelude.{◌≡◌, List, Option, Some, None}
use Rattle.scc_base.specs.declared.code.Code.{Code}
use Rattle.scc_base.specs.declared.refusal.Place.{Place}
use Rattle.scc_tokens_directives.specs.declared.file.Source.{Source}
use Rattle.scc_base.specs.declared.refusal.Stop.{Stop}
use Rattle.scc_base.specs.declared.refusal.Stop.TheVariants as stop
use Rattle.scc_tokens.specs.declared.joining.JoinFault.{JoinFault}
use Rattle.scc_tokens.specs.declared.joining.JoinFault.TheVariants as fault
use Rattle.scc_drive_errors.specs.declared.spots.Spot.{Spot}
use Rattle.scc_drive_errors.specs.declared.stopped.Stopped.{Stopped}
use Rattle.scc_drive_errors.specs.declared.stopped.Stopped.TheVariants as stopped
use Rattle.scc_drive_errors.specs.Spots.{spot_of, spot_in}

-- a refusal at this spot, unless memory ran out
abbrev pub StopsAt : Code → Spot → Stopped → Type 0
StopsAt code s (stopped.Refused c spot other) = (c ≡ code) × (spot ≡ s) × (other ≡ None)
StopsAt code s stopped.NoMemory = Unit {0}
StopsAt code s stopped.BadWords = ⊥
StopsAt code s (stopped.Missing name) = ⊥
StopsAt code s (stopped.Failed name) = ⊥

-- a refusal at this place, unless memory ran out
abbrev pub Stops : List Source → Place → Code → Stopped → Type 0
Stops sources place code = StopsAt code (spot_of sources place)

-- by what joining stops
abbrev pub StoppedBy : List Source → JoinFault → Stopped → Type 0
StoppedBy sources (fault.Stop (stop.Refused x)) s = Stops sources x.place x.code s
StoppedBy sources (fault.Stop stop.NoMemory) s = s ≡ stopped.NoMemory
StoppedBy sources (fault.Missing name) s = s ≡ stopped.Missing name
StoppedBy sources (fault.Failed name) s = s ≡ stopped.Failed name

-- a refusal at a byte of a file, unless memory ran out
abbrev pub StoppedIn : Source → Stop → Stopped → Type 0
StoppedIn source (stop.Refused r) s = StopsAt r.code (spot_in (Some source) r.place.at) s
StoppedIn source stop.NoMemory s = s ≡ stopped.NoMemory
