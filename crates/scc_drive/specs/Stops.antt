-- Why a command has no output, by the stage that stops it.
use Rattle.std.specs.Prelude.{◌≡◌, ℕ, Bool, true, ◌||◌, ◌&&◌, nat_le, nat_eq, List, [], ◌∷◌, Option, Some, None}
use Rattle.scc_base.specs.Code.{code_number}
use Rattle.scc_base.specs.declared.code.Code.{Code}
use Rattle.scc_base.specs.declared.refusal.Place.{Place}
use Rattle.scc_tokens_directives.specs.declared.file.Source.{Source}
use Rattle.scc_tokens.specs.declared.joining.Joined.{Joined}
use Rattle.scc_grammar.specs.Claim.{IsFault}
use Rattle.scc_drive_stages.specs.Refusals.{is_later}
use Rattle.scc_drive_form_sim.specs.Forms.{is_of_text}
use Rattle.scc_drive_errors.specs.declared.spots.Spot.{Spot}
use Rattle.scc_drive_errors.specs.declared.stopped.Stopped.{Stopped}
use Rattle.scc_drive_errors.specs.declared.stopped.Stopped.TheVariants as stopped
use Rattle.scc_drive_errors.specs.Spots.{spot_of, IsSpotOf, IsOtherOf}

-- the first fault of joined tokens as a refusal, unless memory ran out
abbrev pub IsFaulty : List Source → Joined → Stopped → Type 0
IsFaulty sources j (stopped.Refused code spot other) = (place : Place) × IsFault j code place × (spot ≡ spot_of sources place) × (other ≡ None)
IsFaulty sources j stopped.NoMemory = Unit {0}
IsFaulty sources j stopped.BadWords = ⊥
IsFaulty sources j (stopped.Missing name) = ⊥
IsFaulty sources j (stopped.Failed name) = ⊥

-- a refusal of a stage behind the grammar, at a place of the files; `many` says whether there may be several clocks
abbrev pub RefusesLater : Bool → List Source → Code → Spot → Option Spot → Type 0
RefusesLater many sources code spot other = (is_later many code ≡ true) × IsSpotOf sources spot × IsOtherOf sources other

-- such a refusal, unless memory ran out
abbrev pub IsLater : Bool → List Source → Stopped → Type 0
IsLater many sources (stopped.Refused code spot other) = RefusesLater many sources code spot other
IsLater many sources stopped.NoMemory = Unit {0}
IsLater many sources stopped.BadWords = ⊥
IsLater many sources (stopped.Missing name) = ⊥
IsLater many sources (stopped.Failed name) = ⊥

-- a refusal of an emitted text of another form than one module, at a place of it
abbrev pub RefusesText : List Source → Code → Spot → Option Spot → Type 0
RefusesText sources code spot other = (is_of_text code ≡ true) × IsSpotOf sources spot × (other ≡ None)

-- such a refusal, unless memory ran out
abbrev pub IsOfText : Source → Stopped → Type 0
IsOfText text (stopped.Refused code spot other) = RefusesText (text ∷ []) code spot other
IsOfText text stopped.NoMemory = Unit {0}
IsOfText text stopped.BadWords = ⊥
IsOfText text (stopped.Missing name) = ⊥
IsOfText text (stopped.Failed name) = ⊥

-- what may be wrong with a stimulus: it is too long, or its text, its ports or its values
abbrev pub is_of_stimulus : Code → Bool
is_of_stimulus code = nat_eq (code_number code) 108 || (nat_le 801 (code_number code) && nat_le (code_number code) 803)

-- a refusal of the stimulus of this name, at a place of it
abbrev pub RefusesStimulus : List ℕ → Code → Spot → Option Spot → Type 0
RefusesStimulus name code spot other =
    (is_of_stimulus code ≡ true) × ((s : Source) × (s.name ≡ name) × IsSpotOf (s ∷ []) spot) × (other ≡ None)
