-- Laws over the definitions alone.
use Rattle.std.specs.Prelude.{◌≡◌, ◌⊎◌, List, Bool, true, false, String, Option, Some, None}
use Rattle.std.specs.declared.alloc.Global.{Global}
use Rattle.scc_base.specs.Outside.{Shelf}
use Rattle.scc_drive_words.specs.declared.command.Command.{Command}
use Rattle.scc_drive_words.specs.declared.command.Command.TheVariants as command
use Rattle.scc_drive.specs.CommandOutcome.{CommandOutcome}
use Rattle.scc_drive.specs.Outcome.{Outcome, bad, refusal, absent, compiles, runs, writes, generated, wider}
use Rattle.scc_drive_spec.specs.Words.{command_by}

abbrev pub is_refusal : Outcome → Bool
is_refusal bad = false
is_refusal (refusal code spot) = true
is_refusal (absent name) = false
is_refusal (compiles design) = false
is_refusal (runs m stimulus) = false
is_refusal (writes t) = false
is_refusal generated = false
is_refusal (wider task sources) = false

-- the same outcome, or two refusals
abbrev pub AreAlike : Outcome → Outcome → Type 0
AreAlike o o' = (o ≡ o') ⊎ ((is_refusal o ≡ true) × (is_refusal o' ≡ true))

-- By the command: one outcome; where an emitted text is refused, one kind of outcome.
abbrev pub AreOne : Option Command → Outcome → Outcome → Type 0
AreOne None o o' = o ≡ o'
AreOne (Some (command.Compile count f)) o o' = o ≡ o'
AreOne (Some (command.Sim count stim way)) o o' = o ≡ o'
AreOne (Some (command.Svsim stim f)) o o' = AreAlike o o'
AreOne (Some (command.List count)) o o' = o ≡ o'
AreOne (Some (command.Gen stages source)) o o' = o ≡ o'

-- what a command comes to, where the names hold this, is one
abbrev pub OneOutcome : Type 0
OneOutcome = (shelf : Shelf) (words : List (String Global)) (o o' : Outcome) → CommandOutcome shelf words o → CommandOutcome shelf words o' → AreOne (command_by words) o o'
