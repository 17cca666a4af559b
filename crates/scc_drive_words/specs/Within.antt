-- Where the files of a command stand: this project's own.
use Rattle.std.specs.Prelude.{ℕ, ◌<◌, ◌≤◌, ◌+◌}
use Rattle.scc_drive_words.specs.declared.command.Command.{Command}
use Rattle.scc_drive_words.specs.declared.command.Command.TheVariants as command

-- the files of a command are words
abbrev pub Within : Command → ℕ → Type 0
Within (command.Compile count f) n = (0 < count) × (count ≤ 64) × (count + 2 ≤ n)
Within (command.Sim count stim way) n = (0 < count) × (count ≤ 64) × (count + 2 ≤ n)
Within (command.List count) n = (0 < count) × (count ≤ 64) × (count + 2 ≤ n)
Within (command.Svsim stim f) n = Unit {0}
Within (command.Gen stages source) n = Unit {0}
