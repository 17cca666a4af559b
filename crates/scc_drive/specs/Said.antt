-- What the program says on its second output.
use Rattle.std.specs.Prelude.{◌≡◌, ◌⊎◌, ℕ, List, Option}
use Rattle.std.specs.Io.KnownBytes.{Appends}
use Rattle.scc_base.specs.Outside.{Rose, AppendsPart}
use Rattle.scc_drive_errors.specs.Texts.{memory_text, output_text}

-- what is said where memory runs out, and then where an output fails: a first part of each text, maybe empty
abbrev pub SaysFaults : Option (List ℕ) → Option (List ℕ) → Type 0
SaysFaults old new = (middle : Option (List ℕ)) × AppendsPart old middle memory_text × AppendsPart middle new output_text

-- a first part of this text, and then what is said of faults
abbrev pub SaysPart : List ℕ → Option (List ℕ) → Option (List ℕ) → Type 0
SaysPart text old new = (middle : Option (List ℕ)) × AppendsPart old middle text × SaysFaults middle new

-- a status was answered with its text, or memory ran out, or the output failed
abbrev pub Said : ℕ → List ℕ → (old new : Option (List ℕ)) → (faults faults' result : ℕ) → Type 0
Said status text old new f f' result = ((result ≡ status) × Appends old new text) ⊎ (result ≡ 4) ⊎ ((result ≡ 5) × Rose f f')
