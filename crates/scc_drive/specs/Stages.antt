-- What the parts of a command answer.
use Rattle.std.specs.Prelude.{◌≡◌, ℕ, ◌≤◌, List, length, Option, Some, None, Result, Ok, Err}
use Rattle.scc_base.specs.Names.{fixed_names}
use Rattle.scc_base.specs.Outside.{Rose, Shelf, Told}
use Rattle.scc_base.specs.declared.code.Code.TheVariants.{FileTooLong}
use Rattle.scc_tokens_directives.specs.declared.file.Source.{Source}
use Rattle.scc_tokens.specs.Files.{HoldsAll, ToldAll, first_part}
use Rattle.scc_tokens.specs.Join.{join_of}
use Rattle.scc_grammar.specs.Claim.{IsReadFile}
use Rattle.scc_thin_module.specs.Identifiers.{AreIdentifiers}
use Rattle.scc_drive.specs.declared.joining.Read.{Read}
use Rattle.scc_drive_errors.specs.declared.stopped.Stopped.{Stopped}
use Rattle.scc_drive_errors.specs.declared.stopped.Stopped.TheVariants as stopped
use Rattle.scc_drive.specs.Answer.{AnswersBy}
use Rattle.scc_drive.specs.CommandOutcome.{JoinedOutcome, RootsOutcome, TextOutcome}
use Rattle.scc_drive.specs.Outcome.{Task, Outcome, refusal, WritesBy, RefusesBy, MissesBy}
use Rattle.scc_drive_errors.specs.Spots.{first_spot}
use Rattle.scc_drive.specs.Stops.{RefusesStimulus}

-- Files were joined so, and are a file of the grammar.
pub record IsJoined (roots : List (List ℕ)) (held : Option Shelf) (read : Read) : Type 0 where
  pub says : (shelf : Shelf) → HoldsAll shelf read.sources → join_of shelf fixed_names roots ≡ (read.names, read.sources, Ok read.joined)
  pub told : ToldAll held read.sources
  pub somewhere : (shelf : Shelf) × HoldsAll (first_part shelf) read.sources
  pub file : IsReadFile read.joined read.tree
  pub identifiers : AreIdentifiers read.names

-- files are not joined, or are no file of the grammar, whatever they are for
abbrev pub IsUnjoined : List (List ℕ) → Option Shelf → (misses misses' faults faults' : ℕ) → Stopped → Type 0
IsUnjoined roots held m m' f f' s = (task : Task) (top : List ℕ) → AnswersBy (RootsOutcome task top roots) top held m m' f f' (Err s)

-- what is answered where joined files come to what C says, and no file is asked for
abbrev pub Gives : (Outcome → Type 0) → List ℕ → Result (List ℕ) Stopped → Type 0
Gives C top (Ok text) = (outcome : Outcome) × C outcome × WritesBy top outcome text
Gives C top (Err stopped.BadWords) = ⊥
Gives C top (Err (stopped.Refused code spot other)) = (outcome : Outcome) × C outcome × RefusesBy outcome code spot other
Gives C top (Err (stopped.Missing name)) = ⊥
Gives C top (Err (stopped.Failed name)) = ⊥
Gives C top (Err stopped.NoMemory) = Unit {0}

-- the same where a file is asked for
abbrev pub Asking : (Outcome → Type 0) → List ℕ → Option Shelf → (misses misses' faults faults' : ℕ) → Result (List ℕ) Stopped → Type 0
Asking C top held m m' f f' (Err (stopped.Missing name)) = Rose m m' × ((outcome : Outcome) × C outcome × MissesBy outcome name) × Told held (λ shelf. shelf name ≡ None)
Asking C top held m m' f f' (Err (stopped.Failed name)) = Rose f f' × ((outcome : Outcome) × C outcome × MissesBy outcome name)
Asking C top held m m' f f' r = Gives C top r

-- what the files were read for comes to
abbrev pub ReadOutcome : Task → List ℕ → Read → Outcome → Type 0
ReadOutcome task top read = JoinedOutcome task top read.names read.sources read.joined

-- these bytes are in a file of this name
abbrev pub IsHeld : Option Shelf → List ℕ → List ℕ → Type 0
IsHeld held name bytes = Told held (λ shelf. first_part shelf name ≡ Some bytes)

-- what is found in bytes, at most 1,048,577 of them
abbrev pub IsFound : List ℕ → List ℕ → Result Source Stopped → Type 0
IsFound name bytes (Ok s) = (s ≡ record { name = name; bytes = bytes }) × (length bytes ≤ 1048576)
IsFound name bytes (Err (stopped.Refused code spot other)) = (code ≡ FileTooLong) × (spot ≡ first_spot name) × (other ≡ None) × (length bytes ≡ 1048577)
IsFound name bytes (Err stopped.NoMemory) = Unit {0}
IsFound name bytes (Err stopped.BadWords) = ⊥
IsFound name bytes (Err (stopped.Missing n)) = ⊥
IsFound name bytes (Err (stopped.Failed n)) = ⊥

-- what asking for a file of this name answers
abbrev pub Asked : List ℕ → Option Shelf → (misses misses' faults faults' : ℕ) → Result Source Stopped → Type 0
Asked name held m m' f f' (Ok s) = (s.name ≡ name) × (length s.bytes ≤ 1048576) × IsHeld held name s.bytes
Asked name held m m' f f' (Err (stopped.Refused code spot other)) =
    (code ≡ FileTooLong) × (spot ≡ first_spot name) × (other ≡ None) × ((bytes : List ℕ) × (length bytes ≡ 1048577) × IsHeld held name bytes)
Asked name held m m' f f' (Err (stopped.Missing n)) = (n ≡ name) × Rose m m' × Told held (λ shelf. shelf name ≡ None)
Asked name held m m' f f' (Err (stopped.Failed n)) = (n ≡ name) × Rose f f'
Asked name held m m' f f' (Err stopped.NoMemory) = Unit {0}
Asked name held m m' f f' (Err stopped.BadWords) = ⊥

-- Why a text is not that of a module of this name, whatever the stimulus holds.
abbrev pub IsNoModule : List ℕ → Source → Stopped → Type 0
IsNoModule top text (stopped.Refused code spot other) =
    ((stim : List ℕ) (given : Option (List ℕ)) → TextOutcome top text stim given (refusal code spot)) × (other ≡ None)
IsNoModule top text stopped.NoMemory = Unit {0}
IsNoModule top text stopped.BadWords = ⊥
IsNoModule top text (stopped.Missing n) = ⊥
IsNoModule top text (stopped.Failed n) = ⊥

-- a refusal of a stimulus, unless memory ran out
abbrev pub IsOfStimulus : List ℕ → Stopped → Type 0
IsOfStimulus name (stopped.Refused code spot other) = RefusesStimulus name code spot other
IsOfStimulus name stopped.NoMemory = Unit {0}
IsOfStimulus name stopped.BadWords = ⊥
IsOfStimulus name (stopped.Missing n) = ⊥
IsOfStimulus name (stopped.Failed n) = ⊥
