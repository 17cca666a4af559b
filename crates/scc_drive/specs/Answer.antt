-- What a command answers, and how the program ends.
use Rattle.std.specs.Prelude.{◌≡◌, ◌⊎◌, ℕ, List, [], true, false, String, Option, None, Result, Ok, Err, if◌then◌else◌, bytes_eq}
use Rattle.std.specs.Io.KnownBytes.{Appends}
use Rattle.std.specs.declared.alloc.Global.{Global}
use Rattle.scc_base.specs.Outside.{Rose, Shelf, Told, AppendsPart}
use Rattle.scc_base.specs.declared.code.Code.{Code}
use Rattle.scc_drive_errors.specs.declared.spots.Spot.{Spot}
use Rattle.scc_drive_errors.specs.declared.stopped.Stopped.{Stopped}
use Rattle.scc_drive_errors.specs.declared.stopped.Stopped.TheVariants as stopped
use Rattle.scc_drive.specs.CommandOutcome.{CommandOutcome}
use Rattle.scc_drive.specs.Outcome.{Outcome, WritesBy, RefusesBy, MissesBy, EndsBy}
use Rattle.scc_drive.specs.Said.{Said, SaysPart, SaysFaults}
use Rattle.scc_drive_errors.specs.Texts.{refusal_text, words_text, missing_text, failed_text}
use Rattle.scc_drive_spec.specs.Words.{word_at, are_words}

-- this is written where what the names hold comes to what C says
abbrev pub Writes : (Shelf → Outcome → Type 0) → List ℕ → List ℕ → Shelf → Type 0
Writes C top text shelf = (outcome : Outcome) × C shelf outcome × WritesBy top outcome text

-- it is refused so
abbrev pub Refuses : (Shelf → Outcome → Type 0) → Code → Spot → Option Spot → Shelf → Type 0
Refuses C code spot other shelf = (outcome : Outcome) × C shelf outcome × RefusesBy outcome code spot other

-- it stops for want of the file of this name
abbrev pub Misses : (Shelf → Outcome → Type 0) → List ℕ → Shelf → Type 0
Misses C name shelf = (outcome : Outcome) × C shelf outcome × MissesBy outcome name

-- what these names hold, but nothing at this one
abbrev pub without : List ℕ → Shelf → Shelf
without name shelf n = if bytes_eq n name then None else shelf n

-- The file of this name is asked for, with no refusal and no missing file before it: were it not held, the command would stop for want of it. Or it does so where
-- these are held, as for the stimulus of `sim`, which may be one of the joined files.
abbrev pub Asks : (Shelf → Outcome → Type 0) → List ℕ → Shelf → Type 0
Asks C name shelf = Misses C name (without name shelf) ⊎ Misses C name shelf

-- some names hold what P says
abbrev pub Anywhere : (Shelf → Type 0) → Type 0
Anywhere P = (shelf : Shelf) × P shelf

-- what is answered over files where what they hold comes to what C says
abbrev pub AnswersBy : (Shelf → Outcome → Type 0) → List ℕ → Option Shelf → (misses misses' faults faults' : ℕ) → Result (List ℕ) Stopped → Type 0
AnswersBy C top held m m' f f' (Ok text) = Anywhere (Writes C top text) × Told held (Writes C top text)
AnswersBy C top held m m' f f' (Err stopped.BadWords) = ⊥
AnswersBy C top held m m' f f' (Err (stopped.Refused code spot other)) = Anywhere (Refuses C code spot other) × Told held (Refuses C code spot other)
AnswersBy C top held m m' f f' (Err (stopped.Missing name)) = Rose m m' × Anywhere (Misses C name) × Told held (Misses C name) × Told held (λ shelf. shelf name ≡ None)
AnswersBy C top held m m' f f' (Err (stopped.Failed name)) = Rose f f' × Anywhere (Misses C name) × Told held (Asks C name)
AnswersBy C top held m m' f f' (Err stopped.NoMemory) = Unit {0}

-- what a command comes to
abbrev pub ComesFor : List (String Global) → Shelf → Outcome → Type 0
ComesFor words shelf outcome = CommandOutcome shelf words outcome

-- what a command answers over files
abbrev pub Answers : List (String Global) → Option Shelf → (misses misses' faults faults' : ℕ) → Result (List ℕ) Stopped → Type 0
Answers words held m m' f f' r =
    ((are_words words ≡ false) × (r ≡ Err stopped.BadWords))
    ⊎ ((are_words words ≡ true) × AnswersBy (ComesFor words) (word_at words 1) held m m' f f' r)
    ⊎ (r ≡ Err stopped.NoMemory)

abbrev pub Tells : Stopped → (old new : Option (List ℕ)) → (faults faults' result : ℕ) → Type 0
Tells stopped.BadWords = Said 2 words_text
Tells (stopped.Refused code spot other) = Said 1 (refusal_text code spot other)
Tells (stopped.Missing name) = Said 3 (missing_text name)
Tells (stopped.Failed name) = Said 3 (failed_text name)
Tells stopped.NoMemory = λ old new f f' result. (result ≡ 4) ⊎ ((result ≡ 5) × Rose f f')

-- the command comes to something for which this text is written
abbrev pub IsOutput : Shelf → List (String Global) → List ℕ → Type 0
IsOutput shelf words text = Writes (ComesFor words) (word_at words 1) text shelf

-- 0: a text was appended, for which some files make the command come to an output
pub record IsDone (words : List (String Global)) (held : Option Shelf) (old new : Option (List ℕ)) : Type 0 where
  pub text : List ℕ
  pub may : Anywhere (λ shelf. IsOutput shelf words text)
  pub output : Told held (λ shelf. IsOutput shelf words text)
  pub written : Appends old new text

-- 1: the text of a refusal was appended, which some files bring
pub record IsRefused (words : List (String Global)) (held : Option Shelf) (old new : Option (List ℕ)) : Type 0 where
  pub code : Code
  pub spot : Spot
  pub other : Option Spot
  pub may : Anywhere (Refuses (ComesFor words) code spot other)
  pub refused : Told held (Refuses (ComesFor words) code spot other)
  pub told : Appends old new (refusal_text code spot other)

-- 3: a file is missing, or failed
pub record IsMissing (words : List (String Global)) (held : Option Shelf) (m m' : ℕ) (old new : Option (List ℕ)) : Type 0 where
  pub name : List ℕ
  pub rose : Rose m m'
  pub may : Anywhere (Misses (ComesFor words) name)
  pub absent : Told held (Misses (ComesFor words) name)
  pub lacks : Told held (λ shelf. shelf name ≡ None)
  pub told : Appends old new (missing_text name)

pub record HasFailed (words : List (String Global)) (held : Option Shelf) (f f' : ℕ) (old new : Option (List ℕ)) : Type 0 where
  pub name : List ℕ
  pub rose : Rose f f'
  pub may : Anywhere (Misses (ComesFor words) name)
  pub asked : Told held (Asks (ComesFor words) name)
  pub told : Appends old new (failed_text name)

-- the text that says why there is no output; want of memory is said as a fault
abbrev pub stopped_text : Stopped → List ℕ
stopped_text stopped.BadWords = words_text
stopped_text (stopped.Refused code spot other) = refusal_text code spot other
stopped_text (stopped.Missing name) = missing_text name
stopped_text (stopped.Failed name) = failed_text name
stopped_text stopped.NoMemory = []

-- a first part of what is answered, on the first output, or on the second, and nothing on the first; then parts of what is said of faults
abbrev pub Parts : Result (List ℕ) Stopped → (out out' err err' : Option (List ℕ)) → Type 0
Parts (Ok text) out out' err err' = AppendsPart out out' text × SaysFaults err err'
Parts (Err s) out out' err err' = (out' ≡ out) × SaysPart (stopped_text s) err err'

-- 4 and 5: the command has this answer, of which a first part was written or said, which may be empty
pub record IsCutShort (words : List (String Global)) (held : Option Shelf) (m m' f f' : ℕ) (out out' err err' : Option (List ℕ)) : Type 0 where
  pub answer : Result (List ℕ) Stopped
  pub answers : Answers words held m m' f f' answer
  pub parts : Parts answer out out' err err'

-- the status, by whatever the command comes to
abbrev pub Ends : Shelf → List (String Global) → (faults faults' status : ℕ) → Type 0
Ends shelf words f f' status = (outcome : Outcome) → CommandOutcome shelf words outcome → EndsBy outcome f f' status
