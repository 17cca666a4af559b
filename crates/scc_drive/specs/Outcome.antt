-- What a command comes to, and what it may answer by that.
use Rattle.std.specs.Prelude.{◌≡◌, ◌⊎◌, ℕ, Bool, true, false, List, Option, None}
use Rattle.scc_base.specs.Outside.{Rose}
use Rattle.scc_base.specs.declared.code.Code.{Code}
use Rattle.scc_svtree.specs.declared.module.SvModule.{SvModule}
use Rattle.scc_svtext.specs.Emitted.{SvReads}
use Rattle.scc_svrun_trace.specs.Traced.{IsTrace}
use Rattle.scc_drive_forms.specs.declared.form.TextForm.{TextForm}
use Rattle.scc_drive_forms.specs.Formed.{IsFormed, has_clocks}
use Rattle.scc_drive_stages.specs.Emitted.{IsEmitted}
use Rattle.scc_tokens_directives.specs.declared.file.Source.{Source}
use Rattle.scc_thin.specs.declared.design.Design.{Design}
use Rattle.scc_thin_module.specs.Same.{Matches, ShowsTheSame}
use Rattle.scc_drive_errors.specs.declared.spots.Spot.{Spot}
use Rattle.scc_drive.specs.Stops.{RefusesLater, RefusesStimulus, RefusesText}

-- what files are for: `compile`, as one module or in another form; `list`; `sim`, with several clocks or one, on the stimulus of that name; `svsim` of a text
-- of another form on such a stimulus
pub data Task : Type 0 where
  compiling : Task
  forming : TextForm → Task
  listing : Task
  simulating : (many : Bool) → List ℕ → Task
  tracing : List ℕ → Task

-- what a command comes to where it is told what the names hold
pub data Outcome : Type 0 where
  bad : Outcome
  refusal : Code → Spot → Outcome
  absent : List ℕ → Outcome
  compiles : Design → Outcome
  -- a module runs on the bytes of a stimulus
  runs : SvModule → List ℕ → Outcome
  writes : List ℕ → Outcome
  -- the line of a generated design, which isn't defined here
  generated : Outcome
  -- these files are read by the grammar and are no thin text, or are an emitted text: what refuses them, and what is written, is not defined here
  wider : Task → List Source → Outcome

-- The text is that of one module without wrong sizes, names, drivers or cycles, which matches the design and shows what it shows.
pub record IsTextOf (design : Design) (text : List ℕ) : Type 0 where
  pub emitted : SvModule
  pub reads : SvReads false text emitted
  pub matches : Matches design emitted
  pub shows : ShowsTheSame design emitted

-- what is written of wider files; nothing is claimed of lists and traces
abbrev pub WritesOf : Task → List ℕ → List ℕ → Type 0
WritesOf compiling top text = IsEmitted false top text
WritesOf (forming form) top text = IsFormed form top text
WritesOf listing top text = Unit {0}
WritesOf (simulating many stim) top text = Unit {0}
WritesOf (tracing stim) top text = Unit {0}

-- the text that is written, by what a command comes to
abbrev pub WritesBy : List ℕ → Outcome → List ℕ → Type 0
WritesBy top bad text = ⊥
WritesBy top (refusal code spot) text = ⊥
WritesBy top (absent name) text = ⊥
WritesBy top (compiles design) text = IsTextOf design text
WritesBy top (runs m stimulus) text = IsTrace 0 m stimulus text
WritesBy top (writes t) text = text ≡ t
WritesBy top generated text = Unit {0}
WritesBy top (wider task sources) text = WritesOf task top text

-- as what wider files are refused
abbrev pub RefusesOf : Task → List Source → Code → Spot → Option Spot → Type 0
RefusesOf compiling = RefusesLater false
RefusesOf (forming form) = RefusesLater (has_clocks form)
RefusesOf listing = RefusesLater false
RefusesOf (simulating many stim) = λ sources code spot other. RefusesLater many sources code spot other ⊎ RefusesStimulus stim code spot other
RefusesOf (tracing stim) = λ sources code spot other. RefusesText sources code spot other ⊎ RefusesStimulus stim code spot other

-- as what a command is refused, by what it comes to
abbrev pub RefusesBy : Outcome → Code → Spot → Option Spot → Type 0
RefusesBy bad code spot other = ⊥
RefusesBy (refusal c s) code spot other = (code ≡ c) × (spot ≡ s) × (other ≡ None)
RefusesBy (absent name) code spot other = ⊥
RefusesBy (compiles design) code spot other = ⊥
RefusesBy (runs m stimulus) code spot other = ⊥
RefusesBy (writes t) code spot other = ⊥
RefusesBy generated code spot other = ⊥
RefusesBy (wider task sources) code spot other = RefusesOf task sources code spot other

abbrev pub MissesOf : Task → List ℕ → Type 0
MissesOf compiling name = ⊥
MissesOf (forming form) name = ⊥
MissesOf listing name = ⊥
MissesOf (simulating many stim) name = name ≡ stim
MissesOf (tracing stim) name = name ≡ stim

-- the file for want of which a command stops
abbrev pub MissesBy : Outcome → List ℕ → Type 0
MissesBy bad name = ⊥
MissesBy (refusal code spot) name = ⊥
MissesBy (absent n) name = name ≡ n
MissesBy (compiles design) name = ⊥
MissesBy (runs m stimulus) name = ⊥
MissesBy (writes t) name = ⊥
MissesBy generated name = ⊥
MissesBy (wider task sources) name = MissesOf task name

-- how a command may end: with words that are bad, with an output, refused, with a file missing; and whether it asks for files
pub record Kind : Type 0 where
  pub is_bad : Bool
  pub may_write : Bool
  pub may_refuse : Bool
  pub may_miss : Bool
  pub asks : Bool

abbrev pub kind_of_task : Task → Kind
kind_of_task compiling = record { is_bad = false; may_write = true; may_refuse = true; may_miss = false; asks = true }
kind_of_task (forming form) = record { is_bad = false; may_write = true; may_refuse = true; may_miss = false; asks = true }
kind_of_task listing = record { is_bad = false; may_write = true; may_refuse = true; may_miss = false; asks = true }
kind_of_task (simulating many stim) = record { is_bad = false; may_write = true; may_refuse = true; may_miss = true; asks = true }
kind_of_task (tracing stim) = record { is_bad = false; may_write = true; may_refuse = true; may_miss = true; asks = true }

abbrev pub kind_of : Outcome → Kind
kind_of bad = record { is_bad = true; may_write = false; may_refuse = false; may_miss = false; asks = false }
kind_of (refusal code spot) = record { is_bad = false; may_write = false; may_refuse = true; may_miss = false; asks = true }
kind_of (absent name) = record { is_bad = false; may_write = false; may_refuse = false; may_miss = true; asks = true }
kind_of (compiles design) = record { is_bad = false; may_write = true; may_refuse = false; may_miss = false; asks = true }
kind_of (runs m stimulus) = record { is_bad = false; may_write = true; may_refuse = false; may_miss = false; asks = true }
kind_of (writes t) = record { is_bad = false; may_write = true; may_refuse = false; may_miss = false; asks = false }
kind_of generated = record { is_bad = false; may_write = true; may_refuse = false; may_miss = false; asks = false }
kind_of (wider task sources) = kind_of_task task

-- The status, by how the command may end. Memory may run out, and an output may fail; and where it asks for files, one may fail.
abbrev pub EndsAs : Kind → (faults faults' status : ℕ) → Type 0
EndsAs k f f' status =
    (status ≡ 4)
    ⊎ (status ≡ 5)
    ⊎ ((status ≡ 0) × (k.may_write ≡ true))
    ⊎ ((status ≡ 1) × (k.may_refuse ≡ true))
    ⊎ ((status ≡ 2) × (k.is_bad ≡ true))
    ⊎ ((status ≡ 3) × (k.may_miss ≡ true))
    ⊎ ((status ≡ 3) × (k.asks ≡ true) × Rose f f')

abbrev pub EndsBy : Outcome → (faults faults' status : ℕ) → Type 0
EndsBy outcome = EndsAs (kind_of outcome)
