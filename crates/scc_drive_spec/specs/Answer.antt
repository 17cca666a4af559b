-- What a command comes to where the names of files hold this: bad words, a refusal, a file that isn't there, or an output. This project's own.
use Rattle.std.specs.Prelude.{◌≡◌, ◌≢◌, ℕ, Bool, true, false, nat_lt, List, [], ◌∷◌, length, codes, Option, Some, None, Err, String, bytes_eq, if◌then◌else◌}
use Rattle.std.specs.declared.alloc.Global.{Global}
use Rattle.scc_base.specs.Outside.{Shelf}
use Rattle.scc_base.specs.declared.code.Code.TheVariants.{FileTooLong, SvName}
use Rattle.scc_base.specs.declared.refusal.Place.{Place}
use Rattle.scc_base.specs.declared.refusal.Refusal.{Refusal}
use Rattle.scc_base.specs.declared.refusal.Stop.TheVariants as stop
use Rattle.scc_tokens_directives.specs.declared.file.Source.{Source}
use Rattle.scc_tokens.specs.Files.{first_part}
use Rattle.scc_core_spec.specs.First.{refused as refusal_at}
use Rattle.scc_svtree.specs.declared.module.SvModule.{SvModule}
use Rattle.scc_svread.specs.Read.{ReadAs, ReadBack, RefusedAs}
use Rattle.scc_svrun_trace.specs.Ports.{in_ports}
use Rattle.scc_svrun_trace.specs.Clocked.{clock_names}
use Rattle.scc_hier_spec.specs.Flattened.{IsFlattening}
use Rattle.scc_hier_spec.specs.Text.{HierReads}
use Rattle.scc_hier_text.specs.declared.tree.Hier.{Hier}
use Rattle.scc_trace.specs.Source.{source_of}
use Rattle.scc_trace.specs.Stimulus.{stim_of}
use Rattle.scc_trace.specs.Clocks.{clock_stim_of}
use Rattle.scc_drive_words.specs.declared.command.Command.{Command}
use Rattle.scc_drive_words.specs.declared.command.Command.TheVariants as command
use Rattle.scc_drive_words.specs.declared.command.Form.{Form}
use Rattle.scc_drive_words.specs.declared.command.Form.TheVariants as form
use Rattle.scc_drive_words.specs.declared.command.SimWay.{SimWay}
use Rattle.scc_drive_words.specs.declared.command.SimWay.TheVariants as sim_way
use Rattle.scc_drive_words.specs.declared.command.SvForm.{SvForm}
use Rattle.scc_drive_words.specs.declared.command.SvForm.TheVariants as sv_form
use Rattle.scc_drive_spec.specs.Words.{command_by, word_at, roots_of}
use Rattle.scc_drive_spec.specs.HierText.{RefusesHier, IsWithin}
use Rattle.scc_drive_spec.specs.Comes.{Request, Accepted, Verdict, Refuses, Absent, Accepts, Comes, error_of}
use Rattle.scc_drive_spec.specs.Output.{Output, compiles, simulates, lists, traces, generates, says, generated_top}

-- A refusal stands at a place of these files.
pub data Answer : Type 0 where
  bad : Answer
  refused : List Source → Refusal → Answer
  absent : List ℕ → Answer
  writes : Output → Answer

-- ---- commands on source files

abbrev pub answer_of : (Accepted → Output) → Verdict → Answer
answer_of give (Refuses sources r) = refused sources r
answer_of give (Absent name) = absent name
answer_of give (Accepts a) = writes (give a)

abbrev pub SourceComes : Request → (Accepted → Output) → Shelf → Answer → Type 0
SourceComes q give shelf x = (v : Verdict) × Comes q shelf v × (x ≡ answer_of give v)

-- whether the text may have several clocks
abbrev pub has_clocks : Form → Bool
has_clocks form.Whole = false
has_clocks form.Hier = false
has_clocks form.Clocks = true
has_clocks form.Memory = false

abbrev pub simulates_clocks : SimWay → Bool
simulates_clocks sim_way.Whole = false
simulates_clocks (sim_way.Order n) = false
simulates_clocks sim_way.Migrate = false
simulates_clocks sim_way.Clocks = true

abbrev pub request : (many : Bool) → List (String Global) → (count : ℕ) → Option (List ℕ) → Request
request many words count stimulus = record { many = many; top = word_at words 1; roots = roots_of words count; stimulus = stimulus }

-- ---- emitted texts

-- What a text is read as, by its form: a module; what modules with instances are together; a module with several clocks.
abbrev pub ReadsAs : SvForm → List ℕ → SvModule → Type 0
ReadsAs sv_form.Whole bytes m = ReadAs false bytes m
ReadsAs sv_form.Hier bytes m = (h : Hier) × HierReads false bytes h × IsFlattening h m × IsWithin bytes h
ReadsAs sv_form.Clocks bytes m = ReadAs true bytes m

-- Why one is refused.
abbrev pub RefusesText : SvForm → List ℕ → Refusal → Type 0
RefusesText sv_form.Whole bytes r = RefusedAs false bytes (stop.Refused r) × ReadBack false bytes (Err (stop.Refused r))
RefusesText sv_form.Hier bytes r = RefusesHier bytes r
RefusesText sv_form.Clocks bytes r = RefusedAs true bytes (stop.Refused r) × ReadBack true bytes (Err (stop.Refused r))

-- as what the steps of a stimulus are refused, whose text is file 0
abbrev pub steps_refusal : SvForm → SvModule → List ℕ → Option Refusal
steps_refusal sv_form.Whole m bytes = error_of (stim_of 0 (in_ports m) bytes)
steps_refusal sv_form.Hier m bytes = error_of (stim_of 0 (in_ports m) bytes)
steps_refusal sv_form.Clocks m bytes = error_of (clock_stim_of 0 (clock_names m) (in_ports m) bytes)

abbrev pub place_at : ℕ → Place
place_at n = record { file = 0; at = n }

abbrev pub alone : (name bytes : List ℕ) → List Source
alone name bytes = record { name = name; bytes = bytes } ∷ []

abbrev pub is_long : List ℕ → Bool
is_long bytes = nat_lt 1048576 (length bytes)

-- a stimulus for a module: its bytes may not be there, be too many, or be refused
pub data StimulusComes (f : SvForm) (m : SvModule) (name : List ℕ) (shelf : Shelf) : Answer → Type 0 where
  no_stimulus : first_part shelf name ≡ None → StimulusComes f m name shelf (absent name)
  long_stimulus : (bytes : List ℕ) → first_part shelf name ≡ Some bytes → is_long bytes ≡ true
      → StimulusComes f m name shelf (refused (alone name bytes) (refusal_at FileTooLong (place_at 0)))
  wrong_stimulus : (bytes : List ℕ) (r : Refusal) → first_part shelf name ≡ Some bytes → is_long bytes ≡ false → steps_refusal f m bytes ≡ Some r
      → StimulusComes f m name shelf (refused (alone name bytes) r)
  runs : (bytes : List ℕ) → first_part shelf name ≡ Some bytes → is_long bytes ≡ false → steps_refusal f m bytes ≡ None
      → StimulusComes f m name shelf (writes (traces f m bytes))

-- An emitted text: its bytes may not be there, be too many, or be refused; its module has another name, which stands after the word `module` and a blank; or its
-- module meets the stimulus.
pub data TextComes (f : SvForm) (top name stimulus : List ℕ) (shelf : Shelf) : Answer → Type 0 where
  no_text : first_part shelf name ≡ None → TextComes f top name stimulus shelf (absent name)
  long_text : (bytes : List ℕ) → first_part shelf name ≡ Some bytes → is_long bytes ≡ true
      → TextComes f top name stimulus shelf (refused (alone name bytes) (refusal_at FileTooLong (place_at 0)))
  wrong_text : (bytes : List ℕ) (r : Refusal) → first_part shelf name ≡ Some bytes → is_long bytes ≡ false → RefusesText f bytes r
      → TextComes f top name stimulus shelf (refused (alone name bytes) r)
  misnamed : (bytes : List ℕ) (m : SvModule) → first_part shelf name ≡ Some bytes → is_long bytes ≡ false → ReadsAs f bytes m → m.name ≢ top
      → TextComes f top name stimulus shelf (refused (alone name bytes) (refusal_at SvName (place_at 7)))
  meets : (bytes : List ℕ) (m : SvModule) (x : Answer) → first_part shelf name ≡ Some bytes → is_long bytes ≡ false → ReadsAs f bytes m → m.name ≡ top
      → StimulusComes f m stimulus shelf x → TextComes f top name stimulus shelf x

-- ---- generated designs

abbrev pub generated_name : List ℕ
generated_name = codes "gen.cpp"

-- the one file of a generated design
abbrev pub generated_shelf : ℕ → Shelf
generated_shelf stages name = if bytes_eq name generated_name then Some (source_of stages) else None

abbrev pub generated_request : Request
generated_request = record { many = false; top = generated_top; roots = generated_name ∷ []; stimulus = None }

abbrev pub GeneratedComes : ℕ → (source : Bool) → Answer → Type 0
GeneratedComes stages true x = x ≡ writes (says (source_of stages))
GeneratedComes stages false x = SourceComes generated_request (generates stages) (generated_shelf stages) x

-- ---- all commands

abbrev pub ComesBy : Command → List (String Global) → Shelf → Answer → Type 0
ComesBy (command.Compile count f) words shelf x = SourceComes (request (has_clocks f) words count None) (compiles f) shelf x
ComesBy (command.Sim count stim way) words shelf x = SourceComes (request (simulates_clocks way) words count (Some (word_at words stim))) (simulates way) shelf x
ComesBy (command.Svsim stim f) words shelf x = TextComes f (word_at words 1) (word_at words 2) (word_at words stim) shelf x
ComesBy (command.List count) words shelf x = SourceComes (request false words count None) lists shelf x
ComesBy (command.Gen stages source) words shelf x = GeneratedComes stages source x

abbrev pub WordsCome : Option Command → List (String Global) → Shelf → Answer → Type 0
WordsCome None words shelf x = x ≡ bad
WordsCome (Some c) words shelf x = ComesBy c words shelf x

unfoldable pub CommandComes : Shelf → List (String Global) → Answer → Type 0
CommandComes shelf words x = WordsCome (command_by words) words shelf x
