-- The outcome of a command where the names of files hold this: of its words, of the files that it joins, of a text.
use Rattle.std.specs.Prelude.{◌≡◌, ◌≢◌, ℕ, Bool, true, false, List, [], ◌∷◌, length, nat_lt, Option, Some, None, Result, Ok, Err, String}
use Rattle.std.specs.declared.alloc.Global.{Global}
use Rattle.scc_base.specs.Names.{fixed_names}
use Rattle.scc_base.specs.Outside.{Shelf}
use Rattle.scc_base.specs.declared.code.Code.{Code}
use Rattle.scc_base.specs.declared.code.Code.TheVariants.{FileTooLong, SvName}
use Rattle.scc_base.specs.declared.refusal.Place.{Place}
use Rattle.scc_base.specs.declared.refusal.Refusal.{Refusal}
use Rattle.scc_base.specs.declared.refusal.Stop.TheVariants as stop
use Rattle.scc_svtree.specs.declared.module.SvModule.{SvModule}
use Rattle.scc_svread.specs.Read.{ReadAs, ReadBack, RefusedAs}
use Rattle.scc_svrun_trace.specs.Ports.{in_ports}
use Rattle.scc_tokens_directives.specs.declared.file.Source.{Source}
use Rattle.scc_tokens.specs.declared.joining.Joined.{Joined}
use Rattle.scc_tokens.specs.Files.{first_part}
use Rattle.scc_tokens_laws.specs.Joined.{JoinsTo}
use Rattle.scc_tokens_laws.specs.Faulted.{StopsAt}
use Rattle.scc_tokens_directives.specs.Steps as join
use Rattle.scc_tree.specs.declared.item.FileTree.{FileTree}
use Rattle.scc_grammar.specs.Claim.{IsReadFile, IsFault}
use Rattle.scc_thin.specs.declared.design.Design.{Design}
use Rattle.scc_thin.specs.Thin.{thin_of}
use Rattle.scc_trace.specs.Source.{source_of}
use Rattle.scc_trace.specs.Stimulus.{stim_of}
use Rattle.scc_trace.specs.declared.stim.StimStep.{StimStep}
use Rattle.scc_drive_words.specs.declared.command.Command.{Command}
use Rattle.scc_drive_words.specs.declared.command.Command.TheVariants as command
use Rattle.scc_drive_words.specs.declared.command.Form.{Form}
use Rattle.scc_drive_words.specs.declared.command.Form.TheVariants as form
use Rattle.scc_drive_words.specs.declared.command.SvForm.{SvForm}
use Rattle.scc_drive_words.specs.declared.command.SvForm.TheVariants as sv_form
use Rattle.scc_drive_words.specs.declared.command.SimWay.{SimWay}
use Rattle.scc_drive_words.specs.declared.command.SimWay.TheVariants as sim_way
use Rattle.scc_drive_forms.specs.declared.form.TextForm.{TextForm}
use Rattle.scc_drive_forms.specs.declared.form.TextForm.TheVariants as text_form
use Rattle.scc_drive.specs.Outcome.{Task, compiling, forming, listing, simulating, tracing, Outcome, bad, refusal, absent, compiles, runs, writes, generated, wider}
use Rattle.scc_drive_errors.specs.Spots.{spot_of, spot_in, first_spot}
use Rattle.scc_drive_spec.specs.Words.{command_by, word_at, roots_of}

-- a thin text, or a wider one
abbrev pub outcome_of_design : List Source → Option Design → Outcome
outcome_of_design sources None = wider compiling sources
outcome_of_design sources (Some d) = compiles d

-- the outcome of joined tokens that the grammar reads
abbrev pub outcome_of_file : Task → List ℕ → List (List ℕ) → List Source → Joined → Outcome
outcome_of_file compiling top names sources j = outcome_of_design sources (thin_of names top j.tokens)
outcome_of_file (forming form) top names sources j = wider (forming form) sources
outcome_of_file listing top names sources j = wider listing sources
outcome_of_file (simulating many stim) top names sources j = wider (simulating many stim) sources
outcome_of_file (tracing stim) top names sources j = wider (tracing stim) sources

-- a file of the grammar, and what it comes to; or the first fault
pub data JoinedOutcome (task : Task) (top : List ℕ) (names : List (List ℕ)) (sources : List Source) (j : Joined) : Outcome → Type 0 where
  reads : (file : FileTree) → IsReadFile j file → JoinedOutcome task top names sources j (outcome_of_file task top names sources j)
  faulty : (code : Code) (place : Place) → IsFault j code place → JoinedOutcome task top names sources j (refusal code (spot_of sources place))

-- The outcome of the files of these names, of each at most its first 1,048,577 bytes, by what the parts of the files do one after another: all are joined;
-- one is refused before any other; or a file isn't there.
pub data RootsOutcome (task : Task) (top : List ℕ) (roots : List (List ℕ)) (shelf : Shelf) : Outcome → Type 0 where
  joined : (names : List (List ℕ)) (sources : List Source) (j : Joined) (outcome : Outcome) → JoinsTo (first_part shelf) fixed_names roots names sources j
      → JoinedOutcome task top names sources j outcome → RootsOutcome task top roots shelf outcome
  refused : (names : List (List ℕ)) (sources : List Source) (code : Code) (place : Place) → StopsAt (first_part shelf) fixed_names roots names sources (join.Refuses code place)
      → RootsOutcome task top roots shelf (refusal code (spot_of sources place))
  missing : (names : List (List ℕ)) (sources : List Source) (name : List ℕ) → StopsAt (first_part shelf) fixed_names roots names sources (join.Absent name)
      → RootsOutcome task top roots shelf (absent name)

-- the outcome of the steps of a stimulus
abbrev pub outcome_of_steps : SvModule → Source → Result (List StimStep) Refusal → Outcome
outcome_of_steps m s (Err r) = refusal r.code (spot_in (Some s) r.place.at)
outcome_of_steps m s (Ok steps) = runs m s.bytes

abbrev pub outcome_of_stimulus : SvModule → Source → Bool → Outcome
outcome_of_stimulus m s true = refusal FileTooLong (first_spot s.name)
outcome_of_stimulus m s false = outcome_of_steps m s (stim_of 0 (in_ports m) s.bytes)

-- the outcome of a stimulus: its bytes may not be there, and may be too many
abbrev pub outcome_on : SvModule → List ℕ → Option (List ℕ) → Outcome
outcome_on m name None = absent name
outcome_on m name (Some bytes) = outcome_of_stimulus m (record { name = name; bytes = bytes }) (nat_lt 1048576 (length bytes))

-- The outcome of an emitted text: it is refused; its module has another name, which stands behind the word `module` and a blank; or its module meets the stimulus.
pub data TextOutcome (top : List ℕ) (text : Source) (stim : List ℕ) (held : Option (List ℕ)) : Outcome → Type 0 where
  unread : (r : Refusal) → RefusedAs false text.bytes (stop.Refused r) → ReadBack false text.bytes (Err (stop.Refused r))
      → TextOutcome top text stim held (refusal r.code (spot_in (Some text) r.place.at))
  misnamed : (m : SvModule) → ReadAs false text.bytes m → m.name ≢ top → TextOutcome top text stim held (refusal SvName (spot_in (Some text) 7))
  meets : (m : SvModule) → ReadAs false text.bytes m → m.name ≡ top → TextOutcome top text stim held (outcome_on m stim held)

-- whether an emitted text has one module and one clock
abbrev pub is_plain : SvForm → Bool
is_plain sv_form.Whole = true
is_plain sv_form.Hier = false
is_plain sv_form.Clocks = false

-- by the form of what is read
abbrev pub TextOutcomeBy : Bool → List ℕ → Source → List ℕ → Option (List ℕ) → Outcome → Type 0
TextOutcomeBy true top text stim held outcome = TextOutcome top text stim held outcome
TextOutcomeBy false top text stim held outcome = outcome ≡ wider (tracing stim) (text ∷ [])

abbrev pub LongTextOutcome : Bool → Bool → List ℕ → Source → List ℕ → Option (List ℕ) → Outcome → Type 0
LongTextOutcome true plain top text stim held outcome = outcome ≡ refusal FileTooLong (first_spot text.name)
LongTextOutcome false plain top text stim held outcome = TextOutcomeBy plain top text stim held outcome

-- the outcome of the file of an emitted text
abbrev pub TextFileOutcome : Bool → List ℕ → (name stim : List ℕ) → (text stimulus : Option (List ℕ)) → Outcome → Type 0
TextFileOutcome plain top name stim None held outcome = outcome ≡ absent name
TextFileOutcome plain top name stim (Some bytes) held outcome =
    LongTextOutcome (nat_lt 1048576 (length bytes)) plain top (record { name = name; bytes = bytes }) stim held outcome

abbrev pub TextsOutcome : Bool → List ℕ → (name stim : List ℕ) → Shelf → Outcome → Type 0
TextsOutcome plain top name stim shelf outcome = TextFileOutcome plain top name stim (first_part shelf name) (first_part shelf stim) outcome

-- the form of the text that `compile` writes, where it isn't that of one module
abbrev pub form_of : Form → Option TextForm
form_of form.Whole = None
form_of form.Hier = Some text_form.Hier
form_of form.Clocks = Some text_form.Clocks
form_of form.Memory = Some text_form.Memory

abbrev pub task_if : Option TextForm → Task
task_if None = compiling
task_if (Some f) = forming f

abbrev pub task_of : Form → Task
task_of f = task_if (form_of f)

-- the way of a simulation with several clocks
abbrev pub has_clocks : SimWay → Bool
has_clocks sim_way.Whole = false
has_clocks (sim_way.Order n) = false
has_clocks sim_way.Migrate = false
has_clocks sim_way.Clocks = true

abbrev pub GeneratedOutcome : ℕ → Bool → Outcome → Type 0
GeneratedOutcome stages true outcome = outcome ≡ writes (source_of stages)
GeneratedOutcome stages false outcome = outcome ≡ generated

abbrev pub CommandOutcomeBy : Command → List (String Global) → Shelf → Outcome → Type 0
CommandOutcomeBy (command.Compile count f) words shelf outcome = RootsOutcome (task_of f) (word_at words 1) (roots_of words count) shelf outcome
CommandOutcomeBy (command.Sim count stim way) words shelf outcome = RootsOutcome (simulating (has_clocks way) (word_at words stim)) (word_at words 1) (roots_of words count) shelf outcome
CommandOutcomeBy (command.Svsim stim f) words shelf outcome = TextsOutcome (is_plain f) (word_at words 1) (word_at words 2) (word_at words stim) shelf outcome
CommandOutcomeBy (command.List count) words shelf outcome = RootsOutcome listing (word_at words 1) (roots_of words count) shelf outcome
CommandOutcomeBy (command.Gen stages source) words shelf outcome = GeneratedOutcome stages source outcome

abbrev pub WordsOutcome : Option Command → List (String Global) → Shelf → Outcome → Type 0
WordsOutcome None words shelf outcome = outcome ≡ bad
WordsOutcome (Some c) words shelf outcome = CommandOutcomeBy c words shelf outcome

-- The outcome of a command where the names of files hold this: the words are looked at first. For `compile`, `list` and `sim` files are joined, and the grammar
-- reads the joined tokens. For `svsim` a text is read, and then a stimulus.
unfoldable pub CommandOutcome : Shelf → List (String Global) → Outcome → Type 0
CommandOutcome shelf words outcome = WordsOutcome (command_by words) words shelf outcome
