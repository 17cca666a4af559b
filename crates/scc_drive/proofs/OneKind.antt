-- A command has one outcome.
use Rattle.std.proofs.Common.{◌≡◌, ℕ, Bool, true, false, List, String, Option, Some, None, Result, Ok, Err, ap, refl, sym, ◌∙◌, subst, inl, inr, nat_lt, length, true≢false}
use Rattle.std.specs.Prelude.{is_some}
use Rattle.std.specs.declared.alloc.Global.{Global}
use Rattle.scc_base.specs.Names.{fixed_names}
use Rattle.scc_base.specs.Outside.{Shelf}
use Rattle.scc_base.specs.declared.refusal.Refusal.{Refusal}
use Rattle.scc_base.specs.declared.refusal.Stop.TheVariants as stop
use Rattle.scc_svtree.specs.declared.module.SvModule.{SvModule}
use Rattle.scc_svread_grammar.specs.Grammar.{Reads}
use Rattle.scc_svread.specs.Read.{ReadAs, ReadBack, Answered}
use Rattle.scc_svrun_trace.specs.Ports.{in_ports}
use Rattle.scc_svread_written.specs.Written.{raw_of}
use Rattle.scc_drive.proofs.OneModule.{reads_module, one_module}
use Rattle.scc_thin.specs.declared.design.Design.{Design}
use Rattle.scc_thin.specs.Thin.{thin_of}
use Rattle.scc_tokens_directives.specs.declared.file.Source.{Source}
use Rattle.scc_tokens.specs.declared.joining.Joined.{Joined}
use Rattle.scc_tokens.specs.Files.{first_part}
use Rattle.scc_tokens.specs.Join.{join_of}
use Rattle.scc_tokens_directives.specs.Steps as join
use Rattle.scc_trace.specs.Stimulus.{stim_of}
use Rattle.scc_trace.specs.declared.stim.StimStep.{StimStep}
use Rattle.scc_drive_words.specs.declared.command.Command.{Command}
use Rattle.scc_drive_words.specs.declared.command.Command.TheVariants as command
use Rattle.scc_drive.specs.CommandOutcome.{CommandOutcome, WordsOutcome, CommandOutcomeBy, GeneratedOutcome, RootsOutcome, JoinedOutcome, reads, faulty, outcome_of_file, outcome_of_design, task_of, has_clocks, is_plain, TextOutcome, unread, misnamed, meets, TextOutcomeBy, LongTextOutcome, TextFileOutcome, outcome_on, outcome_of_stimulus, outcome_of_steps}
use Rattle.scc_drive.specs.Outcome.{Task, compiling, forming, listing, simulating, tracing, Outcome, bad, refusal, absent, compiles, runs, writes, generated, wider, kind_of, kind_of_task}
use Rattle.scc_drive_errors.specs.Spots.{spot_of}
use Rattle.scc_drive.specs.Laws.{AreAlike, AreOne, is_refusal}
use Rattle.scc_drive_spec.specs.Words.{command_by, are_words, word_at, roots_of}
use Rattle.scc_drive_spec.proofs.OneVerdict.{not_both, one_fault}
use Rattle.scc_drive.proofs.Derived.{FoundOutcome, by_joining}

-- ---- joined files

module _ (task : Task) (top : List ℕ) (names : List (List ℕ)) (sources : List Source) where
  joined_one : (j : Joined) (o o' : Outcome) → JoinedOutcome task top names sources j o → JoinedOutcome task top names sources j o' → o ≡ o'
  joined_one j _ _ (reads file f) (reads file' f') = refl
  joined_one j _ _ (reads file f) (faulty code place g) = absurd (not_both j file code place f g)
  joined_one j _ _ (faulty code place g) (reads file f) = absurd (not_both j file code place f g)
  joined_one j _ _ (faulty code place f) (faulty code' place' g) =
      let same = one_fault j code code' place place' f g in
      ap (λ c. refusal c (spot_of sources place)) same.0 ∙ ap (λ p. refusal code' (spot_of sources p)) same.1

  found_one : (r : Result Joined join.Stopped) (o o' : Outcome) → FoundOutcome task top names sources r o → FoundOutcome task top names sources r o' → o ≡ o'
  found_one (Ok j) o o' c c' = joined_one j o o' c c'
  found_one (Err (join.Refuses code place)) o o' c c' = c ∙ sym c'
  found_one (Err (join.Absent name)) o o' c c' = c ∙ sym c'

roots_one : (task : Task) (top : List ℕ) (roots : List (List ℕ)) (shelf : Shelf) (o o' : Outcome) → RootsOutcome task top roots shelf o → RootsOutcome task top roots shelf o' → o ≡ o'
roots_one task top roots shelf o o' c c' = let found = join_of (first_part shelf) fixed_names roots in
    found_one task top found.0 found.1 found.2 o o' (by_joining task top roots shelf o c) (by_joining task top roots shelf o' c')

-- ---- emitted texts

-- a text that is refused is that of no module
not_read : (bytes : List ℕ) (r : Refusal) (m : SvModule) → ReadBack false bytes (Err (stop.Refused r)) → ReadAs false bytes m → ⊥
not_read bytes r m back read =
    let d : Reads bytes (raw_of m) = subst (λ b. Reads b (raw_of m)) (sym read.text.text) (reads_module false m read.text.sound) in
    subst (λ at. Answered at bytes m (Err (stop.Refused r))) (read.within d) (back m read.text d)

module _ (top : List ℕ) (text : Source) (stim : List ℕ) (held : Option (List ℕ)) where
  text_one : (o o' : Outcome) → TextOutcome top text stim held o → TextOutcome top text stim held o' → AreAlike o o'
  text_one _ _ (unread r a b) (unread r' a' b') = inr (refl, refl)
  text_one _ _ (unread r a b) (misnamed m read other) = inr (refl, refl)
  text_one _ _ (unread r a b) (meets m read named) = absurd (not_read text.bytes r m b read)
  text_one _ _ (misnamed m read other) (unread r a b) = inr (refl, refl)
  text_one _ _ (misnamed m read other) (misnamed m' read' other') = inr (refl, refl)
  text_one _ _ (misnamed m read other) (meets m' read' named) = absurd (other (ap (λ (x : SvModule). x.name) (one_module false text.bytes m m' read.text read'.text) ∙ named))
  text_one _ _ (meets m read named) (unread r a b) = absurd (not_read text.bytes r m b read)
  text_one _ _ (meets m read named) (misnamed m' read' other) = absurd (other (ap (λ (x : SvModule). x.name) (one_module false text.bytes m' m read'.text read.text) ∙ named))
  text_one _ _ (meets m read named) (meets m' read' named') = inl (ap (λ (x : SvModule). outcome_on x stim held) (one_module false text.bytes m m' read.text read'.text))

  by_form : (plain : Bool) (o o' : Outcome) → TextOutcomeBy plain top text stim held o → TextOutcomeBy plain top text stim held o' → AreAlike o o'
  by_form true o o' c c' = text_one o o' c c'
  by_form false o o' c c' = inl (c ∙ sym c')

  by_length : (long plain : Bool) (o o' : Outcome) → LongTextOutcome long plain top text stim held o → LongTextOutcome long plain top text stim held o' → AreAlike o o'
  by_length true plain o o' c c' = inl (c ∙ sym c')
  by_length false plain o o' c c' = by_form plain o o' c c'

file_one : (plain : Bool) (top name stim : List ℕ) (text held : Option (List ℕ)) (o o' : Outcome) → TextFileOutcome plain top name stim text held o → TextFileOutcome plain top name stim text held o'
    → AreAlike o o'
file_one plain top name stim None held o o' c c' = inl (c ∙ sym c')
file_one plain top name stim (Some bytes) held o o' c c' = by_length top (record { name = name; bytes = bytes }) stim held (nat_lt 1048576 (length bytes)) plain o o' c c'

-- ---- commands

generated_one : (stages : ℕ) (source : Bool) (o o' : Outcome) → GeneratedOutcome stages source o → GeneratedOutcome stages source o' → o ≡ o'
generated_one stages true o o' c c' = c ∙ sym c'
generated_one stages false o o' c c' = c ∙ sym c'

module _ (words : List (String Global)) (shelf : Shelf) (o o' : Outcome) where
  command_one : (c : Command) → CommandOutcomeBy c words shelf o → CommandOutcomeBy c words shelf o' → AreOne (Some c) o o'
  command_one (command.Compile count f) p q = roots_one (task_of f) (word_at words 1) (roots_of words count) shelf o o' p q
  command_one (command.Sim count stim way) p q = roots_one (simulating (has_clocks way) (word_at words stim)) (word_at words 1) (roots_of words count) shelf o o' p q
  command_one (command.Svsim stim f) p q = file_one (is_plain f) (word_at words 1) (word_at words 2) (word_at words stim) (first_part shelf (word_at words 2)) (first_part shelf (word_at words stim)) o o' p q
  command_one (command.List count) p q = roots_one listing (word_at words 1) (roots_of words count) shelf o o' p q
  command_one (command.Gen stages source) p q = generated_one stages source o o' p q

  by_command : (c : Option Command) → WordsOutcome c words shelf o → WordsOutcome c words shelf o' → AreOne c o o'
  by_command None p q = p ∙ sym q
  by_command (Some c) p q = command_one c p q

pub one_outcome : (shelf : Shelf) (words : List (String Global)) (o o' : Outcome) → CommandOutcome shelf words o → CommandOutcome shelf words o' → AreOne (command_by words) o o'
unfolding CommandOutcome
one_outcome shelf words o o' c c' = by_command words shelf o o' (command_by words) c c'

-- and so its kind is
kind_refusal : (o : Outcome) → is_refusal o ≡ true → kind_of o ≡ record { is_bad = false; may_write = false; may_refuse = true; may_miss = false; asks = true }
kind_refusal bad e = absurd (true≢false (sym e))
kind_refusal (refusal code spot) e = refl
kind_refusal (absent name) e = absurd (true≢false (sym e))
kind_refusal (compiles design) e = absurd (true≢false (sym e))
kind_refusal (runs m stimulus) e = absurd (true≢false (sym e))
kind_refusal (writes t) e = absurd (true≢false (sym e))
kind_refusal generated e = absurd (true≢false (sym e))
kind_refusal (wider task sources) e = absurd (true≢false (sym e))

kind_alike : (o o' : Outcome) → AreAlike o o' → kind_of o ≡ kind_of o'
kind_alike o o' (inl e) = ap kind_of e
kind_alike o o' (inr e) = kind_refusal o e.0 ∙ sym (kind_refusal o' e.1)

kind_one : (c : Option Command) (o o' : Outcome) → AreOne c o o' → kind_of o ≡ kind_of o'
kind_one None o o' e = ap kind_of e
kind_one (Some (command.Compile count f)) o o' e = ap kind_of e
kind_one (Some (command.Sim count stim way)) o o' e = ap kind_of e
kind_one (Some (command.Svsim stim f)) o o' e = kind_alike o o' e
kind_one (Some (command.List count)) o o' e = ap kind_of e
kind_one (Some (command.Gen stages source)) o o' e = ap kind_of e

pub one_kind : (shelf : Shelf) (words : List (String Global)) (o o' : Outcome) → CommandOutcome shelf words o → CommandOutcome shelf words o' → kind_of o ≡ kind_of o'
one_kind shelf words o o' c c' = kind_one (command_by words) o o' (one_outcome shelf words o o' c c')

pub of_bad : (shelf : Shelf) (words : List (String Global)) → are_words words ≡ false → CommandOutcome shelf words bad
unfolding CommandOutcome are_words
of_bad shelf words e = go (command_by words) e
  where
    go : (c : Option Command) → is_some c ≡ false → WordsOutcome c words shelf bad
    go None e = refl
    go (Some c) e = absurd (let q : true ≡ false = e in cc)

-- ---- whether a command asks for files

asks_by : Command → Bool
asks_by (command.Compile count f) = true
asks_by (command.Sim count stim way) = true
asks_by (command.Svsim stim f) = true
asks_by (command.List count) = true
asks_by (command.Gen stages source) = false

task_asks : (task : Task) → (kind_of_task task).asks ≡ true
task_asks compiling = refl
task_asks (forming form) = refl
task_asks listing = refl
task_asks (simulating many stim) = refl
task_asks (tracing stim) = refl

design_asks : (sources : List Source) (d : Option Design) → (kind_of (outcome_of_design sources d)).asks ≡ true
design_asks sources None = refl
design_asks sources (Some d) = refl

module _ (top : List ℕ) (names : List (List ℕ)) (sources : List Source) where
  file_asks : (task : Task) (j : Joined) → (kind_of (outcome_of_file task top names sources j)).asks ≡ true
  file_asks compiling j = design_asks sources (thin_of names top j.tokens)
  file_asks (forming form) j = refl
  file_asks listing j = refl
  file_asks (simulating many stim) j = refl
  file_asks (tracing stim) j = refl

  joined_asks : (task : Task) (j : Joined) (o : Outcome) → JoinedOutcome task top names sources j o → (kind_of o).asks ≡ true
  joined_asks task j _ (reads file f) = file_asks task j
  joined_asks task j _ (faulty code place f) = refl

  found_asks : (task : Task) (r : Result Joined join.Stopped) (o : Outcome) → FoundOutcome task top names sources r o → (kind_of o).asks ≡ true
  found_asks task (Ok j) o c = joined_asks task j o c
  found_asks task (Err (join.Refuses code place)) o c = ap (λ x. (kind_of x).asks) c
  found_asks task (Err (join.Absent name)) o c = ap (λ x. (kind_of x).asks) c

roots_ask : (task : Task) (top : List ℕ) (roots : List (List ℕ)) (shelf : Shelf) (o : Outcome) → RootsOutcome task top roots shelf o → (kind_of o).asks ≡ true
roots_ask task top roots shelf o c = let found = join_of (first_part shelf) fixed_names roots in found_asks top found.0 found.1 task found.2 o (by_joining task top roots shelf o c)

steps_ask : (m : SvModule) (s : Source) (r : Result (List StimStep) Refusal) → (kind_of (outcome_of_steps m s r)).asks ≡ true
steps_ask m s (Ok steps) = refl
steps_ask m s (Err r) = refl

stimulus_asks : (m : SvModule) (s : Source) (long : Bool) → (kind_of (outcome_of_stimulus m s long)).asks ≡ true
stimulus_asks m s true = refl
stimulus_asks m s false = steps_ask m s (stim_of 0 (in_ports m) s.bytes)

on_asks : (m : SvModule) (stim : List ℕ) (held : Option (List ℕ)) → (kind_of (outcome_on m stim held)).asks ≡ true
on_asks m stim None = refl
on_asks m stim (Some bytes) = stimulus_asks m (record { name = stim; bytes = bytes }) (nat_lt 1048576 (length bytes))

text_asks : (top : List ℕ) (text : Source) (stim : List ℕ) (held : Option (List ℕ)) (o : Outcome) → TextOutcome top text stim held o → (kind_of o).asks ≡ true
text_asks top text stim held _ (unread r a b) = refl
text_asks top text stim held _ (misnamed m read other) = refl
text_asks top text stim held _ (meets m read named) = on_asks m stim held

form_asks : (plain : Bool) (top : List ℕ) (text : Source) (stim : List ℕ) (held : Option (List ℕ)) (o : Outcome) → TextOutcomeBy plain top text stim held o → (kind_of o).asks ≡ true
form_asks true top text stim held o c = text_asks top text stim held o c
form_asks false top text stim held o c = ap (λ x. (kind_of x).asks) c

long_asks : (long plain : Bool) (top : List ℕ) (text : Source) (stim : List ℕ) (held : Option (List ℕ)) (o : Outcome) → LongTextOutcome long plain top text stim held o → (kind_of o).asks ≡ true
long_asks true plain top text stim held o c = ap (λ x. (kind_of x).asks) c
long_asks false plain top text stim held o c = form_asks plain top text stim held o c

texts_ask : (plain : Bool) (top name stim : List ℕ) (text held : Option (List ℕ)) (o : Outcome) → TextFileOutcome plain top name stim text held o → (kind_of o).asks ≡ true
texts_ask plain top name stim None held o c = ap (λ x. (kind_of x).asks) c
texts_ask plain top name stim (Some bytes) held o c = long_asks (nat_lt 1048576 (length bytes)) plain top (record { name = name; bytes = bytes }) stim held o c

generated_asks : (stages : ℕ) (source : Bool) (o : Outcome) → GeneratedOutcome stages source o → (kind_of o).asks ≡ false
generated_asks stages true o c = ap (λ x. (kind_of x).asks) c
generated_asks stages false o c = ap (λ x. (kind_of x).asks) c

asks_as : (words : List (String Global)) (shelf : Shelf) (o : Outcome) (c : Command) → CommandOutcomeBy c words shelf o → (kind_of o).asks ≡ asks_by c
unfolding asks_by
asks_as words shelf o (command.Compile count f) p = roots_ask (task_of f) (word_at words 1) (roots_of words count) shelf o p
asks_as words shelf o (command.Sim count stim way) p = roots_ask (simulating (has_clocks way) (word_at words stim)) (word_at words 1) (roots_of words count) shelf o p
asks_as words shelf o (command.Svsim stim f) p = texts_ask (is_plain f) (word_at words 1) (word_at words 2) (word_at words stim) (first_part shelf (word_at words 2)) (first_part shelf (word_at words stim)) o p
asks_as words shelf o (command.List count) p = roots_ask listing (word_at words 1) (roots_of words count) shelf o p
asks_as words shelf o (command.Gen stages source) p = generated_asks stages source o p

-- whether it does is seen from its words
pub asks_alike : (shelf shelf' : Shelf) (words : List (String Global)) (o o' : Outcome) → CommandOutcome shelf words o → CommandOutcome shelf' words o' → (kind_of o).asks ≡ (kind_of o').asks
unfolding CommandOutcome
asks_alike shelf shelf' words o o' c c' = go (command_by words) c c'
  where
    go : (x : Option Command) → WordsOutcome x words shelf o → WordsOutcome x words shelf' o' → (kind_of o).asks ≡ (kind_of o').asks
    go None p q = ap (λ x. (kind_of x).asks) (p ∙ sym q)
    go (Some x) p q = asks_as words shelf o x p ∙ sym (asks_as words shelf' o' x q)
