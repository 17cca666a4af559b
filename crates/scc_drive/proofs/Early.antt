-- What a command comes to where no stage after the grammar decides it, said in both ways.
use Rattle.std.proofs.Common.{◌≡◌, ◌≢◌, ℕ, Bool, true, false, List, [], ◌∷◌, String, Option, Some, None, Result, Ok, Err, refl, ap, sym, subst, ◌∙◌}
use Rattle.std.specs.Prelude.{take, slice_get}
use Rattle.std.specs.declared.alloc.Global.{Global}
use Rattle.scc_base.specs.Names.{fixed_names}
use Rattle.scc_base.specs.Outside.{Shelf}
use Rattle.scc_base.specs.declared.code.Code.{Code}
use Rattle.scc_base.specs.declared.code.Code.TheVariants.{FileTooLong, SvName}
use Rattle.scc_base.specs.declared.refusal.Place.{Place}
use Rattle.scc_base.specs.declared.refusal.Refusal.{Refusal}
use Rattle.scc_base.specs.declared.refusal.Stop.TheVariants as stop
use Rattle.scc_tokens_directives.specs.declared.file.Source.{Source}
use Rattle.scc_tokens_directives.specs.Steps as join
use Rattle.scc_tokens.specs.declared.joining.Joined.{Joined}
use Rattle.scc_tokens.specs.Files.{first_part}
use Rattle.scc_tokens_laws.specs.Joined.{JoinsTo}
use Rattle.scc_core_spec.specs.First.{refused as refusal_at}
use Rattle.scc_svtree.specs.declared.module.SvModule.{SvModule}
use Rattle.scc_svread.specs.Read.{ReadAs, ReadBack, RefusedAs}
use Rattle.scc_svrun_trace.specs.Ports.{in_ports}
use Rattle.scc_trace.specs.Source.{source_of}
use Rattle.scc_trace.specs.Stimulus.{stim_of}
use Rattle.scc_trace.specs.declared.stim.StimStep.{StimStep}
use Rattle.scc_drive_words.specs.declared.command.Command.{Command}
use Rattle.scc_drive_words.specs.declared.command.Command.TheVariants as command
use Rattle.scc_drive_words.specs.declared.command.SvForm.{SvForm}
use Rattle.scc_drive_words.specs.declared.command.SvForm.TheVariants as sv_form
use Rattle.scc_drive_errors.specs.declared.spots.Spot.{Spot}
use Rattle.scc_drive_errors.specs.Spots.{spot_of, spot_in, first_spot, moved}
use Rattle.scc_drive_spec.specs.Words.{command_by, word_at, roots_of}
use Rattle.scc_drive_spec.specs.Comes.{Request, Accepted, Verdict, Refuses, Absent, Accepts, Comes, in_joining, in_the_grammar, in_a_stage, without_stimulus, in_the_stimulus, accepted, on_a_stimulus, IsReadAs, error_of}
use Rattle.scc_drive_spec.specs.Output.{Output, compiles as gives, simulates, lists, traces, generates, says}
use Rattle.scc_drive_spec.specs.Answer.{Answer, CommandComes, WordsCome, ComesBy, SourceComes, TextComes, no_text, long_text, wrong_text, misnamed as other_name, meets as meets_stimulus, StimulusComes, no_stimulus, long_stimulus, wrong_stimulus, runs as runs_on, request, alone, place_at, is_long, has_clocks, simulates_clocks, answer_of}
use Rattle.scc_drive_spec.specs.Answer as new
use Rattle.scc_drive.specs.Early.{IsNoTree, IsDecidedEarly, AreEarly, IsEarlyBy}
use Rattle.scc_drive.specs.CommandOutcome.{CommandOutcome, WordsOutcome, CommandOutcomeBy, RootsOutcome, joined, refused, missing, JoinedOutcome, reads, faulty, TextOutcome, unread, misnamed, meets, TextOutcomeBy, LongTextOutcome, TextFileOutcome, TextsOutcome, outcome_on, outcome_of_stimulus, outcome_of_steps, is_plain, task_of, GeneratedOutcome}
use Rattle.scc_drive.specs.CommandOutcome as old
use Rattle.scc_drive.specs.Outcome.{Task, listing, simulating, Outcome, bad, refusal, absent, compiles, runs, writes, generated, wider}
use Rattle.scc_drive.proofs.OneFile.{IsIn, text_refusal, stimulus_refusal}

-- the same outcome, said in both ways
abbrev pub Fits : Outcome → Answer → Type 0
Fits bad x = x ≡ new.bad
Fits (refusal code spot) x = (sources : List Source) × (r : Refusal) × (x ≡ new.refused sources r) × (r.code ≡ code) × (spot_of sources r.place ≡ spot) × (r.other ≡ None)
Fits (absent name) x = x ≡ new.absent name
Fits (compiles design) x = ⊥
Fits (runs m stimulus) x = x ≡ new.writes (traces sv_form.Whole m stimulus)
Fits (writes t) x = x ≡ new.writes (says t)
Fits generated x = ⊥
Fits (wider task sources) x = ⊥

abbrev pub Answered : (Answer → Type 0) → Outcome → Type 0
Answered C o = (x : Answer) × C x × Fits o x

abbrev pub Founded : (Outcome → Type 0) → Answer → Type 0
Founded C x = (o : Outcome) × C o × Fits o x

fits_same : (o o' : Outcome) (x : Answer) → o ≡ o' → Fits o' x → Fits o x
fits_same o o' x e f = subst (λ o. Fits o x) (sym e) f

-- ---- source files

module _ (q : Request) (give : Accepted → Output) (task : Task) (top : List ℕ) (shelf : Shelf) (none : IsNoTree q.roots shelf) where
  joined_new : (names : List (List ℕ)) (sources : List Source) (j : Joined) (o : Outcome) → JoinsTo (first_part shelf) fixed_names q.roots names sources j → JoinedOutcome task top names sources j o → Answered (SourceComes q give shelf) o
  joined_new names sources j _ d (reads file f) = absurd (none names sources file (record { joined = j; joins = d; reads = f }))
  joined_new names sources j _ d (faulty code place f) = (
    new.refused sources (refusal_at code place),
    (Refuses sources (refusal_at code place), in_the_grammar names sources j code place d f, refl),
    (sources, refusal_at code place, refl, refl, refl, refl),
  )

  pub roots_new : (o : Outcome) → RootsOutcome task top q.roots shelf o → Answered (SourceComes q give shelf) o
  roots_new o (joined names sources j _ d c) = joined_new names sources j o d c
  roots_new _ (refused names sources code place s) = (
    new.refused sources (refusal_at code place),
    (Refuses sources (refusal_at code place), in_joining names sources (join.Refuses code place) s, refl),
    (sources, refusal_at code place, refl, refl, refl, refl),
  )
  roots_new _ (missing names sources name s) = (new.absent name, (Absent name, in_joining names sources (join.Absent name) s, refl), refl)

  comes_old : (v : Verdict) → Comes q shelf v → Founded (RootsOutcome task top q.roots shelf) (answer_of give v)
  comes_old _ (in_joining names sources (join.Refuses code place) s) =
      (refusal code (spot_of sources place), refused names sources code place s, (sources, refusal_at code place, refl, refl, refl, refl))
  comes_old _ (in_joining names sources (join.Absent name) s) = (absent name, missing names sources name s, refl)
  comes_old _ (in_the_grammar names sources j code place d f) =
      (refusal code (spot_of sources place), joined names sources j _ d (faulty code place f), (sources, refusal_at code place, refl, refl, refl, refl))
  comes_old _ (in_a_stage names sources tree r read e) = absurd (none names sources tree read)
  comes_old _ (without_stimulus names sources tree c name read e s h) = absurd (none names sources tree read)
  comes_old _ (in_the_stimulus names sources tree c name bytes r read e s h k) = absurd (none names sources tree read)
  comes_old _ (accepted names sources tree c read e s) = absurd (none names sources tree read)
  comes_old _ (on_a_stimulus names sources tree c name bytes read e s h k) = absurd (none names sources tree read)

  pub roots_old : (x : Answer) → SourceComes q give shelf x → Founded (RootsOutcome task top q.roots shelf) x
  roots_old x (v, c, e) = let found = comes_old v c in (found.0, found.1, subst (Fits found.0) (sym e) found.2)

-- ---- emitted texts

no_bytes : (bytes : List ℕ) → take 0 bytes ≡ []
no_bytes [] = refl
no_bytes (b ∷ bs) = refl

first_is : (name bytes : List ℕ) → spot_of (alone name bytes) (place_at 0) ≡ first_spot name
unfolding moved
first_is name bytes = ap (λ (b : List ℕ). record { file = name; line = (moved 1 1 b).0; column = (moved 1 1 b).1 }) (no_bytes bytes)

-- a refusal of a file that is alone stands at its place
spot_is : (name bytes : List ℕ) (r : Refusal) → r.place.file ≡ 0 → spot_of (alone name bytes) r.place ≡ spot_in (Some (record { name = name; bytes = bytes })) r.place.at
spot_is name bytes r e = ap (λ n. spot_in (slice_get (alone name bytes) n) r.place.at) e

module _ (name bytes : List ℕ) where
  fits_long : Fits (refusal FileTooLong (first_spot name)) (new.refused (alone name bytes) (refusal_at FileTooLong (place_at 0)))
  fits_long = (alone name bytes, refusal_at FileTooLong (place_at 0), refl, refl, first_is name bytes, refl)

  fits_in : (r : Refusal) → IsIn 0 r → Fits (refusal r.code (spot_in (Some (record { name = name; bytes = bytes })) r.place.at)) (new.refused (alone name bytes) r)
  fits_in r h = (alone name bytes, r, refl, refl, spot_is name bytes r h.0, h.1)

module _ (m : SvModule) (name : List ℕ) (shelf : Shelf) where
  module _ (bytes : List ℕ) (e : first_part shelf name ≡ Some bytes) where
    steps_new : is_long bytes ≡ false → (s : Result (List StimStep) Refusal) → stim_of 0 (in_ports m) bytes ≡ s
        → Answered (StimulusComes sv_form.Whole m name shelf) (outcome_of_steps m (record { name = name; bytes = bytes }) s)
    steps_new short (Err r) k = (new.refused (alone name bytes) r, wrong_stimulus bytes r e short (ap error_of k), fits_in name bytes r (stimulus_refusal 0 (in_ports m) bytes r k))
    steps_new short (Ok steps) k = (new.writes (traces sv_form.Whole m bytes), runs_on bytes e short (ap error_of k), refl)

    long_new : (b : Bool) → is_long bytes ≡ b → Answered (StimulusComes sv_form.Whole m name shelf) (outcome_of_stimulus m (record { name = name; bytes = bytes }) b)
    long_new true l = (new.refused (alone name bytes) (refusal_at FileTooLong (place_at 0)), long_stimulus bytes e l, fits_long name bytes)
    long_new false l = steps_new l (stim_of 0 (in_ports m) bytes) refl

    steps_old : (r : Refusal) → (s : Result (List StimStep) Refusal) → stim_of 0 (in_ports m) bytes ≡ s → error_of s ≡ Some r
        → Fits (outcome_of_steps m (record { name = name; bytes = bytes }) s) (new.refused (alone name bytes) r)
    steps_old r (Ok steps) k h = absurd (none_not_some r h)
      where
        none_not_some : (r : Refusal) → ◌≡◌ {A = Option Refusal} None (Some r) → ⊥
        none_not_some r e = cc
    steps_old r (Err r') k h = subst (λ x. Fits (refusal r'.code (spot_in (Some (record { name = name; bytes = bytes })) r'.place.at)) (new.refused (alone name bytes) x)) (same_some r' r h)
        (fits_in name bytes r' (stimulus_refusal 0 (in_ports m) bytes r' k))
      where
        same_some : (a b : Refusal) → Some a ≡ Some b → a ≡ b
        same_some a b e = cc

    steps_run : (s : Result (List StimStep) Refusal) → error_of s ≡ None → Fits (outcome_of_steps m (record { name = name; bytes = bytes }) s) (new.writes (traces sv_form.Whole m bytes))
    steps_run (Ok steps) h = refl
    steps_run (Err r) h = absurd (some_not_none r h)
      where
        some_not_none : (r : Refusal) → ◌≡◌ {A = Option Refusal} (Some r) None → ⊥
        some_not_none r e = cc

  pub on_new : (h : Option (List ℕ)) → first_part shelf name ≡ h → Answered (StimulusComes sv_form.Whole m name shelf) (outcome_on m name h)
  on_new None e = (new.absent name, no_stimulus e, refl)
  on_new (Some bytes) e = long_new bytes e (is_long bytes) refl

  -- what a stimulus that is held comes to, by its bytes
  on_bytes : (bytes : List ℕ) (b : Bool) (x : Answer) → first_part shelf name ≡ Some bytes → is_long bytes ≡ b
      → Fits (outcome_of_stimulus m (record { name = name; bytes = bytes }) b) x → Fits (outcome_on m name (first_part shelf name)) x
  on_bytes bytes b x e l f =
      subst (λ h. Fits (outcome_on m name h) x) (sym e) (subst (λ b. Fits (outcome_of_stimulus m (record { name = name; bytes = bytes }) b) x) (sym l) f)

  pub on_old : (x : Answer) → StimulusComes sv_form.Whole m name shelf x → Fits (outcome_on m name (first_part shelf name)) x
  on_old _ (no_stimulus e) = subst (λ h. Fits (outcome_on m name h) (new.absent name)) (sym e) refl
  on_old x (long_stimulus bytes e l) = on_bytes bytes true x e l (fits_long name bytes)
  on_old x (wrong_stimulus bytes r e l k) = on_bytes bytes false x e l (steps_old bytes e r (stim_of 0 (in_ports m) bytes) refl k)
  on_old x (runs_on bytes e l k) = on_bytes bytes false x e l (steps_run bytes e (stim_of 0 (in_ports m) bytes) k)

module _ (top name stim : List ℕ) (shelf : Shelf) where
  text_new : (bytes : List ℕ) (o : Outcome) → first_part shelf name ≡ Some bytes → is_long bytes ≡ false → TextOutcome top (record { name = name; bytes = bytes }) stim (first_part shelf stim) o
      → Answered (TextComes sv_form.Whole top name stim shelf) o
  text_new bytes _ e short (unread r a b) = (new.refused (alone name bytes) r, wrong_text bytes r e short (a, b), fits_in name bytes r (text_refusal false bytes r a))
  text_new bytes _ e short (misnamed m read other) =
      (new.refused (alone name bytes) (refusal_at SvName (place_at 7)), other_name bytes m e short read other, (alone name bytes, refusal_at SvName (place_at 7), refl, refl, refl, refl))
  text_new bytes _ e short (meets m read named) =
      let on = on_new m stim shelf (first_part shelf stim) refl in (on.0, meets_stimulus bytes m on.0 e short read named on.1, on.2)

  long_text_new : (bytes : List ℕ) (o : Outcome) (b : Bool) → first_part shelf name ≡ Some bytes → is_long bytes ≡ b
      → LongTextOutcome b true top (record { name = name; bytes = bytes }) stim (first_part shelf stim) o → Answered (TextComes sv_form.Whole top name stim shelf) o
  long_text_new bytes o true e l c =
      (new.refused (alone name bytes) (refusal_at FileTooLong (place_at 0)), long_text bytes e l, fits_same o (refusal FileTooLong (first_spot name)) _ c (fits_long name bytes))
  long_text_new bytes o false e l c = text_new bytes o e l c

  pub file_new : (o : Outcome) (t : Option (List ℕ)) → first_part shelf name ≡ t → TextFileOutcome true top name stim t (first_part shelf stim) o
      → Answered (TextComes sv_form.Whole top name stim shelf) o
  file_new o None e c = (new.absent name, no_text e, fits_same o (absent name) _ c refl)
  file_new o (Some bytes) e c = long_text_new bytes o (is_long bytes) e refl c

  -- the outcome of a text that is held, by its bytes
  of_bytes : (bytes : List ℕ) (b : Bool) (o : Outcome) → first_part shelf name ≡ Some bytes → is_long bytes ≡ b
      → LongTextOutcome b true top (record { name = name; bytes = bytes }) stim (first_part shelf stim) o → TextsOutcome true top name stim shelf o
  of_bytes bytes b o e l c =
      subst (λ t. TextFileOutcome true top name stim t (first_part shelf stim) o) (sym e)
      (subst (λ b. LongTextOutcome b true top (record { name = name; bytes = bytes }) stim (first_part shelf stim) o) (sym l) c)

  pub file_old : (x : Answer) → TextComes sv_form.Whole top name stim shelf x → Founded (TextsOutcome true top name stim shelf) x
  file_old _ (no_text e) = (absent name, subst (λ t. TextFileOutcome true top name stim t (first_part shelf stim) (absent name)) (sym e) refl, refl)
  file_old _ (long_text bytes e l) = (refusal FileTooLong (first_spot name), of_bytes bytes true _ e l refl, fits_long name bytes)
  file_old _ (wrong_text bytes r e l p) = (_, of_bytes bytes false _ e l (unread r p.0 p.1), fits_in name bytes r (text_refusal false bytes r p.0))
  file_old _ (other_name bytes m e l read other) =
      (_, of_bytes bytes false _ e l (misnamed m read other), (alone name bytes, refusal_at SvName (place_at 7), refl, refl, refl, refl))
  file_old _ (meets_stimulus bytes m x e l read named s) = (_, of_bytes bytes false _ e l (meets m read named), on_old m stim shelf x s)

-- ---- commands

module _ (words : List (String Global)) (shelf : Shelf) where
  svsim_new : (stim : ℕ) (f : SvForm) → is_plain f ≡ true → (o : Outcome) → CommandOutcomeBy (command.Svsim stim f) words shelf o → Answered (ComesBy (command.Svsim stim f) words shelf) o
  svsim_new stim sv_form.Whole e o c = file_new (word_at words 1) (word_at words 2) (word_at words stim) shelf o (first_part shelf (word_at words 2)) refl c
  svsim_new stim sv_form.Hier e o c = absurd (let q : false ≡ true = e in cc)
  svsim_new stim sv_form.Clocks e o c = absurd (let q : false ≡ true = e in cc)

  svsim_old : (stim : ℕ) (f : SvForm) → is_plain f ≡ true → (x : Answer) → ComesBy (command.Svsim stim f) words shelf x → Founded (CommandOutcomeBy (command.Svsim stim f) words shelf) x
  svsim_old stim sv_form.Whole e x c = file_old (word_at words 1) (word_at words 2) (word_at words stim) shelf x c
  svsim_old stim sv_form.Hier e x c = absurd (let q : false ≡ true = e in cc)
  svsim_old stim sv_form.Clocks e x c = absurd (let q : false ≡ true = e in cc)

  generated_new : (stages : ℕ) (source : Bool) → source ≡ true → (o : Outcome) → GeneratedOutcome stages source o → Answered (new.GeneratedComes stages source) o
  generated_new stages true e o c = (new.writes (says (source_of stages)), refl, fits_same o (writes (source_of stages)) _ c refl)
  generated_new stages false e o c = absurd (let q : false ≡ true = e in cc)

  generated_old : (stages : ℕ) (source : Bool) → source ≡ true → (x : Answer) → new.GeneratedComes stages source x → Founded (GeneratedOutcome stages source) x
  generated_old stages true e x c = (writes (source_of stages), refl, c)
  generated_old stages false e x c = absurd (let q : false ≡ true = e in cc)

  by_command_new : (c : Option Command) → AreEarly c words shelf → (o : Outcome) → WordsOutcome c words shelf o → Answered (WordsCome c words shelf) o
  by_command_new None early o e = (new.bad, refl, fits_same o bad new.bad e refl)
  by_command_new (Some (command.Compile count f)) early o c = roots_new (request (has_clocks f) words count None) (gives f) (task_of f) (word_at words 1) shelf early o c
  by_command_new (Some (command.Sim count stim way)) early o c =
      roots_new (request (simulates_clocks way) words count (Some (word_at words stim))) (simulates way) (simulating (old.has_clocks way) (word_at words stim)) (word_at words 1) shelf early o c
  by_command_new (Some (command.Svsim stim f)) early o c = svsim_new stim f early o c
  by_command_new (Some (command.List count)) early o c = roots_new (request false words count None) lists listing (word_at words 1) shelf early o c
  by_command_new (Some (command.Gen stages source)) early o c = generated_new stages source early o c

  by_command_old : (c : Option Command) → AreEarly c words shelf → (x : Answer) → WordsCome c words shelf x → Founded (WordsOutcome c words shelf) x
  by_command_old None early x e = (bad, refl, e)
  by_command_old (Some (command.Compile count f)) early x c = roots_old (request (has_clocks f) words count None) (gives f) (task_of f) (word_at words 1) shelf early x c
  by_command_old (Some (command.Sim count stim way)) early x c =
      roots_old (request (simulates_clocks way) words count (Some (word_at words stim))) (simulates way) (simulating (old.has_clocks way) (word_at words stim)) (word_at words 1) shelf early x c
  by_command_old (Some (command.Svsim stim f)) early x c = svsim_old stim f early x c
  by_command_old (Some (command.List count)) early x c = roots_old (request false words count None) lists listing (word_at words 1) shelf early x c
  by_command_old (Some (command.Gen stages source)) early x c = generated_old stages source early x c

pub outcome_new : (shelf : Shelf) (words : List (String Global)) → IsDecidedEarly shelf words → (o : Outcome) → CommandOutcome shelf words o → Answered (CommandComes shelf words) o
unfolding IsDecidedEarly CommandOutcome CommandComes
outcome_new shelf words early o c = by_command_new words shelf (command_by words) early o c

pub outcome_old : (shelf : Shelf) (words : List (String Global)) → IsDecidedEarly shelf words → (x : Answer) → CommandComes shelf words x → Founded (CommandOutcome shelf words) x
unfolding IsDecidedEarly CommandOutcome CommandComes
outcome_old shelf words early x c = by_command_old words shelf (command_by words) early x c
