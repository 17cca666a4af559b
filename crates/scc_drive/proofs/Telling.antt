-- How the program ends.
use Rattle.std.proofs.Common.{◌≡◌, ◌≢◌, ◌⊎◌, inl, inr, ℕ, true, false, List, String, Option, Some, None, Result, Ok, Err, sym, subst, ap, refl, ◌∙◌}
use Rattle.std.specs.declared.alloc.Global.{Global}
use Rattle.std.specs.Io.KnownBytes.{Appends}
use Rattle.scc_base.specs.Outside.{AppendsPart, Shelf, Rose}
use Rattle.scc_base.specs.declared.code.Code.{Code}
use Rattle.scc_tokens_directives.specs.declared.file.Source.{Source}
use Rattle.scc_drive_errors.specs.declared.spots.Spot.{Spot}
use Rattle.scc_drive_errors.specs.declared.stopped.Stopped.{Stopped}
use Rattle.scc_drive_errors.specs.declared.stopped.Stopped.TheVariants.{BadWords, Refused, Missing, Failed, NoMemory}
use Rattle.scc_drive.specs.Answer.{Answers, AnswersBy, ComesFor, Tells, IsDone, IsRefused, IsMissing, HasFailed, IsCutShort, Ends, stopped_text}
use Rattle.scc_drive.specs.CommandOutcome.{CommandOutcome, JoinedOutcome, WordsOutcome, joined, outcome_of_design, reads}
use Rattle.scc_drive.specs.Outcome.{Outcome, bad, refusal, absent, compiles, runs, writes, generated, wider, Task, compiling, forming, listing, simulating, tracing, Kind, kind_of, EndsAs, WritesBy, RefusesBy, MissesBy}
use Rattle.scc_drive.specs.Said.{Said, SaysFaults, SaysPart}
use Rattle.scc_drive_spec.specs.Words.{are_words, command_by, word_at}
use Rattle.scc_thin.specs.declared.design.Design.{Design}
use Rattle.scc_drive_words.specs.declared.command.Command.{Command}
use Rattle.scc_drive_words.specs.declared.command.Command.TheVariants as command
use Rattle.scc_drive.specs.Laws.{AreOne}
use Rattle.scc_drive.specs.MainTheorem.{IsDesign, IsRead, MainTheorem}
use Rattle.scc_tree.specs.declared.item.FileTree.{FileTree}
use Rattle.scc_drive.proofs.OneKind.{of_bad, one_kind, one_outcome, asks_alike}

-- a status that is not 4 or 5 is the one whose text was said
pub said_at : (status n : ℕ) (text : List ℕ) (old new : Option (List ℕ)) (f f' result : ℕ) → Said status text old new f f' result → result ≡ n → n ≢ 4 → n ≢ 5
    → (status ≡ n) × Appends old new text
said_at status n text old new f f' result (inl p) e not4 not5 = (sym p.0 ∙ e, p.1)
said_at status n text old new f f' result (inr (inl p)) e not4 not5 = absurd (not4 (sym e ∙ p))
said_at status n text old new f f' result (inr (inr p)) e not4 not5 = absurd (not5 (sym e ∙ p.0))

-- ---- how an outcome lets a command end

writes_of_task : (task : Task) (top : List ℕ) (sources : List Source) (text : List ℕ) → WritesBy top (wider task sources) text → (kind_of (wider task sources)).may_write ≡ true
writes_of_task compiling top sources text w = refl
writes_of_task (forming form) top sources text w = refl
writes_of_task listing top sources text w = refl
writes_of_task (simulating many stim) top sources text w = refl
writes_of_task (tracing stim) top sources text w = refl

may_write : (top : List ℕ) (o : Outcome) (text : List ℕ) → WritesBy top o text → (kind_of o).may_write ≡ true
may_write top bad text w = absurd w
may_write top (refusal code spot) text w = absurd w
may_write top (absent name) text w = absurd w
may_write top (compiles design) text w = refl
may_write top (runs m stimulus) text w = refl
may_write top (writes t) text w = refl
may_write top generated text w = refl
may_write top (wider task sources) text w = writes_of_task task top sources text w

refuses_of_task : (task : Task) (sources : List Source) (code : Code) (spot : Spot) (other : Option Spot) → RefusesBy (wider task sources) code spot other → (kind_of (wider task sources)).may_refuse ≡ true
refuses_of_task compiling sources code spot other r = refl
refuses_of_task (forming form) sources code spot other r = refl
refuses_of_task listing sources code spot other r = refl
refuses_of_task (simulating many stim) sources code spot other r = refl
refuses_of_task (tracing stim) sources code spot other r = refl

may_refuse : (o : Outcome) (code : Code) (spot : Spot) (other : Option Spot) → RefusesBy o code spot other → (kind_of o).may_refuse ≡ true
may_refuse bad code spot other r = absurd r
may_refuse (refusal c s) code spot other r = refl
may_refuse (absent name) code spot other r = absurd r
may_refuse (compiles design) code spot other r = absurd r
may_refuse (runs m stimulus) code spot other r = absurd r
may_refuse (writes t) code spot other r = absurd r
may_refuse generated code spot other r = absurd r
may_refuse (wider task sources) code spot other r = refuses_of_task task sources code spot other r

misses_of_task : (task : Task) (sources : List Source) (name : List ℕ) → MissesBy (wider task sources) name → ((kind_of (wider task sources)).may_miss ≡ true) × ((kind_of (wider task sources)).asks ≡ true)
misses_of_task compiling sources name m = absurd m
misses_of_task (forming form) sources name m = absurd m
misses_of_task listing sources name m = absurd m
misses_of_task (simulating many stim) sources name m = (refl, refl)
misses_of_task (tracing stim) sources name m = (refl, refl)

may_miss : (o : Outcome) (name : List ℕ) → MissesBy o name → ((kind_of o).may_miss ≡ true) × ((kind_of o).asks ≡ true)
may_miss bad name m = absurd m
may_miss (refusal code spot) name m = absurd m
may_miss (absent n) name m = (refl, refl)
may_miss (compiles design) name m = absurd m
may_miss (runs top stimulus) name m = absurd m
may_miss (writes t) name m = absurd m
may_miss generated name m = absurd m
may_miss (wider task sources) name m = misses_of_task task sources name m

module _ (k : Kind) (f f' result : ℕ) where
  ends_written : result ≡ 0 → k.may_write ≡ true → EndsAs k f f' result
  ends_written e h = inr (inr (inl (e, h)))

  ends_refused : result ≡ 1 → k.may_refuse ≡ true → EndsAs k f f' result
  ends_refused e h = inr (inr (inr (inl (e, h))))

  ends_bad : result ≡ 2 → k.is_bad ≡ true → EndsAs k f f' result
  ends_bad e h = inr (inr (inr (inr (inl (e, h)))))

  ends_missing : result ≡ 3 → k.may_miss ≡ true → EndsAs k f f' result
  ends_missing e h = inr (inr (inr (inr (inr (inl (e, h))))))

  ends_failed : result ≡ 3 → k.asks ≡ true → Rose f f' → EndsAs k f f' result
  ends_failed e h r = inr (inr (inr (inr (inr (inr (e, h, r))))))

  ends_memory : (e e' : ℕ) → (result ≡ 4) ⊎ ((result ≡ 5) × Rose e e') → EndsAs k f f' result
  ends_memory e e' (inl p) = inl p
  ends_memory e e' (inr p) = inr (inl p.0)

-- ---- the answers

tag : Result (List ℕ) Stopped → ℕ
tag (Ok text) = 0
tag (Err BadWords) = 1
tag (Err (Refused code spot other)) = 2
tag (Err (Missing n)) = 3
tag (Err (Failed n)) = 4
tag (Err NoMemory) = 5

module _ (words : List (String Global)) (held : Option Shelf) (m m' f f' : ℕ) where
  -- an answer by its cause
  abbrev pub AnswerOf : Result (List ℕ) Stopped → Type 0
  AnswerOf (Err BadWords) = are_words words ≡ false
  AnswerOf (Err NoMemory) = Unit {0}
  AnswerOf r = AnswersBy (ComesFor words) (word_at words 1) held m m' f f' r

  pub answer_of : (r : Result (List ℕ) Stopped) → Answers words held m m' f f' r → AnswerOf r
  unfolding tag
  answer_of (Ok text) (inl p) = absurd (let q : 0 ≡ 1 = ap tag p.1 in cc)
  answer_of (Ok text) (inr (inl p)) = p.1
  answer_of (Ok text) (inr (inr p)) = absurd (let q : 0 ≡ 5 = ap tag p in cc)
  answer_of (Err BadWords) (inl p) = p.0
  answer_of (Err BadWords) (inr (inl p)) = absurd p.1
  answer_of (Err BadWords) (inr (inr p)) = absurd (let q : 1 ≡ 5 = ap tag p in cc)
  answer_of (Err (Refused code spot other)) (inl p) = absurd (let q : 2 ≡ 1 = ap tag p.1 in cc)
  answer_of (Err (Refused code spot other)) (inr (inl p)) = p.1
  answer_of (Err (Refused code spot other)) (inr (inr p)) = absurd (let q : 2 ≡ 5 = ap tag p in cc)
  answer_of (Err (Missing n)) (inl p) = absurd (let q : 3 ≡ 1 = ap tag p.1 in cc)
  answer_of (Err (Missing n)) (inr (inl p)) = p.1
  answer_of (Err (Missing n)) (inr (inr p)) = absurd (let q : 3 ≡ 5 = ap tag p in cc)
  answer_of (Err (Failed n)) (inl p) = absurd (let q : 4 ≡ 1 = ap tag p.1 in cc)
  answer_of (Err (Failed n)) (inr (inl p)) = p.1
  answer_of (Err (Failed n)) (inr (inr p)) = absurd (let q : 4 ≡ 5 = ap tag p in cc)
  answer_of (Err NoMemory) p = tt

  module _ (old new : Option (List ℕ)) (e e' result : ℕ) where
    refused_of : (s : Stopped) → AnswerOf (Err s) → Tells s old new e e' result → result ≡ 1 → IsRefused words held old new
    refused_of BadWords a t one = absurd (let p = said_at 2 1 _ old new e e' result t one (λ q. cc) (λ q. cc) in let q : 2 ≡ 1 = p.0 in cc)
    refused_of (Refused code spot other) a t one = record { code = code; spot = spot; other = other; may = a.0; refused = a.1; told = (said_at 1 1 _ old new e e' result t one (λ q. cc) (λ q. cc)).1 }
    refused_of (Missing n) a t one = absurd (let p = said_at 3 1 _ old new e e' result t one (λ q. cc) (λ q. cc) in let q : 3 ≡ 1 = p.0 in cc)
    refused_of (Failed n) a t one = absurd (let p = said_at 3 1 _ old new e e' result t one (λ q. cc) (λ q. cc) in let q : 3 ≡ 1 = p.0 in cc)
    refused_of NoMemory a (inl p) one = absurd (let q : 4 ≡ 1 = sym p ∙ one in cc)
    refused_of NoMemory a (inr p) one = absurd (let q : 5 ≡ 1 = sym p.0 ∙ one in cc)

    absent_of : (s : Stopped) → AnswerOf (Err s) → Tells s old new e e' result → result ≡ 3 → IsMissing words held m m' old new ⊎ HasFailed words held f f' old new
    absent_of BadWords a t three = absurd (let p = said_at 2 3 _ old new e e' result t three (λ q. cc) (λ q. cc) in let q : 2 ≡ 3 = p.0 in cc)
    absent_of (Refused code spot other) a t three = absurd (let p = said_at 1 3 _ old new e e' result t three (λ q. cc) (λ q. cc) in let q : 1 ≡ 3 = p.0 in cc)
    absent_of (Missing n) a t three = inl (record { name = n; rose = a.0; may = a.1; absent = a.2; lacks = a.3; told = (said_at 3 3 _ old new e e' result t three (λ q. cc) (λ q. cc)).1 })
    absent_of (Failed n) a t three = inr (record { name = n; rose = a.0; may = a.1; asked = a.2; told = (said_at 3 3 _ old new e e' result t three (λ q. cc) (λ q. cc)).1 })
    absent_of NoMemory a (inl p) three = absurd (let q : 4 ≡ 3 = sym p ∙ three in cc)
    absent_of NoMemory a (inr p) three = absurd (let q : 5 ≡ 3 = sym p.0 ∙ three in cc)

    ends_as : (shelf : Shelf) (o o' : Outcome) → CommandOutcome shelf words o → CommandOutcome shelf words o' → EndsAs (kind_of o) f f' result → EndsAs (kind_of o') f f' result
    ends_as shelf o o' c c' q = subst (λ k. EndsAs k f f' result) (one_kind shelf words o o' c c') q

    ends_of : (s : Stopped) → AnswerOf (Err s) → Tells s old new e e' result → (shelf : Shelf) → held ≡ Some shelf → Ends shelf words f f' result
    ends_of BadWords a (inl p) shelf h o c = ends_as shelf bad o (of_bad shelf words a) c (ends_bad (kind_of bad) f f' result p.0 refl)
    ends_of BadWords a (inr p) shelf h o c = ends_memory (kind_of o) f f' result e e' p
    ends_of (Refused code spot other) a (inl p) shelf h o c =
        let q = a.1 shelf h in ends_as shelf q.0 o q.1 c (ends_refused (kind_of q.0) f f' result p.0 (may_refuse q.0 code spot other q.2))
    ends_of (Refused code spot other) a (inr p) shelf h o c = ends_memory (kind_of o) f f' result e e' p
    ends_of (Missing n) a (inl p) shelf h o c =
        let q = a.2 shelf h in ends_as shelf q.0 o q.1 c (ends_missing (kind_of q.0) f f' result p.0 (may_miss q.0 n q.2).0)
    ends_of (Missing n) a (inr p) shelf h o c = ends_memory (kind_of o) f f' result e e' p
    ends_of (Failed n) a (inl p) shelf h o c =
        let q = a.1.1 in ends_failed (kind_of o) f f' result p.0 (asks_alike shelf a.1.0 words o q.0 c q.1 ∙ (may_miss q.0 n q.2).1) a.0
    ends_of (Failed n) a (inr p) shelf h o c = ends_memory (kind_of o) f f' result e e' p
    ends_of NoMemory a t shelf h o c = ends_memory (kind_of o) f f' result e e' t

    pub told_refused : (s : Stopped) → Answers words held m m' f f' (Err s) → Tells s old new e e' result → result ≡ 1 → IsRefused words held old new
    told_refused s a t one = refused_of s (answer_of (Err s) a) t one

    pub told_absent : (s : Stopped) → Answers words held m m' f f' (Err s) → Tells s old new e e' result → result ≡ 3 → IsMissing words held m m' old new ⊎ HasFailed words held f f' old new
    told_absent s a t three = absent_of s (answer_of (Err s) a) t three

    pub told_ends : (s : Stopped) → Answers words held m m' f f' (Err s) → Tells s old new e e' result → (shelf : Shelf) → held ≡ Some shelf → Ends shelf words f f' result
    told_ends s a t shelf h o c = ends_of s (answer_of (Err s) a) t shelf h o c

    pub output_ends : (text : List ℕ) → Answers words held m m' f f' (Ok text) → result ≡ 0 → (shelf : Shelf) → held ≡ Some shelf → Ends shelf words f f' result
    output_ends text a zero shelf h o c =
        let q = (answer_of (Ok text) a).1 shelf h in ends_as shelf q.0 o q.1 c (ends_written (kind_of q.0) f f' result zero (may_write (word_at words 1) q.0 text q.2))

  pub is_done : (text bytes : List ℕ) (old new : Option (List ℕ)) → Answers words held m m' f f' (Ok text) → bytes ≡ text → Appends old new bytes → IsDone words held old new
  is_done text bytes old new a same w = let q = answer_of (Ok text) a in record { text = text; may = q.0; output = q.1; written = subst (Appends old new) same w }

  -- the one outcome is the design
  the_design : (d : Design) (c : Option Command) (o : Outcome) → AreOne c o (compiles d) → o ≡ compiles d
  the_design d None o e = e
  the_design d (Some (command.Compile count f)) o e = e
  the_design d (Some (command.Sim count stim way)) o e = e
  the_design d (Some (command.Svsim stim f)) o (inl e) = e
  the_design d (Some (command.Svsim stim f)) o (inr e) = absurd (let q : false ≡ true = e.1 in cc)
  the_design d (Some (command.List count)) o e = e
  the_design d (Some (command.Gen stages source)) o e = e

  -- a design that a tree has is the outcome
  design_outcome : (shelf : Shelf) (tree : FileTree) (read : IsRead shelf words tree) (d : Design) → IsDesign read.names read.joined tree (word_at words 1) d → CommandOutcome shelf words (compiles d)
  unfolding CommandOutcome
  design_outcome shelf tree read d e =
      let found : JoinedOutcome compiling (word_at words 1) read.names read.sources read.joined (compiles d) =
      subst (JoinedOutcome compiling (word_at words 1) read.names read.sources read.joined) (ap (outcome_of_design read.sources) e) (reads tree read.reads) in
      subst (λ c. WordsOutcome c words shelf (compiles d)) (sym read.asked) (joined read.names read.sources read.joined (compiles d) read.joins found)

  pub is_theorem : (text bytes : List ℕ) (old new : Option (List ℕ)) → Answers words held m m' f f' (Ok text) → bytes ≡ text → Appends old new bytes → (shelf : Shelf) → held ≡ Some shelf
      → MainTheorem shelf words old new
  is_theorem text bytes old new a same w shelf h tree read d e =
      let c = design_outcome shelf tree read d e in
      let q = (answer_of (Ok text) a).1 shelf h in
      let p = subst (λ o. WritesBy (word_at words 1) o text) (the_design d (command_by words) q.0 (one_outcome shelf words q.0 (compiles d) q.1 c)) q.2 in
      record { text = text; written = subst (Appends old new) same w; emitted = p.emitted; reads = p.reads; matches = p.matches.whole; shows = p.shows }

  pub cut_written : (text bytes : List ℕ) (out out' err err' : Option (List ℕ)) → Answers words held m m' f f' (Ok text) → bytes ≡ text → AppendsPart out out' bytes → SaysFaults err err'
      → IsCutShort words held m m' f f' out out' err err'
  cut_written text bytes out out' err err' a same p q = record { answer = Ok text; answers = a; parts = (subst (AppendsPart out out') same p, q) }

  pub cut_said : (s : Stopped) (out out' err err' : Option (List ℕ)) → Answers words held m m' f f' (Err s) → out' ≡ out → SaysPart (stopped_text s) err err'
      → IsCutShort words held m m' f f' out out' err err'
  cut_said s out out' err err' a p q = record { answer = Err s; answers = a; parts = (p, q) }
