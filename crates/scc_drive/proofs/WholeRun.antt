-- The whole theorem of a run that no stage after the grammar decides.
use Rattle.std.proofs.Common.{◌≡◌, ◌≢◌, ◌⊎◌, inl, inr, ℕ, Bool, true, false, List, [], ◌∷◌, String, Option, Some, None, Result, Ok, Err, refl, ap, sym, subst, ◌∙◌, true≢false}
use Rattle.std.specs.Prelude.{take, option_map, bytes_eq, if◌then◌else◌, is_some}
use Rattle.std.specs.declared.alloc.Global.{Global}
use Rattle.std.specs.Io.KnownBytes.{Appends}
use Rattle.scc_base.specs.Names.{fixed_names}
use Rattle.scc_base.specs.Outside.{AppendsPart, Shelf, Rose}
use Rattle.scc_base.specs.declared.code.Code.{Code}
use Rattle.scc_base.specs.declared.refusal.Refusal.{Refusal}
use Rattle.scc_tokens_directives.specs.declared.file.Source.{Source}
use Rattle.scc_tokens.specs.Files.{first_part}
use Rattle.scc_svtree.specs.declared.module.SvModule.{SvModule}
use Rattle.scc_drive_words.specs.declared.command.Command.{Command}
use Rattle.scc_drive_words.specs.declared.command.Command.TheVariants as command
use Rattle.scc_drive_words.specs.declared.command.SvForm.TheVariants as sv_form
use Rattle.scc_drive_errors.specs.declared.spots.Spot.{Spot}
use Rattle.scc_drive_errors.specs.declared.stopped.Stopped.{Stopped}
use Rattle.scc_drive_errors.specs.declared.stopped.Stopped.TheVariants.{BadWords, Refused, Missing, Failed, NoMemory}
use Rattle.scc_drive_errors.specs.Spots.{spot_of}
use Rattle.scc_drive_errors.specs.Texts.{refusal_text, words_text, missing_text, failed_text}
use Rattle.scc_drive_spec.specs.Words.{are_words, command_by, word_at, roots_of}
use Rattle.scc_drive_spec.specs.Comes.{Accepted}
use Rattle.scc_drive_spec.specs.Output.{traces, says}
use Rattle.scc_drive_spec.specs.Answer.{Answer, CommandComes}
use Rattle.scc_drive_spec.specs.Answer as new
use Rattle.scc_drive_spec.specs.Whole.{WholeTheorem, IsAnswered, text_of_refusal}
use Rattle.scc_drive_spec.specs.Whole as whole
use Rattle.scc_drive.specs.Answer.{Answers, AnswersBy, ComesFor, Writes, Refuses, Misses, Asks, Tells, IsDone, IsRefused, IsMissing, HasFailed, IsCutShort, Ends, without}
use Rattle.scc_drive.specs.CommandOutcome.{CommandOutcome}
use Rattle.scc_drive.specs.Early.{IsNoTree, IsDecidedEarly, AreEarly}
use Rattle.scc_drive.specs.Outcome.{Outcome, bad, refusal, absent, compiles, runs, writes, generated, wider, kind_of, EndsAs, WritesBy, RefusesBy, MissesBy}
use Rattle.scc_drive.proofs.Early.{Fits, outcome_new, outcome_old}
use Rattle.scc_tokens_laws.proofs.Larger.{joined_again}
use Rattle.scc_tokens_laws.specs.Laws.{HoldsMore}
use Rattle.scc_drive.proofs.OneKind.{of_bad}
use Rattle.scc_drive.proofs.Telling.{said_at, answer_of, told_refused, told_absent, told_ends, output_ends}

-- ---- without one name

holds_less : (name : List ℕ) (shelf : Shelf) → HoldsMore (first_part (without name shelf)) (first_part shelf)
holds_less name shelf n b h = go (bytes_eq n name) h
  where
    go : (same : Bool) → option_map (take 1048577) (if same then None else shelf n) ≡ Some b → first_part shelf n ≡ Some b
    go true e = absurd (true≢false (sym (ap is_some e)))
    go false e = e

no_tree_less : (name : List ℕ) (shelf : Shelf) (roots : List (List ℕ)) → IsNoTree roots shelf → IsNoTree roots (without name shelf)
no_tree_less name shelf roots none names sources tree read = none names sources tree (record {
  joined = read.joined;
  joins = joined_again (first_part shelf) (first_part (without name shelf)) fixed_names roots names sources read.joined (holds_less name shelf) read.joins;
  reads = read.reads;
})

early_less : (name : List ℕ) (shelf : Shelf) (words : List (String Global)) → IsDecidedEarly shelf words → IsDecidedEarly (without name shelf) words
unfolding IsDecidedEarly
early_less name shelf words early = go (command_by words) early
  where
    go : (c : Option Command) → AreEarly c words shelf → AreEarly c words (without name shelf)
    go None e = tt
    go (Some (command.Compile count f)) e = no_tree_less name shelf (roots_of words count) e
    go (Some (command.Sim count stim way)) e = no_tree_less name shelf (roots_of words count) e
    go (Some (command.Svsim stim f)) e = e
    go (Some (command.List count)) e = no_tree_less name shelf (roots_of words count) e
    go (Some (command.Gen stages source)) e = e

-- ---- statuses

-- 4 or 5
abbrev IsCut : ℕ → Type 0
IsCut status = (status ≡ 4) ⊎ (status ≡ 5)

not_cut : (n status : ℕ) → IsCut status → status ≡ n → n ≢ 4 → n ≢ 5 → ⊥
not_cut n status (inl p) e four five = four (sym e ∙ p)
not_cut n status (inr p) e four five = five (sym e ∙ p)

pub cut_of : (e e' status : ℕ) → (status ≡ 4) ⊎ ((status ≡ 5) × Rose e e') → (status ≡ 4) ⊎ (status ≡ 5)
cut_of e e' status (inl p) = inl p
cut_of e e' status (inr p) = inr p.0

same_text : (c c' : Code) (s s' : Spot) (o o' : Option Spot) → c ≡ c' → s ≡ s' → o ≡ o' → refusal_text c s o ≡ refusal_text c' s' o'
same_text c c' s s' o o' p q r = ap (λ c. refusal_text c s o) p ∙ ap (λ s. refusal_text c' s o) q ∙ ap (refusal_text c' s') r

no_accepted : (a : Accepted) → ◌≡◌ {A = Option Accepted} None (Some a) → ⊥
no_accepted a e = cc

module _ (shelf : Shelf) (words : List (String Global)) (early : IsDecidedEarly shelf words) where
  -- ---- by what the words come to

  output_of : (text : List ℕ) (o : Outcome) (x : Answer) → CommandComes shelf words x → Fits o x → WritesBy (word_at words 1) o text → IsAnswered shelf words text
  output_of text bad x c e w = absurd w
  output_of text (refusal code spot) x c e w = absurd w
  output_of text (absent name) x c e w = absurd w
  output_of text (compiles design) x c e w = absurd e
  output_of text (runs m stimulus) x c e w =
      record { output = traces sv_form.Whole m stimulus; comes = subst (CommandComes shelf words) e c; is = w; timely = λ a k. absurd (no_accepted a k) }
  output_of text (writes t) x c e w = record { output = says t; comes = subst (CommandComes shelf words) e c; is = w; timely = λ a k. absurd (no_accepted a k) }
  output_of text generated x c e w = absurd e
  output_of text (wider task sources) x c e w = absurd e

  answered : (text : List ℕ) → Writes (ComesFor words) (word_at words 1) text shelf → IsAnswered shelf words text
  answered text q = let n = outcome_new shelf words early q.0 q.1 in output_of text q.0 n.0 n.1 n.2 q.2

  refused_of : (err err' : Option (List ℕ)) (code : Code) (spot : Spot) (other : Option Spot) (o : Outcome) (x : Answer) → CommandComes shelf words x → Fits o x → RefusesBy o code spot other
      → Appends err err' (refusal_text code spot other) → whole.IsRefused shelf words err err'
  refused_of err err' code spot other bad x c e r w = absurd r
  refused_of err err' code spot other (refusal k s) x c (sources, found, e, code_is, spot_is, alone) r w = record {
    sources = sources;
    refusal = found;
    comes = subst (CommandComes shelf words) e c;
    said = subst (Appends err err') (same_text code found.code spot (spot_of sources found.place) other (option_map (spot_of sources) found.other) (r.0 ∙ sym code_is) (r.1 ∙ sym spot_is) (r.2 ∙ sym (ap (option_map (spot_of sources)) alone))) w;
  }
  refused_of err err' code spot other (absent name) x c e r w = absurd r
  refused_of err err' code spot other (compiles design) x c e r w = absurd r
  refused_of err err' code spot other (runs m stimulus) x c e r w = absurd r
  refused_of err err' code spot other (writes t) x c e r w = absurd r
  refused_of err err' code spot other generated x c e r w = absurd r
  refused_of err err' code spot other (wider task sources) x c e r w = absurd e

  -- the words stop for want of this file
  absent_of : (name : List ℕ) (o : Outcome) (x : Answer) → CommandComes shelf words x → Fits o x → MissesBy o name → CommandComes shelf words (new.absent name)
  absent_of name bad x c e m = absurd m
  absent_of name (refusal code spot) x c e m = absurd m
  absent_of name (absent n) x c e m = subst (λ k. CommandComes shelf words (new.absent k)) (sym m) (subst (CommandComes shelf words) e c)
  absent_of name (compiles design) x c e m = absurd m
  absent_of name (runs k stimulus) x c e m = absurd m
  absent_of name (writes t) x c e m = absurd m
  absent_of name generated x c e m = absurd m
  absent_of name (wider task sources) x c e m = absurd e

  pub missed : (name : List ℕ) → Misses (ComesFor words) name shelf → CommandComes shelf words (new.absent name)
  missed name q = let n = outcome_new shelf words early q.0 q.1 in absent_of name q.0 n.0 n.1 n.2 q.2

  -- ---- how it ends

  module _ (f f' status : ℕ) where
    no_flag : {A : Type 0} → false ≡ true → A
    no_flag e = absurd (true≢false (sym e))

    ends_bad : EndsAs (kind_of bad) f f' status → whole.EndsBy new.bad f f' status
    ends_bad (inl p) = inr (inl p)
    ends_bad (inr (inl p)) = inr (inr p)
    ends_bad (inr (inr (inl p))) = no_flag p.1
    ends_bad (inr (inr (inr (inl p)))) = no_flag p.1
    ends_bad (inr (inr (inr (inr (inl p))))) = inl p.0
    ends_bad (inr (inr (inr (inr (inr (inl p)))))) = no_flag p.1
    ends_bad (inr (inr (inr (inr (inr (inr p)))))) = no_flag p.1

    ends_refused : (code : Code) (spot : Spot) (sources : List Source) (r : Refusal) → EndsAs (kind_of (refusal code spot)) f f' status → whole.EndsBy (new.refused sources r) f f' status
    ends_refused code spot sources r (inl p) = inr (inl p)
    ends_refused code spot sources r (inr (inl p)) = inr (inr (inl p))
    ends_refused code spot sources r (inr (inr (inl p))) = no_flag p.1
    ends_refused code spot sources r (inr (inr (inr (inl p)))) = inl p.0
    ends_refused code spot sources r (inr (inr (inr (inr (inl p))))) = no_flag p.1
    ends_refused code spot sources r (inr (inr (inr (inr (inr (inl p)))))) = no_flag p.1
    ends_refused code spot sources r (inr (inr (inr (inr (inr (inr p)))))) = inr (inr (inr (p.0, p.2)))

    ends_absent : (name : List ℕ) → EndsAs (kind_of (absent name)) f f' status → whole.EndsBy (new.absent name) f f' status
    ends_absent name (inl p) = inr (inl p)
    ends_absent name (inr (inl p)) = inr (inr p)
    ends_absent name (inr (inr (inl p))) = no_flag p.1
    ends_absent name (inr (inr (inr (inl p)))) = no_flag p.1
    ends_absent name (inr (inr (inr (inr (inl p))))) = no_flag p.1
    ends_absent name (inr (inr (inr (inr (inr (inl p)))))) = inl p.0
    ends_absent name (inr (inr (inr (inr (inr (inr p)))))) = inl p.0

    ends_runs : (m : SvModule) (stimulus : List ℕ) → EndsAs (kind_of (runs m stimulus)) f f' status → whole.EndsBy (new.writes (traces sv_form.Whole m stimulus)) f f' status
    ends_runs m stimulus (inl p) = inr (inl p)
    ends_runs m stimulus (inr (inl p)) = inr (inr (inl p))
    ends_runs m stimulus (inr (inr (inl p))) = inl p.0
    ends_runs m stimulus (inr (inr (inr (inl p)))) = no_flag p.1
    ends_runs m stimulus (inr (inr (inr (inr (inl p))))) = no_flag p.1
    ends_runs m stimulus (inr (inr (inr (inr (inr (inl p)))))) = no_flag p.1
    ends_runs m stimulus (inr (inr (inr (inr (inr (inr p)))))) = inr (inr (inr p))

    ends_writes : (t : List ℕ) → EndsAs (kind_of (writes t)) f f' status → whole.EndsBy (new.writes (says t)) f f' status
    ends_writes t (inl p) = inr (inl p)
    ends_writes t (inr (inl p)) = inr (inr (inl p))
    ends_writes t (inr (inr (inl p))) = inl p.0
    ends_writes t (inr (inr (inr (inl p)))) = no_flag p.1
    ends_writes t (inr (inr (inr (inr (inl p))))) = no_flag p.1
    ends_writes t (inr (inr (inr (inr (inr (inl p)))))) = no_flag p.1
    ends_writes t (inr (inr (inr (inr (inr (inr p)))))) = no_flag p.1

    ends_as : (o : Outcome) (x : Answer) → Fits o x → EndsAs (kind_of o) f f' status → whole.EndsBy x f f' status
    ends_as bad x e k = subst (λ x. whole.EndsBy x f f' status) (sym e) (ends_bad k)
    ends_as (refusal code spot) x (sources, r, e, code_is, spot_is, alone) k = subst (λ x. whole.EndsBy x f f' status) (sym e) (ends_refused code spot sources r k)
    ends_as (absent name) x e k = subst (λ x. whole.EndsBy x f f' status) (sym e) (ends_absent name k)
    ends_as (compiles design) x e k = absurd e
    ends_as (runs m stimulus) x e k = subst (λ x. whole.EndsBy x f f' status) (sym e) (ends_runs m stimulus k)
    ends_as (writes t) x e k = subst (λ x. whole.EndsBy x f f' status) (sym e) (ends_writes t k)
    ends_as generated x e k = absurd e
    ends_as (wider task sources) x e k = absurd e

    pub ends_new : Ends shelf words f f' status → (x : Answer) → CommandComes shelf words x → whole.EndsBy x f f' status
    ends_new ends x c = let q = outcome_old shelf words early x c in ends_as q.0 x q.2 (ends q.0 q.1)

    cut_ends : IsCut status → (x : Answer) → whole.EndsBy x f f' status
    cut_ends (inl p) new.bad = inr (inl p)
    cut_ends (inr p) new.bad = inr (inr p)
    cut_ends (inl p) (new.refused sources r) = inr (inl p)
    cut_ends (inr p) (new.refused sources r) = inr (inr (inl p))
    cut_ends (inl p) (new.absent name) = inr (inl p)
    cut_ends (inr p) (new.absent name) = inr (inr p)
    cut_ends (inl p) (new.writes o) = inr (inl p)
    cut_ends (inr p) (new.writes o) = inr (inr (inl p))

  -- ---- the theorem

  module _ (m m' f f' status : ℕ) (out out' err err' : Option (List ℕ)) where
    -- memory ran out, or an output failed
    whole_cut : IsCut status → whole.IsPart shelf words out out' → WholeTheorem shelf words status m m' f f' out out' err err'
    whole_cut cut part = record {
      done = λ e. absurd (not_cut 0 status cut e (λ q. cc) (λ q. cc));
      refuses = λ e. absurd (not_cut 1 status cut e (λ q. cc) (λ q. cc));
      bad_words = λ e. absurd (not_cut 2 status cut e (λ q. cc) (λ q. cc));
      missing = λ e. absurd (not_cut 3 status cut e (λ q. cc) (λ q. cc));
      kept = λ e. absurd (not_kept e);
      part = λ e. part;
      ends = λ x c. cut_ends f f' status cut x;
    }
      where
        not_kept : (status ≡ 1) ⊎ (status ≡ 2) ⊎ (status ≡ 3) → ⊥
        not_kept (inl e) = not_cut 1 status cut e (λ q. cc) (λ q. cc)
        not_kept (inr (inl e)) = not_cut 2 status cut e (λ q. cc) (λ q. cc)
        not_kept (inr (inr e)) = not_cut 3 status cut e (λ q. cc) (λ q. cc)

  -- the words are bad where they are no command
  bad_comes : are_words words ≡ false → CommandComes shelf words new.bad
  unfolding CommandComes are_words
  bad_comes e = go (command_by words) e
    where
      go : (c : Option Command) → is_some c ≡ false → new.WordsCome c words shelf new.bad
      go None e = refl
      go (Some c) e = absurd (true≢false e)

module _ (shelf : Shelf) (words : List (String Global)) (held : Option Shelf) (told : held ≡ Some shelf) (m m' f f' : ℕ) (early : IsDecidedEarly shelf words) where
  missing_of : (err err' : Option (List ℕ)) → IsMissing words held m m' err err' → whole.IsMissing shelf words m m' err err'
  missing_of err err' x = record { name = x.name; rose = x.rose; comes = missed shelf words early x.name (x.absent shelf told); said = x.told }

  asks_of : (name : List ℕ) → Asks (ComesFor words) name shelf → CommandComes (without name shelf) words (new.absent name) ⊎ CommandComes shelf words (new.absent name)
  asks_of name (inl q) = inl (missed (without name shelf) words (early_less name shelf words early) name q)
  asks_of name (inr q) = inr (missed shelf words early name q)

  failed_of : (err err' : Option (List ℕ)) → HasFailed words held f f' err err' → whole.HasFailed shelf words f f' err err'
  failed_of err err' x = record { name = x.name; rose = x.rose; asks = asks_of x.name (x.asked shelf told); said = x.told }

  absent_new : (err err' : Option (List ℕ)) → IsMissing words held m m' err err' ⊎ HasFailed words held f f' err err'
      → whole.IsMissing shelf words m m' err err' ⊎ whole.HasFailed shelf words f f' err err'
  absent_new err err' (inl x) = inl (missing_of err err' x)
  absent_new err err' (inr x) = inr (failed_of err err' x)

  refused_new : (err err' : Option (List ℕ)) → IsRefused words held err err' → whole.IsRefused shelf words err err'
  refused_new err err' x =
      let q = x.refused shelf told in let n = outcome_new shelf words early q.0 q.1 in
      refused_of shelf words early err err' x.code x.spot x.other q.0 n.0 n.1 n.2 q.2 x.told

  -- ---- where there is no output

  module _ (out out' err err' : Option (List ℕ)) (e e' status : ℕ) where
    none_done : (s : Stopped) → Tells s err err' e e' status → status ≡ 0 → ⊥
    none_done BadWords t z = absurd (let p = said_at 2 0 _ err err' e e' status t z (λ q. cc) (λ q. cc) in let q : 2 ≡ 0 = p.0 in cc)
    none_done (Refused code spot other) t z = absurd (let p = said_at 1 0 _ err err' e e' status t z (λ q. cc) (λ q. cc) in let q : 1 ≡ 0 = p.0 in cc)
    none_done (Missing n) t z = absurd (let p = said_at 3 0 _ err err' e e' status t z (λ q. cc) (λ q. cc) in let q : 3 ≡ 0 = p.0 in cc)
    none_done (Failed n) t z = absurd (let p = said_at 3 0 _ err err' e e' status t z (λ q. cc) (λ q. cc) in let q : 3 ≡ 0 = p.0 in cc)
    none_done NoMemory (inl p) z = absurd (let q : 4 ≡ 0 = sym p ∙ z in cc)
    none_done NoMemory (inr p) z = absurd (let q : 5 ≡ 0 = sym p.0 ∙ z in cc)

    bad_of : (s : Stopped) → Answers words held m m' f f' (Err s) → Tells s err err' e e' status → status ≡ 2 → CommandComes shelf words new.bad × Appends err err' words_text
    bad_of BadWords a t z = (bad_comes shelf words early (answer_of words held m m' f f' (Err BadWords) a), (said_at 2 2 _ err err' e e' status t z (λ q. cc) (λ q. cc)).1)
    bad_of (Refused code spot other) a t z = absurd (let p = said_at 1 2 _ err err' e e' status t z (λ q. cc) (λ q. cc) in let q : 1 ≡ 2 = p.0 in cc)
    bad_of (Missing n) a t z = absurd (let p = said_at 3 2 _ err err' e e' status t z (λ q. cc) (λ q. cc) in let q : 3 ≡ 2 = p.0 in cc)
    bad_of (Failed n) a t z = absurd (let p = said_at 3 2 _ err err' e e' status t z (λ q. cc) (λ q. cc) in let q : 3 ≡ 2 = p.0 in cc)
    bad_of NoMemory a (inl p) z = absurd (let q : 4 ≡ 2 = sym p ∙ z in cc)
    bad_of NoMemory a (inr p) z = absurd (let q : 5 ≡ 2 = sym p.0 ∙ z in cc)

    pub stopped_whole : (s : Stopped) → Answers words held m m' f f' (Err s) → Tells s err err' e e' status → out' ≡ out → WholeTheorem shelf words status m m' f f' out out' err err'
    stopped_whole s a t same = record {
      done = λ z. absurd (none_done s t z);
      refuses = λ z. refused_new err err' (told_refused words held m m' f f' err err' e e' status s a t z);
      bad_words = λ z. bad_of s a t z;
      missing = λ z. absent_new err err' (told_absent words held m m' f f' err err' e e' status s a t z);
      kept = λ z. same;
      part = λ z. inl same;
      ends = ends_new shelf words early f f' status (told_ends words held m m' f f' err err' e e' status s a t shelf told);
    }

  -- ---- where there is one

  module _ (out out' err err' : Option (List ℕ)) (status : ℕ) (text : List ℕ) (a : Answers words held m m' f f' (Ok text)) where
    text_is : IsAnswered shelf words text
    text_is = answered shelf words early text ((answer_of words held m m' f f' (Ok text) a).1 shelf told)

    pub written_whole : (bytes : List ℕ) → bytes ≡ text → Appends out out' bytes → status ≡ 0 → WholeTheorem shelf words status m m' f f' out out' err err'
    written_whole bytes same w zero = record {
      done = λ z. record { text = text; answered = text_is; written = subst (Appends out out') same w };
      refuses = λ z. absurd (not_zero 1 z (λ q. cc));
      bad_words = λ z. absurd (not_zero 2 z (λ q. cc));
      missing = λ z. absurd (not_zero 3 z (λ q. cc));
      kept = λ z. absurd (not_kept z);
      part = λ z. absurd (not_cut 0 status z zero (λ q. cc) (λ q. cc));
      ends = ends_new shelf words early f f' status (output_ends words held m m' f f' err err' 0 0 status text a zero shelf told);
    }
      where
        not_zero : (n : ℕ) → status ≡ n → n ≢ 0 → ⊥
        not_zero n e other = other (sym e ∙ zero)

        not_kept : (status ≡ 1) ⊎ (status ≡ 2) ⊎ (status ≡ 3) → ⊥
        not_kept (inl e) = not_zero 1 e (λ q. cc)
        not_kept (inr (inl e)) = not_zero 2 e (λ q. cc)
        not_kept (inr (inr e)) = not_zero 3 e (λ q. cc)

    pub cut_whole : (bytes : List ℕ) → bytes ≡ text → AppendsPart out out' bytes → (status ≡ 4) ⊎ (status ≡ 5) → WholeTheorem shelf words status m m' f f' out out' err err'
    cut_whole bytes same w cut = whole_cut shelf words early m m' f f' status out out' err err' cut (inr (text, text_is, subst (AppendsPart out out') same w))
