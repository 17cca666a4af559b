-- The outcome of a command, by what joining gives.
use Rattle.std.proofs.Common.{◌≡◌, ℕ, List, drop, take, map, Option, None, Result, Ok, Err, ap, refl, sym, ◌∙◌, subst, inl, inr, String}
use Rattle.std.specs.Prelude.{string_bytes, option_map, IfOk, IfErr}
use Rattle.std.specs.declared.alloc.Global.{Global}
use Rattle.scc_base.specs.Names.{fixed_names}
use Rattle.scc_base.specs.Outside.{Shelf, Told, Rose}
use Rattle.scc_base.specs.declared.refusal.Refusal.{Refusal}
use Rattle.scc_base.specs.declared.refusal.Stop.TheVariants as stop
use Rattle.scc_tokens_directives.specs.declared.file.Source.{Source}
use Rattle.scc_tokens.specs.declared.joining.Joined.{Joined}
use Rattle.scc_tokens.specs.declared.joining.JoinFault.{JoinFault}
use Rattle.scc_tokens.specs.declared.joining.JoinFault.TheVariants as fault
use Rattle.scc_tokens.specs.Files.{HoldsAll, ToldAll, first_part}
use Rattle.scc_tokens.specs.Join.{join_of, JoinSays, Somewhere}
use Rattle.scc_tokens_directives.specs.Steps as join
use Rattle.scc_grammar.specs.Claim.{IsReadFile}
use Rattle.scc_thin_module.proofs.Known.{joined_names}
use Rattle.scc_drive.specs.declared.joining.Read.{Read}
use Rattle.scc_drive_errors.specs.declared.stopped.Stopped.{Stopped}
use Rattle.scc_drive_errors.specs.declared.stopped.Stopped.TheVariants as stopped
use Rattle.scc_drive.specs.Answer.{AnswersBy, without}
use Rattle.scc_drive.specs.CommandOutcome.{faulty, RootsOutcome}
use Rattle.scc_drive.proofs.Derived.{FoundOutcome, by_parts}
use Rattle.scc_drive.specs.Outcome.{Task, Outcome, refusal, absent}
use Rattle.scc_drive_errors.specs.Spots.{spot_of}
use Rattle.scc_drive.specs.Stages.{Gives, Asking, IsJoined, IsUnjoined, ReadOutcome}
use Rattle.scc_drive.specs.Stops.{IsFaulty}
use Rattle.scc_drive_errors.specs.Stops.{Stops, StoppedBy}
use Rattle.scc_drive_spec.specs.Words.{roots_of}
use Rattle.scc_drive.proofs.Without.{without_none, all_still}

module _ (roots : List (List ℕ)) (held : Option Shelf) (read : Read) (j : IsJoined roots held read) (task : Task) (top : List ℕ) where
  come : (shelf : Shelf) (o : Outcome) → HoldsAll (first_part shelf) read.sources → ReadOutcome task top read o → RootsOutcome task top roots shelf o
  come shelf o holds c = by_parts task top roots shelf read.names read.sources (Ok read.joined) o (j.says (first_part shelf) holds) c

  -- the answers of a command, by those for the files that it joined
  pub joined_gives : (m m' f f' : ℕ) (r : Result (List ℕ) Stopped) → Gives (ReadOutcome task top read) top r → AnswersBy (RootsOutcome task top roots) top held m m' f f' r
  joined_gives m m' f f' (Ok text) g =
      ((j.somewhere.0, (g.0, come j.somewhere.0 g.0 j.somewhere.1 g.1, g.2)), λ shelf e. (g.0, come shelf g.0 (j.told shelf e) g.1, g.2))
  joined_gives m m' f f' (Err (stopped.Refused code spot other)) g =
      ((j.somewhere.0, (g.0, come j.somewhere.0 g.0 j.somewhere.1 g.1, g.2)), λ shelf e. (g.0, come shelf g.0 (j.told shelf e) g.1, g.2))
  joined_gives m m' f f' (Err stopped.NoMemory) g = tt
  joined_gives m m' f f' (Err stopped.BadWords) g = absurd g
  joined_gives m m' f f' (Err (stopped.Missing n)) g = absurd g
  joined_gives m m' f f' (Err (stopped.Failed n)) g = absurd g

  pub joined_asking : (m m' f f' : ℕ) (r : Result (List ℕ) Stopped) → Asking (ReadOutcome task top read) top held m m' f f' r → AnswersBy (RootsOutcome task top roots) top held m m' f f' r
  joined_asking m m' f f' (Ok text) g = joined_gives m m' f f' (Ok text) g
  joined_asking m m' f f' (Err (stopped.Refused code spot other)) g = joined_gives m m' f f' (Err (stopped.Refused code spot other)) g
  joined_asking m m' f f' (Err stopped.NoMemory) g = tt
  joined_asking m m' f f' (Err stopped.BadWords) g = absurd g
  joined_asking m m' f f' (Err (stopped.Missing n)) g =
      (g.0, (j.somewhere.0, (g.1.0, come j.somewhere.0 g.1.0 j.somewhere.1 g.1.1, g.1.2)), λ shelf e. (g.1.0, come shelf g.1.0 (j.told shelf e) g.1.1, g.1.2), g.2)
  joined_asking m m' f f' (Err (stopped.Failed n)) g =
      (g.0, (j.somewhere.0, (g.1.0, come j.somewhere.0 g.1.0 j.somewhere.1 g.1.1, g.1.2)), λ shelf e. inr (g.1.0, come shelf g.1.0 (j.told shelf e) g.1.1, g.1.2))

abbrev is_err : JoinFault → JoinFault → Type 0
is_err x y = let a : Result Joined JoinFault = Err x in let b : Result Joined JoinFault = Err y in a ≡ b

-- what joining says where the names hold what was read
abbrev pub Said : List (List ℕ) → List (List ℕ) → List Source → Result Joined JoinFault → Type 0
Said roots names sources r = (shelf : Shelf) → HoldsAll shelf sources → JoinSays shelf names sources r (join_of shelf fixed_names roots)

-- the clause of joining, where the names before are the fixed ones
pub said : (words roots : List (String Global)) (count : ℕ) (names : List (List ℕ)) (sources : List Source) (r r' : Result Joined JoinFault) (before : List (List ℕ)) → r ≡ r' → before ≡ fixed_names
    → roots ≡ take count (drop 2 words)
    → ((shelf : Shelf) → HoldsAll shelf sources → JoinSays shelf names sources r (join_of shelf before (map string_bytes roots))) → Said (roots_of words count) names sources r'
said words roots count names sources r r' before p q s says shelf holds =
    subst (λ l. JoinSays shelf names sources r' (join_of shelf fixed_names (map string_bytes l))) s
    (subst (λ n. JoinSays shelf names sources r' (join_of shelf n (map string_bytes roots))) q
    (subst (λ r. JoinSays shelf names sources r (join_of shelf before (map string_bytes roots))) p (says shelf holds)))

module _ (roots : List (List ℕ)) (names : List (List ℕ)) (sources : List Source) where
  -- every name is an identifier
  pub is_joined : (held : Option Shelf) (j : Joined) (read : Read) → Said roots names sources (Ok j) → ToldAll held sources → Somewhere sources (Ok j) → IsReadFile j read.tree
      → read.names ≡ names → read.sources ≡ sources → read.joined ≡ j → IsJoined roots held read
  is_joined held j read says told some file p q r =
      let same : read ≡ record { names = names; sources = sources; joined = j; tree = read.tree } =
      ap (λ n. record { names = n; sources = read.sources; joined = read.joined; tree = read.tree }) p
      ∙ ap (λ s. record { names = names; sources = s; joined = read.joined; tree = read.tree }) q
      ∙ ap (λ j. record { names = names; sources = sources; joined = j; tree = read.tree }) r in
      subst (IsJoined roots held) (sym same) (record {
        says = says;
        told = told;
        somewhere = (some.0, some.1);
        file = file;
        identifiers = joined_names (first_part some.0) roots names sources (Ok j) (says (first_part some.0) some.1);
      })

  pub read_joined : (held : Option Shelf) (j : Joined) (r : Result Read Stopped) → Said roots names sources (Ok j) → ToldAll held sources → Somewhere sources (Ok j)
      → IfOk r (λ (x : Read). (x.names ≡ names) × (x.sources ≡ sources) × (x.joined ≡ j) × IsReadFile j x.tree) → IfOk r (IsJoined roots held)
  read_joined held j (Ok x) says told some h = is_joined held j x says told some h.3 h.0 h.1 h.2
  read_joined held j (Err s) says told some h = tt

  module _ (task : Task) (top : List ℕ) where
    found_come : (shelf : Shelf) (found : Result Joined join.Stopped) (o : Outcome) → join_of (first_part shelf) fixed_names roots ≡ (names, sources, found)
        → FoundOutcome task top names sources found o → RootsOutcome task top roots shelf o
    found_come shelf found o e c = by_parts task top roots shelf names sources found o e c

    first_none : (shelf : Shelf) (n : List ℕ) → shelf n ≡ None → first_part shelf n ≡ None
    first_none shelf n e = ap (option_map (take 1048577)) e

    lacking : (shelf : Shelf) (n : List ℕ) → (first_part shelf n ≡ None → join_of (first_part shelf) fixed_names roots ≡ (names, sources, Err (join.Absent n))) → shelf n ≡ None
        → RootsOutcome task top roots shelf (absent n)
    lacking shelf n says e = found_come shelf (Err (join.Absent n)) (absent n) (says (first_none shelf n e)) refl

  pub unjoined_faulty : (held : Option Shelf) (m m' f f' : ℕ) (j : Joined) (s : Stopped) → Said roots names sources (Ok j) → ToldAll held sources → Somewhere sources (Ok j) → IsFaulty sources j s
      → IsUnjoined roots held m m' f f' s
  unjoined_faulty held m m' f f' j (stopped.Refused code spot other) says told some h = λ task top.
      let at : (shelf : Shelf) → HoldsAll (first_part shelf) sources → RootsOutcome task top roots shelf (refusal code (spot_of sources h.0)) =
      λ shelf holds. found_come task top shelf (Ok j) (refusal code (spot_of sources h.0)) (says (first_part shelf) holds) (faulty code h.0 h.1) in
      ((some.0, (refusal code (spot_of sources h.0), at some.0 some.1, (refl, h.2, h.3))), λ shelf e. (refusal code (spot_of sources h.0), at shelf (told shelf e), (refl, h.2, h.3)))
  unjoined_faulty held m m' f f' j stopped.NoMemory says told some h = λ task top. tt
  unjoined_faulty held m m' f f' j stopped.BadWords says told some h = absurd h
  unjoined_faulty held m m' f f' j (stopped.Missing n) says told some h = absurd h
  unjoined_faulty held m m' f f' j (stopped.Failed n) says told some h = absurd h

  pub read_unjoined : (held : Option Shelf) (m m' f f' : ℕ) (j : Joined) (r : Result Read Stopped) → Said roots names sources (Ok j) → ToldAll held sources → Somewhere sources (Ok j)
      → IfErr r (IsFaulty sources j) → IfErr r (IsUnjoined roots held m m' f f')
  read_unjoined held m m' f f' j (Ok x) says told some h = tt
  read_unjoined held m m' f f' j (Err s) says told some h = unjoined_faulty held m m' f f' j s says told some h

  pub unjoined_refused : (held : Option Shelf) (m m' f f' : ℕ) (x : Refusal) (s : Stopped) → Said roots names sources (Err (fault.Stop (stop.Refused x))) → ToldAll held sources
      → Somewhere sources (Err (fault.Stop (stop.Refused x))) → Stops sources x.place x.code s → IsUnjoined roots held m m' f f' s
  unjoined_refused held m m' f f' x (stopped.Refused code spot other) says told some h = λ task top.
      let at : (shelf : Shelf) → HoldsAll (first_part shelf) sources → RootsOutcome task top roots shelf (refusal x.code (spot_of sources x.place)) =
      λ shelf holds. found_come task top shelf (Err (join.Refuses x.code x.place)) (refusal x.code (spot_of sources x.place)) (says (first_part shelf) holds).0 refl in
      ((some.0, (refusal x.code (spot_of sources x.place), at some.0 some.1, h)), λ shelf e. (refusal x.code (spot_of sources x.place), at shelf (told shelf e), h))
  unjoined_refused held m m' f f' x stopped.NoMemory says told some h = λ task top. tt
  unjoined_refused held m m' f f' x stopped.BadWords says told some h = absurd h
  unjoined_refused held m m' f f' x (stopped.Missing n) says told some h = absurd h
  unjoined_refused held m m' f f' x (stopped.Failed n) says told some h = absurd h

  pub unjoined_missing : (held : Option Shelf) (m m' f f' : ℕ) (n : List ℕ) → Said roots names sources (Err (fault.Missing n)) → ToldAll held sources
      → Somewhere sources (Err (fault.Missing n)) → Rose m m' → Told held (λ shelf. shelf n ≡ None) → IsUnjoined roots held m m' f f' (stopped.Missing n)
  unjoined_missing held m m' f f' n says told some rose lacks = λ task top.
      let at : (shelf : Shelf) → HoldsAll (first_part shelf) sources → shelf n ≡ None → RootsOutcome task top roots shelf (absent n) =
      λ shelf holds e. lacking task top shelf n (says (first_part shelf) holds) e in
      (rose, (some.0, (absent n, at some.0 some.1 some.2, refl)), λ shelf e. (absent n, at shelf (told shelf e) (lacks shelf e), refl), lacks)

  pub unjoined_failed : (held : Option Shelf) (m m' f f' : ℕ) (n : List ℕ) → Said roots names sources (Err (fault.Failed n)) → ToldAll held sources
      → Somewhere sources (Err (fault.Failed n)) → Rose f f' → IsUnjoined roots held m m' f f' (stopped.Failed n)
  unjoined_failed held m m' f f' n says told some rose = λ task top.
      let at : (shelf : Shelf) → HoldsAll (first_part shelf) sources → shelf n ≡ None → RootsOutcome task top roots shelf (absent n) =
      λ shelf holds e. lacking task top shelf n (says (first_part shelf) holds) e in (
        rose,
        (some.0, (absent n, at some.0 some.1 some.2, refl)),
        λ shelf e. inl (absent n, at (without n shelf) (all_still n some.0 shelf sources some.2 some.1 (told shelf e)) (without_none n shelf), refl),
      )

  pub unjoined_by : (held : Option Shelf) (m m' f f' : ℕ) (x : JoinFault) (s : Stopped) → Said roots names sources (Err x) → ToldAll held sources → Somewhere sources (Err x)
      → ((n : List ℕ) → is_err x (fault.Missing n) → Rose m m') → ((n : List ℕ) → is_err x (fault.Missing n) → Told held (λ shelf. shelf n ≡ None))
      → ((n : List ℕ) → is_err x (fault.Failed n) → Rose f f') → StoppedBy sources x s → IsUnjoined roots held m m' f f' s
  unjoined_by held m m' f f' (fault.Stop (stop.Refused x)) s says told some missing lacks failed h = unjoined_refused held m m' f f' x s says told some h
  unjoined_by held m m' f f' (fault.Stop stop.NoMemory) s says told some missing lacks failed h = subst (IsUnjoined roots held m m' f f') (sym h) (λ task top. tt)
  unjoined_by held m m' f f' (fault.Missing n) s says told some missing lacks failed h =
      subst (IsUnjoined roots held m m' f f') (sym h) (unjoined_missing held m m' f f' n says told some (missing n refl) (lacks n refl))
  unjoined_by held m m' f f' (fault.Failed n) s says told some missing lacks failed h =
      subst (IsUnjoined roots held m m' f f') (sym h) (unjoined_failed held m m' f f' n says told some (failed n refl))
