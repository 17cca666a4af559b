-- The outcome of files by what their parts do is that by what joining gives.
use Rattle.std.proofs.Common.{◌≡◌, ℕ, List, Result, Ok, Err, refl, sym, subst}
use Rattle.scc_base.specs.Names.{fixed_names}
use Rattle.scc_base.specs.Outside.{Shelf}
use Rattle.scc_tokens_directives.specs.declared.file.Source.{Source}
use Rattle.scc_tokens_directives.specs.Steps as join
use Rattle.scc_tokens.specs.declared.joining.Joined.{Joined}
use Rattle.scc_tokens.specs.Files.{first_part}
use Rattle.scc_tokens.specs.Join.{join_of, Ended}
use Rattle.scc_tokens_laws.proofs.Decided.{only_joins, only_stops}
use Rattle.scc_tokens_laws.proofs.Deriving.{joins_whole}
use Rattle.scc_tokens_laws.proofs.Faulting.{stops_first}
use Rattle.scc_drive.specs.CommandOutcome.{JoinedOutcome, RootsOutcome, joined, refused, missing}
use Rattle.scc_drive.specs.Outcome.{Task, Outcome, refusal, absent}
use Rattle.scc_drive_errors.specs.Spots.{spot_of}

-- the outcome of what joining found
abbrev pub FoundOutcome : Task → List ℕ → List (List ℕ) → List Source → Result Joined join.Stopped → Outcome → Type 0
FoundOutcome task top names sources (Ok j) outcome = JoinedOutcome task top names sources j outcome
FoundOutcome task top names sources (Err (join.Refuses code place)) outcome = outcome ≡ refusal code (spot_of sources place)
FoundOutcome task top names sources (Err (join.Absent name)) outcome = outcome ≡ absent name

abbrev pub JoiningOutcome : Task → List ℕ → Ended → Outcome → Type 0
JoiningOutcome task top found = FoundOutcome task top found.0 found.1 found.2

module _ (task : Task) (top : List ℕ) (roots : List (List ℕ)) (shelf : Shelf) where
  pub by_parts : (names : List (List ℕ)) (sources : List Source) (found : Result Joined join.Stopped) (o : Outcome)
      → join_of (first_part shelf) fixed_names roots ≡ (names, sources, found) → FoundOutcome task top names sources found o → RootsOutcome task top roots shelf o
  by_parts names sources (Ok j) o e c = joined names sources j o (only_joins (first_part shelf) fixed_names roots names sources j e) c
  by_parts names sources (Err (join.Refuses code place)) o e c =
      subst (RootsOutcome task top roots shelf) (sym c) (refused names sources code place (only_stops (first_part shelf) fixed_names roots names sources (join.Refuses code place) e))
  by_parts names sources (Err (join.Absent name)) o e c =
      subst (RootsOutcome task top roots shelf) (sym c) (missing names sources name (only_stops (first_part shelf) fixed_names roots names sources (join.Absent name) e))

  pub by_joining : (o : Outcome) → RootsOutcome task top roots shelf o → JoiningOutcome task top (join_of (first_part shelf) fixed_names roots) o
  by_joining _ (joined names sources j o d c) = subst (λ found. JoiningOutcome task top found o) (sym (joins_whole (first_part shelf) fixed_names roots names sources j d)) c
  by_joining _ (refused names sources code place s) =
      subst (λ found. JoiningOutcome task top found (refusal code (spot_of sources place))) (sym (stops_first (first_part shelf) fixed_names roots names sources (join.Refuses code place) s)) refl
  by_joining _ (missing names sources name s) =
      subst (λ found. JoiningOutcome task top found (absent name)) (sym (stops_first (first_part shelf) fixed_names roots names sources (join.Absent name) s)) refl
