-- Starts of the design that construction leaves.
use Rattle.std.specs.Prelude.{◌≡◌, ℕ, Option, Some, None, option_map, slice_get, unwrap_or}
use Rattle.scc_semantics.specs.Location.{Location}
use Rattle.scc_semantics.specs.Design as running
use Rattle.scc_semantics.specs.Machine.{Stop}
use Rattle.scc_semantics.specs.Process.{State, first_frames}
use Rattle.scc_semantics.specs.Run.{FitsThing}
use Rattle.scc_semantics.specs.Start.{HoldsConstant}
use Rattle.scc_elab_spec.specs.Program.{Plain}
use Rattle.scc_elab_spec.specs.Design.{Design}
use Rattle.scc_elab_spec.specs.Meant.{design_of}

-- what is constant fits where it stands, and is what construction left where that is fixed
pub record IsConstant (p : Plain) (d : Design) (constant : Location → Option ℕ) : Type 0 where
  pub fits : (l : Location) (c : ℕ) → constant l ≡ Some c → FitsThing ((design_of p d constant).places.things l) c
  pub fixed : (l : Location) (c : ℕ) → constant l ≡ Some c → HoldsConstant ((design_of p d constant).fixed l) c

abbrev pub first_word : Option ℕ → Option ℕ → ℕ
first_word (Some w) c = w
first_word None (Some c) = c
first_word None None = 0

-- all that isn't fixed or constant is 0
abbrev pub start_of : running.Design → State
start_of d = record {
  store = record { words = λ l. first_word (d.fixed l) (d.constant l); targets = d.targets };
  frames = λ i. unwrap_or (option_map (first_frames i) (slice_get d.processes i)) Stop;
}
