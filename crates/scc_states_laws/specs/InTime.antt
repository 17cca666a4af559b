-- Every resume comes to its next wait or to its end within a bound that the body tells, and is never stuck; and so does the whole design, whatever
-- its steps. This project's own.
use Rattle.std.specs.Prelude.{◌≡◌, ℕ, ◌*◌, Some, List, option_map, unwrap_or, slice_get}
use Rattle.scc_semantics.specs.Design.{Design}
use Rattle.scc_semantics.specs.Process.{State, Well}
use Rattle.scc_semantics.specs.Run.{Step, Shown, shown, FitSteps}
use Rattle.scc_semantics.specs.Start.{IsStart}
use Rattle.scc_core_spec.specs.Program.{Program, Process}
use Rattle.scc_core_spec.specs.Source.{Home, source_of}
use Rattle.scc_core_spec.specs.Constants.{constants_of}
use Rattle.scc_blocks_spec.specs.Turns.{Regs, Left, turn}
use Rattle.scc_blocks_spec.specs.Tied.{Tied}
use Rattle.scc_states_path_laws.specs.Tracks.{steps_of}

-- the steps that each process of a core is allowed
abbrev pub bounds_of : Program → ℕ → ℕ
bounds_of p i = unwrap_or (option_map (λ q. steps_of q.body) (slice_get p.processes i)) 0

-- The same for a design before its loops are unrolled, its calls copied and its pointers resolved: k statements of it go for one of the core.
abbrev pub slow_bounds : ℕ → Program → ℕ → ℕ
slow_bounds k p i = k * bounds_of p i

-- From each start, over all steps that fit, within these bounds each process comes to a wait or to its end, and none is stuck.
abbrev pub InTime : (ℕ → ℕ) → Design → Type 0
InTime bounds d = (s : State) → IsStart d s → (xs : List Step) → FitSteps d xs → (os : List Shown) × (shown bounds d xs s ≡ Well os)

-- a resolved core, within the bounds of its bodies
abbrev pub CoreInTime : Home → Program → Type 0
CoreInTime home p = InTime (bounds_of p) (source_of home p (constants_of home p))

-- the design that the core is compiled of: its passes take k statements at most for one
abbrev pub DesignInTime : ℕ → Design → Program → Type 0
DesignInTime k d p = InTime (slow_bounds k p) d

-- Where registers are tied to a state, each process makes a turn of them: none of its segments fails.
abbrev pub NeverStuck : Home → Program → Type 0
NeverStuck home p = (s : State) (g : Regs) → Tied home p s g → (i : ℕ) (q : Process) → slice_get p.processes i ≡ Some q → (left : Left) × (turn p i q g ≡ Some left)
