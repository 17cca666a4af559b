-- Cores of which each process can be resolved. This project's own.
use Rattle.std.specs.Prelude.{◌≡◌, ℕ, Some, slice_get}
use Rattle.scc_core_spec.specs.Program.{Program, Process}
use Rattle.scc_core_spec.specs.Source.{Home}
use Rattle.scc_core_pass_laws.specs.Pointing.{OwnCode}
use Rattle.scc_core_pass_laws.specs.Renumbering.{IsResolvable}

abbrev pub AreResolvable : Home → Program → Type 0
AreResolvable home p = (i : ℕ) (q : Process) → slice_get p.processes i ≡ Some q → IsResolvable home p i q

-- the bodies name their processes' own cells, and operators have the kinds that they say
abbrev pub AreOwn : Program → Type 0
AreOwn p = (i : ℕ) (q : Process) → slice_get p.processes i ≡ Some q → OwnCode q p.cells q.body
