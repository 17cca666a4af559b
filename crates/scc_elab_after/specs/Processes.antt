-- Processes, looked at when construction has run. This project's own.
use Rattle.std.specs.Prelude.{ℕ, Bool, not, List, [], ◌∷◌, Option, is_some}
use Rattle.scc_base.specs.declared.refusal.Refusal.{Refusal}
use Rattle.scc_base.specs.declared.code.Code.TheVariants as reason
use Rattle.scc_core_spec.specs.First.{refused, when, first_of, first_some}
use Rattle.scc_elab_spec.specs.Grown.{Item, Declared}
use Rattle.scc_elab_spec.specs.After as after
use Rattle.scc_elab_after.specs.declared.processes.Clock.{Clock}

-- an item that names nothing
abbrev pub unnamed : Item → Option Refusal
unnamed i = when (not (is_some i.signal)) (refused reason.Sensitivity i.place)

-- a sensitivity that no process may have
abbrev pub unfit : Declared → Option Refusal
unfit d = when (not (after.is_sensitive d)) (refused reason.Sensitivity d.place)

abbrev pub clock_in : Clock → after.Clock
clock_in c = record { root = c.root; rising = c.rising; place = c.place }
