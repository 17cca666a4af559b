-- The first refusal of a command on a source over all stages behind the grammar: the static stage, and then those of its plain program. The first stage that refuses
-- decides. This project's own.
use Rattle.std.specs.Prelude.{Bool, Option, Some, None, option_and_then}
use Rattle.scc_base.specs.declared.refusal.Refusal.{Refusal}
use Rattle.scc_core_spec.specs.Resolved.{Tried, Made, Stopped}
use Rattle.scc_core_spec.specs.Program as core
use Rattle.scc_elab_spec.specs.Program.{Plain}
use Rattle.scc_inline_spec.specs.Stages.{compiled}
use Rattle.scc_plain_first.specs.Static.{Walks, refusal_of}

abbrev pub after_static : Option Refusal → Option (Tried core.Program) → Option (Tried core.Program)
after_static (Some r) later = Some (Stopped r)
after_static None later = later

-- the core that is emitted, or the first refusal; `plain` is the program where the static stage refuses nothing
abbrev pub staged : (many : Bool) → Walks → Plain → Option (Tried core.Program)
staged many w plain = after_static (refusal_of w) (compiled many plain)

abbrev pub refusal_in : {A : Type 0} → Tried A → Option Refusal
refusal_in (Made p) = None
refusal_in (Stopped r) = Some r

abbrev pub first_refusal : (many : Bool) → Walks → Plain → Option Refusal
first_refusal many w plain = option_and_then refusal_in (staged many w plain)
