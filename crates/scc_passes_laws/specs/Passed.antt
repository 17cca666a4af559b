-- Both passes one after the other: what they give of a core, or what the first of them that refuses it refuses. This project's own.
use Rattle.std.specs.Prelude.{Option, Some, None}
use Rattle.scc_base.specs.declared.refusal.Refusal.{Refusal}
use Rattle.scc_core_spec.specs.Program.{Program}
use Rattle.scc_core_spec.specs.Resolved.{Tried, Stopped}
use Rattle.scc_core_spec.specs.Unrolled.{unrolled_program, unrolling_refuses}
use Rattle.scc_pointers_spec.specs.Freed.{freed_program}

abbrev pub unless_refused : Option Refusal → Tried Program → Tried Program
unless_refused (Some r) t = Stopped r
unless_refused None t = t

abbrev pub passed : Program → Tried Program
passed p = unless_refused (unrolling_refuses p) (freed_program (unrolled_program p))
