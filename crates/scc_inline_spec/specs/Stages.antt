-- The stages behind the static one in turn: construction, copied calls, unrolled loops, resolved pointers, rules, states, size. The first stage that
-- refuses decides, and in it what it meets first. This project's own.
use Rattle.std.specs.Prelude.{Bool, Option, Some, None, option_map}
use Rattle.scc_base.specs.declared.refusal.Refusal.{Refusal}
use Rattle.scc_core_spec.specs.Program as prog
use Rattle.scc_core_spec.specs.Resolved.{Tried, Made, Stopped, and_made}
use Rattle.scc_core_spec.specs.Unrolled.{unrolled_program, unrolling_refuses}
use Rattle.scc_core_spec.specs.Renumbered.{resolved_program}
use Rattle.scc_core_spec.specs.Rules.{first_rule}
use Rattle.scc_core_spec.specs.Split.{first_after_passes}
use Rattle.scc_elab_spec.specs.Program.{Plain}
use Rattle.scc_elab_spec.specs.Elaborated.{elaborated}
use Rattle.scc_inline_spec.specs.Static.{inlined}

abbrev pub unless_refused : {A : Type 0} → Option Refusal → A → Tried A
unless_refused None a = Made a
unless_refused (Some r) a = Stopped r

-- the unrolled core
abbrev pub unrolled : prog.Program → Tried prog.Program
unrolled c = unless_refused (unrolling_refuses c) (unrolled_program c)

-- the resolved core of which no rule is broken, or what is refused
abbrev pub accepted : prog.Program → Tried prog.Program
accepted c = and_made (unrolled c) (λ u. and_made (resolved_program u) (λ r. unless_refused (first_after_passes first_rule r) r))

-- the core that is emitted, or the first refusal behind the static stage; `many`: with several clocks
abbrev pub compiled : (many : Bool) → Plain → Option (Tried prog.Program)
compiled many p = option_map (λ d. and_made d (λ d. and_made (inlined p d) accepted)) (elaborated many p)
