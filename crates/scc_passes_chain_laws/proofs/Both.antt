-- What both passes answer is what the definitions say.
use Rattle.std.proofs.Common.{◌≡◌, refl, sym, ap, ◌∙◌, Option, Some, None}
use Rattle.scc_base.specs.declared.refusal.Refusal.{Refusal}
use Rattle.scc_core.specs.declared.program.Core.{Core}
use Rattle.scc_core.specs.Passes.{Through, Stopped, at_first, at_second}
use Rattle.scc_core_spec.specs.Program.{Program}
use Rattle.scc_core_spec.specs.Resolved as tried
use Rattle.scc_core_spec.specs.Resolved.{Tried}
use Rattle.scc_core_spec.specs.Unrolled.{unrolled_program, unrolling_refuses}
use Rattle.scc_core_view.specs.Programs.{program_of}
use Rattle.scc_passes_laws.specs.Passed.{passed, unless_refused}
use Rattle.scc_pointers.specs.Resolved as second
use Rattle.scc_pointers_laws.specs.Counted.{IsAskedCounted}
use Rattle.scc_pointers_laws.specs.Ready as ready
use Rattle.scc_pointers_laws.proofs.Copies.{core_copies_asked}
use Rattle.scc_pointers_spec.specs.Freed.{freed_program}
use Rattle.scc_unroll.specs.Unrolled as first
use Rattle.scc_unroll_asked.specs.Cores.{IsAsked}

module _ (c u : Core) (given : first.IsUnrolled c u) (asked : IsAsked c) (counted : IsAskedCounted c) where
  between : ready.IsAsked u
  between = core_copies_asked c u given.keeps.cells given.keeps.vectors given.copies counted

  pub behind : (t : Tried Program) → freed_program (program_of u) ≡ t → passed (program_of c) ≡ t
  behind t h =
      ap (λ o. unless_refused o (freed_program (unrolled_program (program_of c)))) (given.accepted asked)
      ∙ ap freed_program (sym (given.program asked)) ∙ h

pub gives_so : (c m : Core) → Through first.IsUnrolled second.IsResolved c m → IsAsked c → IsAskedCounted c → passed (program_of c) ≡ tried.Made (program_of m)
gives_so c m t asked counted = behind c t.between t.by_first asked counted (tried.Made (program_of m)) (t.by_second.program (between c t.between t.by_first asked counted))

pub refuses_so : (c : Core) (r : Refusal) → Stopped first.IsUnrolled first.IsRefused second.IsRefused c r → IsAsked c → IsAskedCounted c → passed (program_of c) ≡ tried.Stopped r
refuses_so c r (at_first f) asked counted = ap (λ o. unless_refused o (freed_program (unrolled_program (program_of c)))) (f.refusal asked)
refuses_so c r (at_second u given s) asked counted = behind c u given asked counted (tried.Stopped r) (s.refusal (between c u given asked counted))
