-- Both passes one after the other keep the meaning.
use Rattle.std.proofs.Common.{◌≡◌, refl, sym, ◌∙◌, ℕ, ◌*◌, true, Option, Some, None}
use Rattle.scc_base.specs.declared.refusal.Refusal.{Refusal}
use Rattle.scc_semantics.specs.Location.{Location}
use Rattle.scc_semantics.specs.Same.{SameDesign}
use Rattle.scc_semantics_laws.proofs.Order.{same-then}
use Rattle.scc_core_spec.specs.Constants.{constants_of}
use Rattle.scc_core_spec.specs.IsResolved.{IsResolved}
use Rattle.scc_core_spec.specs.Program.{Program}
use Rattle.scc_core_spec.specs.Renumbered.{resolved_program}
use Rattle.scc_core_spec.specs.Resolved.{Tried, Made}
use Rattle.scc_core_spec.specs.Source.{Home, source_of}
use Rattle.scc_core_spec.specs.Unrolled.{unrolled_program, unrolling_refuses}
use Rattle.scc_core_spec.specs.WorkedRun.{home as worked_home}
use Rattle.scc_blocks_spec.specs.Passed.{IsHome, Law}
use Rattle.scc_core_unroll_laws.specs.Named.{IsNamed}
use Rattle.scc_core_unroll_laws.proofs.Back.{law as unrolling-law}
use Rattle.scc_core_pass_laws.proofs.Whole.{law as resolving-law}
use Rattle.scc_core_resolved_laws.proofs.Homes.{own-home}
use Rattle.scc_core_resolved_laws.proofs.Inputs.{all-kept}
use Rattle.scc_core_resolvable_laws.specs.Resolvable.{AreOwn, AreResolvable}
use Rattle.scc_core_resolvable_laws.proofs.Kept.{all-unrolled, named-unrolled}
use Rattle.scc_core_resolvable_laws.proofs.Kinded.{are-kinded}
use Rattle.scc_pointers_spec.specs.Declared.{declares_first}
use Rattle.scc_pointers_spec.specs.Freed.{freed_program}
use Rattle.scc_pointers_spec.proofs.Declared.{program-same}
use Rattle.scc_passes_laws.specs.Passed.{passed, unless_refused}

none-refused : (o : Option Refusal) (t : Tried Program) (r : Program) → unless_refused o t ≡ Made r → o ≡ None
none-refused None t r h = refl
none-refused (Some x) t r h = absurd cc

given-so : (o : Option Refusal) (t : Tried Program) (r : Program) → unless_refused o t ≡ Made r → t ≡ Made r
given-so None t r h = h
given-so (Some x) t r h = absurd cc

pub accepted : (p r : Program) → passed p ≡ Made r → unrolling_refuses p ≡ None
accepted p r h = none-refused (unrolling_refuses p) (freed_program (unrolled_program p)) r h

pub resolves : (p r : Program) → declares_first (unrolled_program p) ≡ true → passed p ≡ Made r → resolved_program (unrolled_program p) ≡ Made r
resolves p r first h = sym (program-same (unrolled_program p) first) ∙ given-so (unrolling_refuses p) (freed_program (unrolled_program p)) r h

law-then : (j k : ℕ) (constant : Location → Option ℕ) (c u r : Program) → Law j constant c u → Law k constant u r → Law (j * k) constant c r
law-then j k constant c u r a b = record {
  shape = record { top = a.shape.top ∙ b.shape.top; cells = a.shape.cells ∙ b.shape.cells; vectors = a.shape.vectors ∙ b.shape.vectors; processes = a.shape.processes ∙ b.shape.processes };
  keeps = λ home is kept. a.keeps home is (b.keeps home is kept);
  same = λ home is kept. same-then j k (source_of home c constant) (source_of home u constant) (source_of home r constant) (a.same home is (b.keeps home is kept)) (b.same home is kept);
}

module _ (p r : Program) (named : IsNamed p) (resolvable : (home : Home) → IsHome home → AreResolvable home p) (first : declares_first (unrolled_program p) ≡ true) (gives : passed p ≡ Made r) where
  own : AreOwn p
  own i q e = (resolvable worked_home own-home i q e).own

  pub law-of : (constant : Location → Option ℕ) → Law 3 constant p r
  law-of constant = law-then 3 1 constant p (unrolled_program p) r (unrolling-law p constant named (are-kinded p own))
      (resolving-law (unrolled_program p) r constant (named-unrolled p named) (λ home is. all-unrolled p home (resolvable home is)) (resolves p r first gives))

  pub same-of : (home : Home) → IsHome home → IsResolved r → SameDesign 3 (source_of home p (constants_of home r)) (source_of home r (constants_of home r))
  same-of home is resolved = (law-of (constants_of home r)).same home is (all-kept home is r resolved)
