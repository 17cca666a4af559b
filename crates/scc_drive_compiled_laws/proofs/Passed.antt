-- The two passes, one after the other, of the copied core of an elaborated design.
use Rattle.std.proofs.Common.{◌≡◌, Bool, true, Option, Some, ℕ, sym, ◌∙◌, subst}
use Rattle.scc_semantics.specs.Location.{Location}
use Rattle.scc_core_spec.specs.IsResolved.{IsResolved}
use Rattle.scc_core_spec.specs.Program.{Program}
use Rattle.scc_core_spec.specs.Renumbered.{resolved_program}
use Rattle.scc_core_spec.specs.Resolved.{Made}
use Rattle.scc_core_spec.specs.Unrolled.{unrolled_program}
use Rattle.scc_blocks_spec.specs.Passed.{Law}
use Rattle.scc_core_unroll_laws.specs.Named.{IsNamed}
use Rattle.scc_core_unroll_laws.proofs.Back.{law as unrolling-law}
use Rattle.scc_core_pass_laws.proofs.Whole.{law as resolving-law}
use Rattle.scc_core_resolvable_laws.specs.Clocked.{IsClocked}
use Rattle.scc_core_resolvable_laws.specs.Fitting.{statements_fit}
use Rattle.scc_core_resolvable_laws.specs.Resolvable.{AreOwn, AreResolvable}
use Rattle.scc_core_resolvable_laws.specs.Sorted.{IsSorted}
use Rattle.scc_core_resolvable_laws.specs.Told.{IsTold}
use Rattle.scc_core_resolvable_laws.proofs.Clocked.{clocked-unrolled, statements-left}
use Rattle.scc_core_resolvable_laws.proofs.Kept.{all-unrolled, named-unrolled, sorted-unrolled, told-unrolled}
use Rattle.scc_core_resolvable_laws.proofs.Kinded.{are-kinded}
use Rattle.scc_elab_spec.specs.Design.{Design}
use Rattle.scc_elab_spec.specs.Program.{Plain}
use Rattle.scc_elab_spec.specs.Elaborated.{elaborated}
use Rattle.scc_elab_growth_laws.specs.Apart.{is_whole_plain}
use Rattle.scc_inline_spec.specs.Inlined.{copied_program}
use Rattle.scc_inline_spec.specs.Static.{inlined}
use Rattle.scc_inline_laws.specs.OrderlyDesign.{IsOrderly}
use Rattle.scc_inline_laws.proofs.Naming.{is-named}
use Rattle.scc_inline_core_laws.specs.Kinded.{is_kinded}
use Rattle.scc_inline_core_laws.proofs.LeftDesign.{laid-out}
use Rattle.scc_inline_core_laws.proofs.CopiedCore.{clocked, copies-own, resolvable, sorted, told}
use Rattle.scc_drive_compiled_laws.proofs.Joined.{law-then, copied-is}

module _ (many : Bool) (p : Plain) (d : Design) (c r : Program) (constant : Location → Option ℕ) (whole : is_whole_plain p ≡ true) (kinded : is_kinded p ≡ true) (elaborates : elaborated many p ≡ Some (Made d))
    (orderly : IsOrderly p d) (made : inlined p d ≡ Made c) where
  is : copied_program p d ≡ c
  is = sym (copied-is p d c made)

  named : IsNamed c
  named = subst IsNamed is (is-named p d orderly)

  own : AreOwn c
  own = subst AreOwn is (copies-own p d kinded)

  pub both-passes : resolved_program (unrolled_program c) ≡ Made r → Law 3 constant c r
  both-passes resolved = law-then 3 1 constant c (unrolled_program c) r (unrolling-law c constant named (are-kinded c own))
      (resolving-law (unrolled_program c) r constant (named-unrolled c named) (λ home is_home. all-unrolled c home (subst (AreResolvable home) is (resolvable p d (laid-out many p d elaborates whole) orderly kinded home is_home))) resolved)

  -- the resolved core passes the test of resolved cores where its statements fit
  pub resolves : resolved_program (unrolled_program c) ≡ Made r → statements_fit r ≡ true → IsResolved r
  resolves resolved fit =
      let laid = laid-out many p d elaborates whole in
      statements-left (unrolled_program c) r resolved (named-unrolled c named) (told-unrolled c (subst IsTold is (told p d laid orderly))) (sorted-unrolled c (subst IsSorted is (sorted p d laid orderly)))
      (clocked-unrolled c (subst IsClocked is (clocked p d laid orderly))) ∙ fit
