use Rattle.std.proofs.Common.{◌≡◌, ℕ, List, false, map, option_map, option_and_then, slice_get, Some, None, Err, ap, sym, ◌∙◌, subst}
use Rattle.scc_base.specs.declared.code.Code.TheVariants as reason
use Rattle.scc_base.specs.declared.refusal.Stop.{Stop}
use Rattle.scc_core_spec.specs.First.{refused}
use Rattle.scc_elab_spec.specs.Elaborated.{bad_top, other_param}
use Rattle.scc_plain_view.specs.Plains.{plain_of, member_of}
use Rattle.scc_plain_tree.specs.declared.program.PlainMember.{PlainMember}
use Rattle.scc_elab_checks.specs.Open.{Tells}
use Rattle.scc_elab_checks.proofs.Parameters.{top_says}
use Rattle.scc_elab_checks.proofs.top.check_top.Goals as goal

same : (n : ℕ) (ms ks : List PlainMember) → ks ≡ ms → option_map (refused reason.Constructor) (other_param n false (map member_of ms)) ≡ option_map (refused reason.Constructor) (other_param n false (map member_of ks))
same n ms ks e = ap (λ z. option_map (refused reason.Constructor) (other_param n false (map member_of z))) (sym e)

pub returns-in-Some-first_other : goal.returns-in-Some-first_other
returns-in-Some-first_other c =
    let e = top_says c.args.p.now c.in-Some.class.now c.in-Some-get.function.now c.in-Some-constructor.number (sym c.in-Some.ensures.element) c.in-Some-constructor.is (sym c.in-Some-get.ensures.element) in
    subst (λ (z : Stop). Tells {A = Unit {0}} (option_and_then (bad_top (plain_of c.args.p.now)) (slice_get (plain_of c.args.p.now).classes c.args.p.now.top)) (Err z)) (sym c.refused.ensures) (e ∙ same c.in-Some-get.function.now.params c.in-Some-get.function.now.locals c.as_slice.result.now c.as_slice.ensures.elements ∙ ap (option_map (refused reason.Constructor)) (sym c.in-Some-first_other.ensures))

pub returns-in-None : goal.returns-in-None
returns-in-None c =
    let e = top_says c.args.p.now c.in-Some.class.now c.in-Some-get.function.now c.in-Some-constructor.number (sym c.in-Some.ensures.element) c.in-Some-constructor.is (sym c.in-Some-get.ensures.element) in
    e ∙ same c.in-Some-get.function.now.params c.in-Some-get.function.now.locals c.as_slice.result.now c.as_slice.ensures.elements ∙ ap (option_map (refused reason.Constructor)) (sym c.in-None.ensures)
