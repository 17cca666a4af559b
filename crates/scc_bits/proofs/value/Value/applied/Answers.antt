use Rattle.std.proofs.Common.{◌≡◌, Some, IfSome, sym, subst, ◌∙◌}
use Rattle.scc_bits_kinds.specs.Kinds.{Fits}
use Rattle.scc_bits.specs.Values.{kind_of}
use Rattle.scc_bits.proofs.Valued.{kind_valid}
use Rattle.scc_bits.proofs.value.Value.applied.Goals as goal

pub invariant_of-result : goal.invariant_of-result
invariant_of-result c =
    let e : kind_of c.args.op c.self.inside.kind c.b.inside.kind ≡ Some c.in-Some.kind = sym c.result_kind.ensures ∙ c.in-Some.is in
    (kind_valid c.args.op c.self.inside.kind c.b.inside.kind c.in-Some.kind c.self.invariant.0 c.b.invariant.0 e, subst (λ o. IfSome o (λ k. Fits k c.apply-word.result.bits)) e c.apply-word.ensures.fits)
