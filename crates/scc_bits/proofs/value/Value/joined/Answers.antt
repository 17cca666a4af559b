use Rattle.std.specs.Prelude.{◌<◌, ◌≤◌, ◌+◌, ◌^◌}
use Rattle.std.proofs.Common.{sym, ◌∙◌, subst, arith}
use Rattle.scc_bits_kinds.specs.Kinds.{width_of}
use Rattle.scc_bits.proofs.Valued.{upper_fits, parts_fit}
use Rattle.scc_bits.proofs.value.Value.joined.Goals as goal

pub concat-word-requires-clause-upper : goal.concat-word-requires-clause-upper
concat-word-requires-clause-upper c = upper_fits c.self.inside.kind c.width-3.result c.self.inside.word.bits c.self.invariant.1 (omega (arith, c.width.ensures, c.width-2.ensures, c.width-3.ensures, c.if-width-gt128.false))

pub invariant_of-result : goal.invariant_of-result
invariant_of-result c =
    let h : width_of c.self.inside.kind + width_of c.low.inside.kind ≤ 128 = omega (arith, c.width.ensures, c.width-2.ensures, c.if-width-gt128.false) in
    let fits = subst (λ n. c.concat-word.result.bits < 2 ^ (width_of c.self.inside.kind + n)) c.width-3.ensures (c.concat-word.ensures.fits (width_of c.self.inside.kind) c.self.invariant.1) in
    parts_fit c.self.inside.kind c.low.inside.kind c.in-Some.kind c.concat-word.result.bits c.self.invariant.0 c.low.invariant.0 h (sym c.concat_kind.ensures ∙ c.in-Some.is) fits
