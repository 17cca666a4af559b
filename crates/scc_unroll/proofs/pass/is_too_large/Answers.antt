use Rattle.std.proofs.Common.{[]}
use Rattle.scc_core_spec.specs.Code.{size}
use Rattle.scc_core_spec.specs.Counted.{Elsewhere}
use Rattle.scc_core_spec.specs.Unrolled.{unrolled}
use Rattle.scc_core_view.specs.Codes.{code_of}
use Rattle.scc_unroll.specs.Shape.{setting_of}
use Rattle.scc_unroll_laws.proofs.Sizes.{past_all}
use Rattle.scc_unroll.proofs.pass.is_too_large.Goals as goal

pub returns : goal.returns
returns c = λ b a reads.
    let n = size (unrolled (setting_of c.args.at.now b) [] Elsewhere (code_of c.args.body.now)) in
    past_all c.is_over.result c.new-none.result c.in_ok-sum.sum 65536 n c.is_over.ensures c.new-none.ensures.count c.new-none.ensures.limit (c.in_ok-sum.ensures b a reads tt)
