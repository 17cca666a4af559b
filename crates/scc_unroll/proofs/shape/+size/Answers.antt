use Rattle.std.proofs.Common.{sym, ap, ◌∙◌, arith, ◌+◌, ◌<◌, length, drop, [], ◌∷◌}
use Rattle.std.proofs.lemmas.List.{drop_all}
use Rattle.scc_core_spec.specs.Code.{size}
use Rattle.scc_core_view.specs.Codes.{code_of}
use Rattle.scc_unroll_laws.proofs.Heads.{size_here}
use Rattle.scc_unroll_laws.proofs.Sums.{sum_step, nothing_left}
use Rattle.scc_unroll.proofs.shape.+size.Goals as goal

pub size_of-loop-s-preserved : goal.size_of-loop-s-preserved
size_of-loop-s-preserved t c =
    let i : c.loop-s.s-index < length c.args.body.now = omega arith in
    sum_step c.loop-s.sum c.in_ok-here.here _ (size (code_of (c.s-item.result ∷ []))) (size (code_of (drop (c.loop-s.s-index + 1) c.args.body.now))) (size (code_of (drop c.loop-s.s-index c.args.body.now))) _
    c.in_ok-sum.ensures c.in_ok-here.ensures (size_here c.args.body.now c.loop-s.s-index c.s-item.result i c.s-item.is) c.loop-s.invariant

pub size_of-returns : goal.size_of-returns
size_of-returns t c =
    let none = drop_all c.loop-s.s-index c.args.body.now (omega arith) in
    nothing_left c.loop-s.sum _ (ap (λ ss. c.loop-s.sum + size (code_of ss)) (sym none) ∙ c.loop-s.invariant)
