use Rattle.std.proofs.Common.{sym, ap, ◌∙◌, arith, ◌+◌, ◌<◌, ◌||◌, length, drop, [], ◌∷◌}
use Rattle.std.proofs.lemmas.List.{drop_all}
use Rattle.scc_core_spec.specs.Code.{holds_wait}
use Rattle.scc_core_view.specs.Codes.{code_of}
use Rattle.scc_unroll_laws.proofs.Heads.{waits_here}
use Rattle.scc_unroll_laws.proofs.Sums.{or_step, none_behind}
use Rattle.scc_unroll.proofs.shape.+waits.Goals as goal

pub holds_wait-loop-s-preserved : goal.holds_wait-loop-s-preserved
holds_wait-loop-s-preserved t c =
    let i : c.loop-s.s-index < length c.args.body.now = omega arith in
    or_step c.loop-s.found c.waits_in-here.result _ (holds_wait (code_of (c.s-item.result ∷ []))) (holds_wait (code_of (drop (c.loop-s.s-index + 1) c.args.body.now))) (holds_wait (code_of (drop c.loop-s.s-index c.args.body.now))) _
    c.either-found.ensures c.waits_in-here.ensures (waits_here c.args.body.now c.loop-s.s-index c.s-item.result i c.s-item.is) c.loop-s.invariant

pub holds_wait-returns : goal.holds_wait-returns
holds_wait-returns t c =
    let none = drop_all c.loop-s.s-index c.args.body.now (omega arith) in
    none_behind c.loop-s.found _ (ap (λ ss. c.loop-s.found || holds_wait (code_of ss)) (sym none) ∙ c.loop-s.invariant)
