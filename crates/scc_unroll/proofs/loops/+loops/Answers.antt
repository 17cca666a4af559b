use Rattle.std.proofs.Common.{sym, ap, ◌∙◌, arith, ◌+◌, ◌<◌, ◌||◌, length, drop, [], ◌∷◌}
use Rattle.std.proofs.lemmas.List.{drop_all}
use Rattle.scc_unroll_laws.specs.Heads.{has_loops}
use Rattle.scc_core_view.specs.Codes.{code_of}
use Rattle.scc_unroll_laws.proofs.Heads.{loops_here}
use Rattle.scc_unroll_laws.proofs.Sums.{or_step, none_behind}
use Rattle.scc_unroll.proofs.loops.+loops.Goals as goal

pub has_loops-loop-s-preserved : goal.has_loops-loop-s-preserved
has_loops-loop-s-preserved t c =
    let i : c.loop-s.s-index < length c.args.body.now = omega arith in
    or_step c.loop-s.found c.loops_in-here.result _ (has_loops (code_of (c.s-item.result ∷ []))) (has_loops (code_of (drop (c.loop-s.s-index + 1) c.args.body.now))) (has_loops (code_of (drop c.loop-s.s-index c.args.body.now))) _
    c.either-found.ensures c.loops_in-here.ensures (loops_here c.args.body.now c.loop-s.s-index c.s-item.result i c.s-item.is) c.loop-s.invariant

pub has_loops-returns : goal.has_loops-returns
has_loops-returns t c =
    let none = drop_all c.loop-s.s-index c.args.body.now (omega arith) in
    none_behind c.loop-s.found _ (ap (λ ss. c.loop-s.found || has_loops (code_of ss)) (sym none) ∙ c.loop-s.invariant)
