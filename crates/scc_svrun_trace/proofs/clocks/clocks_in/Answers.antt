use Rattle.std.proofs.Common.{sym, ap, ◌∙◌}
use Rattle.std.specs.Prelude.{option_map}
use Rattle.scc_svtree.specs.Steps as steps
use Rattle.scc_svrun_trace.specs.Clocked as clocked
use Rattle.scc_svrun_trace.proofs.Listed.{other_is_next}
use Rattle.scc_svrun_trace.proofs.clocks.clocks_in.Goals as goal

pub loop-n-preserved : goal.loop-n-preserved
loop-n-preserved c =
    let m = c.args.m.now in
    other_is_next (steps.is_clock m.blocks) c.args.vars.now c.loop-n.n c.index-vars-n.result c.loop-n-test.true c.index-vars-n.is c.loop-n.rest.now c.loop-n.list (clocked.clocks_of m) c.loop-n.invariant c.in-Some.more.now
    (sym c.is_input.ensures ∙ c.if-not-is_input.false) (sym c.behind.ensures ∙ ap (λ o. option_map (λ r. r.now) o) c.in-Some.is)
