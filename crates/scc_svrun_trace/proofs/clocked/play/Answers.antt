use Rattle.std.proofs.Common.{◌≡◌, ◌∙◌, ◌+◌, ◌∷◌, List, drop, sym, ap, subst}
use Rattle.scc_svtree.specs.declared.expr.VarId.{VarId}
use Rattle.scc_svtree.specs.Variables.{word_at}
use Rattle.scc_trace.specs.declared.stim.ClockStep.{ClockStep}
use Rattle.scc_svrun_trace.specs.Trace.{Turned}
use Rattle.scc_svrun_trace.specs.Clocked.{clocks_of, chosen, edges_of, input_of, AreAllHanded}
use Rattle.scc_svrun_trace.proofs.Turning.{front, turn_at}
use Rattle.scc_svrun_trace.proofs.clocked.play.Goals as goal

pub loop-number-preserved : goal.loop-number-preserved
loop-number-preserved c =
    let ss = c.args.steps.now in
    let n = c.loop-number.number in
    let s = c.index-steps-number.result in
    let m = c.args.runner.now.top in
    let o = c.loop-number.runner.top in
    let x = word_at c.loop-number.runner.words in
    let z = word_at c.turn.new.runner.words in
    let P : List ClockStep → Type 0 = λ l. AreAllHanded m l in
    let handed : AreAllHanded m (s ∷ drop (n + 1) ss) = subst P (front ClockStep ss n s c.loop-number-test.true c.index-steps-number.is) c.loop-number.invariant.fitting in
    let edges : c.as_slice.result.now ≡ chosen (clocks_of o) s.mask.bits =
    c.as_slice.ensures.elements ∙ c.in_ok-edges.ensures ∙ ap (λ k. chosen k s.mask.bits) (c.requires.clocks ∙ ap (λ k. clocks_of k) (sym c.loop-number.invariant.same)) in
    let Q : List VarId → Type 0 = λ l. Turned o n (edges_of o s l) x z c.loop-number.out c.turn.new.out in
    record {
      same = c.turn.ensures.same ∙ c.loop-number.invariant.same;
      fitting = handed.1;
      more = λ new a. c.loop-number.invariant.more new
          (turn_at ClockStep input_of ss n s c.loop-number-test.true c.index-steps-number.is m o x z c.loop-number.out c.turn.new.out new c.loop-number.invariant.same (subst Q edges c.in_ok-turn.ensures.turned) a);
    }
