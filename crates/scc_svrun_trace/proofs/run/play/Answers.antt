use Rattle.std.proofs.Common.{◌∙◌, ◌+◌, ◌∷◌, List, drop, subst}
use Rattle.scc_svtree.specs.Variables.{word_at}
use Rattle.scc_trace.specs.declared.stim.StimStep.{StimStep}
use Rattle.scc_svrun_trace.specs.Trace.{input_of, AreAllHanded}
use Rattle.scc_svrun_trace.proofs.Turning.{front, turn_at}
use Rattle.scc_svrun_trace.proofs.run.play.Goals as goal

pub loop-number-preserved : goal.loop-number-preserved
loop-number-preserved c =
    let ss = c.args.steps.now in
    let n = c.loop-number.number in
    let s = c.index-steps-number.result in
    let m = c.args.runner.now.top in
    let P : List StimStep → Type 0 = λ l. AreAllHanded m l in
    let handed : AreAllHanded m (s ∷ drop (n + 1) ss) = subst P (front StimStep ss n s c.loop-number-test.true c.index-steps-number.is) c.loop-number.invariant.fitting in
    record {
      same = c.turn.ensures.same ∙ c.loop-number.invariant.same;
      fitting = handed.1;
      more = λ new a. c.loop-number.invariant.more new
          (turn_at StimStep input_of ss n s c.loop-number-test.true c.index-steps-number.is m c.loop-number.runner.top (word_at c.loop-number.runner.words) (word_at c.turn.new.runner.words)
          c.loop-number.out c.turn.new.out new c.loop-number.invariant.same c.in_ok-turn.ensures.turned a);
    }
