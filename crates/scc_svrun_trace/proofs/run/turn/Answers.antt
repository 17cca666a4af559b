use Rattle.std.proofs.Common.{List, subst}
use Rattle.scc_bits_kinds.specs.declared.kind.Word.{Word}
use Rattle.scc_svtree.specs.Steps.{IsSettledStep}
use Rattle.scc_svtree.specs.Variables.{word_at}
use Rattle.scc_svrun.specs.Runs.{given}
use Rattle.scc_svrun_trace.specs.Trace.{input_of}
use Rattle.scc_svrun_trace.proofs.Turning.{held, edged}
use Rattle.scc_svrun_trace.proofs.run.turn.Goals as goal

pub returns-in_ok-line-2-clause-turned : goal.returns-in_ok-line-2-clause-turned
returns-in_ok-line-2-clause-turned c =
    let m = c.args.runner.now.top in
    let x = word_at c.args.runner.now.words in
    let y = word_at c.settle.new.self.words in
    let P : List Word → Type 0 = λ ws. IsSettledStep m (given m ws) x y in
    edged m c.args.number (input_of m c.args.step.now) x y (subst P c.as_slice.ensures.elements c.settle.ensures.step) c.settle.new.self.top c.edge.new.self.top (word_at c.edge.new.self.words)
    c.args.out.now c.line.new.out c.line-then-step.new.out c.if-step.true c.settle.ensures.same c.in_ok-line.ensures c.edge.ensures.step c.edge.ensures.same c.in_ok-line-2.ensures

pub returns-else-step-clause-turned : goal.returns-else-step-clause-turned
returns-else-step-clause-turned c =
    let m = c.args.runner.now.top in
    let x = word_at c.args.runner.now.words in
    let y = word_at c.settle.new.self.words in
    let P : List Word → Type 0 = λ ws. IsSettledStep m (given m ws) x y in
    held m c.args.number (input_of m c.args.step.now) x y (subst P c.as_slice.ensures.elements c.settle.ensures.step) c.settle.new.self.top
    c.args.out.now c.line.new.out c.if-step.false c.settle.ensures.same c.in_ok-line.ensures
