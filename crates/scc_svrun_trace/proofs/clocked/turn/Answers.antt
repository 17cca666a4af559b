use Rattle.std.proofs.Common.{◌≡◌, List, true, false, nat_eq, length, sym, ◌∙◌, subst}
use Rattle.scc_bits_kinds.specs.declared.kind.Word.{Word}
use Rattle.scc_svtree.specs.Steps.{IsSettledStep}
use Rattle.scc_svtree.specs.Variables.{word_at}
use Rattle.scc_svrun.specs.Runs.{given}
use Rattle.scc_svrun_trace.specs.Clocked.{edges_of}
use Rattle.scc_svrun_trace.proofs.Listed.{some_any, some_longer, none_any}
use Rattle.scc_svrun_trace.proofs.Turning.{held, edged}
use Rattle.scc_svrun_trace.proofs.clocked.turn.Goals as goal

pub returns-in_ok-line-2-clause-turned : goal.returns-in_ok-line-2-clause-turned
returns-in_ok-line-2-clause-turned c =
    let m = c.args.runner.now.top in
    let x = word_at c.args.runner.now.words in
    let y = word_at c.settle.new.self.words in
    let cs = c.args.clocks.now in
    let P : List Word → Type 0 = λ ws. IsSettledStep m (given m ws) x y in
    let some : nat_eq (length cs) 0 ≡ false = sym c.is_empty.ensures ∙ c.if-not-is_empty.true in
    edged m c.args.number (edges_of m c.args.step.now cs) x y (subst P c.as_slice.ensures.elements c.settle.ensures.step) c.settle.new.self.top c.edge_of.new.self.top (word_at c.edge_of.new.self.words)
    c.args.out.now c.line.new.out c.line-then-not-is_empty.new.out (some_any cs some) c.settle.ensures.same c.in_ok-line.ensures (c.edge_of.ensures.step (some_longer cs some)) c.edge_of.ensures.same c.in_ok-line-2.ensures

pub returns-else-not-is_empty-clause-turned : goal.returns-else-not-is_empty-clause-turned
returns-else-not-is_empty-clause-turned c =
    let m = c.args.runner.now.top in
    let x = word_at c.args.runner.now.words in
    let y = word_at c.settle.new.self.words in
    let cs = c.args.clocks.now in
    let P : List Word → Type 0 = λ ws. IsSettledStep m (given m ws) x y in
    let none : nat_eq (length cs) 0 ≡ true = sym c.is_empty.ensures ∙ c.if-not-is_empty.false in
    held m c.args.number (edges_of m c.args.step.now cs) x y (subst P c.as_slice.ensures.elements c.settle.ensures.step) c.settle.new.self.top
    c.args.out.now c.line.new.out (none_any cs none) c.settle.ensures.same c.in_ok-line.ensures
