use Rattle.std.proofs.Common.{◌≡◌, ◌++◌, List, true, sym, ap, ◌∙◌, subst}
use Rattle.scc_svtree.specs.declared.module.SvModule.{SvModule}
use Rattle.scc_svtree.specs.Variables.{word_at}
use Rattle.scc_trace.specs.declared.stim.ClockStep.{ClockStep}
use Rattle.scc_svrun_trace.specs.Clocked.{clock_names, input_of, AreAllHanded}
use Rattle.scc_svrun_trace.proofs.Masked.{clocked_fits}
use Rattle.scc_svrun_trace.proofs.Turning.{shown_from_zero}
use Rattle.scc_svrun_trace.proofs.clocked.clocked_trace.Goals as goal

pub play-requires-clause-fitting : goal.play-requires-clause-fitting
play-requires-clause-fitting c =
    let m = c.args.m.now in
    let Q : SvModule → Type 0 = λ k. AreAllHanded k c.as_slice-3.result.now in
    let R : List ClockStep → Type 0 = λ l. AreAllHanded m l in
    subst Q (sym c.in_ok-runner.ensures.same) (subst R (sym c.as_slice-3.ensures.elements) (clocked_fits true m c.args.file (clock_names m) c.args.bytes.now c.in_ok-steps.steps c.requires.sound c.in_ok-steps.ensures))

pub returns-clause-trace : goal.returns-clause-trace
returns-clause-trace c =
    let m = c.args.m.now in
    let a = shown_from_zero ClockStep input_of m c.in_ok-runner.runner.top (word_at c.in_ok-runner.runner.words) c.in_ok-steps.steps c.as_slice-3.result.now c.in_ok-out.out c.play.new.out
    c.in_ok-runner.ensures.same c.in_ok-runner.ensures.zero c.as_slice-3.ensures.elements c.in_ok-play.ensures in
    record {
      steps = c.in_ok-steps.steps;
      said = c.in_ok-steps.ensures;
      lines = a.text;
      shown = a.shown;
      whole = a.behind ∙ ap (λ b. b ++ a.text) (c.in_ok-out.ensures.bytes ∙ c.header.ensures);
    }
