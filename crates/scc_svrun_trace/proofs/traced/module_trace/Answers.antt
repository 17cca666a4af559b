use Rattle.std.proofs.Common.{◌≡◌, ◌++◌, List, true, map, sym, ap, ◌∙◌, subst}
use Rattle.std.specs.Prelude.{Ok}
use Rattle.scc_svtree.specs.declared.module.SvModule.{SvModule}
use Rattle.scc_svtree.specs.Variables.{word_at}
use Rattle.scc_svrun.specs.Runs.{inputs_of}
use Rattle.scc_trace.specs.declared.stim.StimPort.{StimPort}
use Rattle.scc_trace.specs.declared.stim.StimStep.{StimStep}
use Rattle.scc_trace.specs.Stimulus.{stim_of}
use Rattle.scc_svrun_trace.specs.Ports.{port_of, in_ports}
use Rattle.scc_svrun_trace.specs.Trace.{input_of, AreAllHanded}
use Rattle.scc_svrun_trace.proofs.Handed.{stimulus_fits}
use Rattle.scc_svrun_trace.proofs.Turning.{shown_from_zero}
use Rattle.scc_svrun_trace.proofs.traced.module_trace.Goals as goal

pub play-requires-clause-fitting : goal.play-requires-clause-fitting
play-requires-clause-fitting c =
    let m = c.args.m.now in
    let ports : c.as_slice.result.now ≡ in_ports m = c.as_slice.ensures.elements ∙ c.in_ok-inputs.ensures ∙ ap (λ l. map (port_of m) l) (c.inputs.ensures ∙ ap (λ k. inputs_of k) c.in_ok-runner.ensures.same) in
    let P : List StimPort → Type 0 = λ p. stim_of c.args.file p c.args.bytes.now ≡ Ok c.in_ok-steps.steps in
    let Q : SvModule → Type 0 = λ k. AreAllHanded k c.as_slice-2.result.now in
    let R : List StimStep → Type 0 = λ l. AreAllHanded m l in
    subst Q (sym c.in_ok-runner.ensures.same) (subst R (sym c.as_slice-2.ensures.elements) (stimulus_fits true m c.args.file c.args.bytes.now c.in_ok-steps.steps c.requires.sound (subst P ports c.in_ok-steps.ensures)))

pub returns-clause-trace : goal.returns-clause-trace
returns-clause-trace c =
    let m = c.args.m.now in
    let ports : c.as_slice.result.now ≡ in_ports m = c.as_slice.ensures.elements ∙ c.in_ok-inputs.ensures ∙ ap (λ l. map (port_of m) l) (c.inputs.ensures ∙ ap (λ k. inputs_of k) c.in_ok-runner.ensures.same) in
    let P : List StimPort → Type 0 = λ p. stim_of c.args.file p c.args.bytes.now ≡ Ok c.in_ok-steps.steps in
    let a = shown_from_zero StimStep input_of m c.in_ok-runner.runner.top (word_at c.in_ok-runner.runner.words) c.in_ok-steps.steps c.as_slice-2.result.now c.in_ok-out.out c.play.new.out
    c.in_ok-runner.ensures.same c.in_ok-runner.ensures.zero c.as_slice-2.ensures.elements c.in_ok-play.ensures in
    record {
      steps = c.in_ok-steps.steps;
      said = subst P ports c.in_ok-steps.ensures;
      version = c.in-Some.version;
      named = sym c.version.ensures ∙ c.in-Some.is;
      lines = a.text;
      shown = a.shown;
      whole = a.behind ∙ ap (λ b. b ++ a.text) (c.in_ok-out.ensures.bytes ∙ c.header.ensures);
    }
