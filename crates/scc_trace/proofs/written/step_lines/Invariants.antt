use Rattle.std.proofs.Common.{◌≡◌, ◌++◌, true, flat_map, take}
use Rattle.std.specs.List.{list_all}
use Rattle.scc_trace.specs.Text.{all_fit, step_text}
use Rattle.scc_trace.proofs.written.step_lines.Given as goal

abbrev pub invariant-loop-step : goal.invariant-loop-step
invariant-loop-step l = (list_all (λ s. all_fit l.ports s.words) (take l.step-index l.steps) ≡ true) × (l.out ≡ l.initial.out ++ flat_map (step_text l.ports) (take l.step-index l.steps))
