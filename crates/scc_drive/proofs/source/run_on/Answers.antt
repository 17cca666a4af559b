use Rattle.std.proofs.Common.{subst}
use Rattle.std.proofs.lemmas.Result.{err_from_is_err_and}
use Rattle.scc_drive.specs.CommandOutcome.{has_clocks, reads}
use Rattle.scc_drive.specs.Outcome.{simulating}
use Rattle.scc_drive.specs.Stages.{ReadOutcome}
use Rattle.scc_drive.specs.Stops.{IsLater}
use Rattle.scc_drive.proofs.Wider.{simulating_stops, simulating_stimulated, stimulus_lacks, stimulus_gives}
use Rattle.scc_drive.proofs.source.run_on.Goals as goal

pub returns-in_err-front : goal.returns-in_err-front
returns-in_err-front g c =
    let p = err_from_is_err_and c.from_residual.result c.from_residual.ensures.1 in
    rw (p.1, p.2) (simulating_stops (ReadOutcome (simulating (has_clocks c.args.way) c.args.name.now) c.args.top.now c.args.read.now) c.args.top.now c.args.name.now (has_clocks c.args.way) c.args.read.now.sources
    (reads c.args.read.now.tree c.requires) _ _ _ _ _ _ (subst (λ b. IsLater b c.args.read.now.sources c.in_err-front.field-0.0) c.has_clocks.ensures c.in_err-front.ensures))

pub returns-in_err-stimulus : goal.returns-in_err-stimulus
returns-in_err-stimulus g c =
    let p = err_from_is_err_and c.from_residual-in_err-stimulus.result c.from_residual-in_err-stimulus.ensures.1 in
    rw (p.1, p.2) (stimulus_lacks (ReadOutcome (simulating (has_clocks c.args.way) c.args.name.now) c.args.top.now c.args.read.now) c.args.top.now c.args.name.now (simulating (has_clocks c.args.way) c.args.name.now) c.args.read.now.sources
    (simulating_stimulated (has_clocks c.args.way) c.args.name.now c.args.top.now c.args.read.now.sources) (reads c.args.read.now.tree c.requires) _ _ _ _ _ _ c.in_err-stimulus.ensures.asked)

pub returns : goal.returns
returns g c = stimulus_gives (ReadOutcome (simulating (has_clocks c.args.way) c.args.name.now) c.args.top.now c.args.read.now) c.args.top.now c.args.name.now (simulating (has_clocks c.args.way) c.args.name.now) c.args.read.now.sources
    (simulating_stimulated (has_clocks c.args.way) c.args.name.now c.args.top.now c.args.read.now.sources) (reads c.args.read.now.tree c.requires) _ _ _ _ _ _ c.trace_of.result c.in_ok-stimulus.ensures.asked.0 c.trace_of.ensures
