use Rattle.std.proofs.Common.{◌≡◌, ◌<◌, ◌≤◌, ◌∙◌, ap, sym, true, length, map, arith}
use Rattle.std.specs.List.{list_all}
use Rattle.scc_core_view.specs.Programs.{cell_of, process_of}
use Rattle.scc_core_look.specs.Fits.{body_fits}
use Rattle.scc_core_look.proofs.Alike.{all-on, taken-whole}
use Rattle.scc_core_look.proofs.whole.bodies_fit.Goals as goal

pub loop-process-preserved : goal.loop-process-preserved
loop-process-preserved c = λ vectors table apart names whole covered.
    let h : c.loop-process.process-index < length c.args.processes.now = omega arith in
    all-on (body_fits (map cell_of c.args.cells.now)) process_of c.args.processes.now c.loop-process.process-index c.process-item.result h c.process-item.is c.loop-process.fit c.in_ok-body_fits.field-0 c.both-fit.result
    (c.loop-process.invariant vectors table apart names whole covered) (c.in_ok-body_fits.ensures vectors table apart names whole covered) c.both-fit.ensures

pub returns : goal.returns
returns c = λ vectors table apart names whole covered e.
    let h : length c.args.processes.now ≤ c.loop-process.process-index = omega arith in
    ap (λ xs. list_all (body_fits (map cell_of c.args.cells.now)) (map process_of xs)) (sym (taken-whole c.args.processes.now c.loop-process.process-index h)) ∙ c.loop-process.invariant vectors table apart names whole covered e
