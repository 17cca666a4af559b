use Rattle.std.proofs.Common.{sym, ◌∙◌}
use Rattle.scc_elab_spec.specs.After.{unbound}
use Rattle.scc_elab_grown.specs.Grown.{grown_of}
use Rattle.scc_elab_ports.specs.Unbound.{unbound_at}
use Rattle.scc_elab_ports.proofs.Numbered.{passed, says_first}
use Rattle.scc_elab_ports.proofs.unbound.check_ports.Goals as goal

pub loop-number-preserved : goal.loop-number-preserved
loop-number-preserved c = c.loop-number.invariant ∙ passed (unbound_at (grown_of c.args.g.now)) c.args.g.now.objects c.loop-number.number c.in-Some.object.now (sym c.in-Some.ensures) c.in_default-check_port.ensures

pub returns-in-Err : goal.returns-in-Err
returns-in-Err c = says_first (unbound_at (grown_of c.args.g.now)) c.args.g.now.objects c.loop-number.number c.in-Some.object.now (sym c.in-Some.ensures) c.in-Err.stop (unbound (grown_of c.args.g.now)) c.loop-number.invariant c.in-Err.ensures
