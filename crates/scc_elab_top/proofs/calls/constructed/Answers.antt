use Rattle.std.proofs.Common.{sym}
use Rattle.scc_elab_top.proofs.Tops.{elaborated_is}
use Rattle.scc_elab_top.proofs.calls.constructed.Goals as goal

pub returns-in-Some : goal.returns-in-Some
returns-in-Some c = elaborated_is c.args.many c.args.p.now c.in-Some.c.now c.from_top.result (sym c.in-Some.ensures) c.from_top.ensures
