use Rattle.std.proofs.Common.{subst}
use Rattle.std.proofs.lemmas.Result.{err_from_is_err_and}
use Rattle.scc_drive.specs.Stops.{IsLater}
use Rattle.scc_drive.proofs.Compiled.{forming_stops, forming_writes}
use Rattle.scc_drive.proofs.compile.in_form.Goals as goal

pub returns-in-Ok : goal.returns-in-Ok
returns-in-Ok c = forming_writes c.args.top.now c.args.read.now c.requires c.args.form c.in-Ok.text c.in-Ok.ensures

pub returns-in_err-front : goal.returns-in_err-front
returns-in_err-front c =
    let p = err_from_is_err_and c.from_residual.result c.from_residual.ensures.1 in
    rw (p.1, p.2) (forming_stops c.args.top.now c.args.read.now c.requires c.args.form _ (subst (λ b. IsLater b c.args.read.now.sources c.in_err-front.field-0.0) c.has_clocks.ensures c.in_err-front.ensures))
