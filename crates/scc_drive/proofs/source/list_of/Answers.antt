use Rattle.std.proofs.lemmas.Result.{err_from_is_err_and}
use Rattle.scc_drive.proofs.Compiled.{listing_stops, listing_writes}
use Rattle.scc_drive.proofs.source.list_of.Goals as goal

pub returns-in-Ok : goal.returns-in-Ok
returns-in-Ok c = listing_writes c.args.top.now c.args.read.now c.requires c.in-Ok.text

pub returns-in_err-front : goal.returns-in_err-front
returns-in_err-front c =
    let p = err_from_is_err_and c.from_residual.result c.from_residual.ensures.1 in
    rw (p.1, p.2) (listing_stops c.args.top.now c.args.read.now c.requires _ c.in_err-front.ensures)
