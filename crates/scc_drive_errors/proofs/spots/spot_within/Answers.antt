use Rattle.std.proofs.Common.{rules}
use Rattle.scc_drive_errors.proofs.Within.{spots_within}
use Rattle.scc_drive_errors.proofs.spots.spot_within.Goals as goal

pub returns : goal.returns
returns c = record { spot = spots_within c.args.source.now c.args.at (search rules) c.spot_in.result c.spot_in.ensures.spot }
