use Rattle.std.proofs.Common.{arith, length}
use Rattle.scc_elab_spec.specs.Made.{built}
use Rattle.scc_elab_growth_laws.proofs.Keeping.{to-growth}
use Rattle.scc_elab_growth_laws.proofs.Placing.{IsPlace, Solid}
use Rattle.scc_elab_growth_laws.proofs.Objects.{built-same}
use Rattle.scc_elab_growth_laws.proofs.laws.construction_changes.Goals as goal

pub returns : goal.returns
returns c p n m g path place k a b high turns args =
    let z = built-same p n m (length g.objects) a b g path place k args (record { low = omega arith; high = high; least = omega arith; most = turns }) in
    (z.0, to-growth p (IsPlace g path) (Solid path) g (built p n g path place k args) z.1)
