use Rattle.std.proofs.Common.{[], subst}
use Rattle.scc_core.specs.Tables.{IsTable}
use Rattle.scc_core.proofs.places.Places.of.Goals as goal

pub returns : goal.returns
returns c =
    subst (IsTable c.fill_vectors.new.self c.args.cells.now) c.as_slice-2.ensures.elements
    (c.in_ok-fill_vectors.ensures c.args.cells.now (subst (λ l. IsTable c.fill.new.self l []) c.as_slice.ensures.elements (c.in_ok-fill.ensures c.in_ok-places.ensures)))
