use Rattle.std.proofs.Common.{[], drop}
use Rattle.scc_inline_cells.specs.Homes.{AreHomes}
use Rattle.scc_inline_cells.proofs.Inside.{Filled}
use Rattle.scc_inline_cells.proofs.homes.Homes.fill.Given as goal

abbrev pub invariant-loop-object : goal.invariant-loop-object
invariant-loop-object l = AreHomes l.initial.self [] → Filled l.self (drop l.object-index l.objects) l.objects
