use Rattle.std.proofs.Common.{◌≡◌, take}
use Rattle.scc_blocks.specs.Declaring.{Adds, ports_of, wants_of}
use Rattle.scc_blocks.proofs.declare.Declared.ports.Given as goal

abbrev pub invariant-loop-cell : goal.invariant-loop-cell
invariant-loop-cell l = (l.at ≡ l.cell-index) × (l.self.own.items ≡ l.initial.self.own.items) × Adds (wants_of l.names l.c.cells) (ports_of l.names (take l.cell-index l.c.cells)) l.initial.self l.self
