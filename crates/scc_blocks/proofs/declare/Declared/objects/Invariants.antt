use Rattle.std.proofs.Common.{◌≡◌}
use Rattle.scc_blocks.specs.Declaring.{AddsInner, wants_of}
use Rattle.scc_blocks.proofs.declare.Declared.objects.Given as goal

abbrev pub invariant-loop-cell : goal.invariant-loop-cell
invariant-loop-cell l = (l.self.own.items ≡ l.initial.self.own.items) × AddsInner (wants_of l.names l.c.cells) l.initial.self l.self
