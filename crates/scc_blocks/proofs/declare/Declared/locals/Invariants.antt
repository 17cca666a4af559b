use Rattle.std.proofs.Common.{◌≡◌}
use Rattle.scc_blocks.specs.Declaring.{AddsInner, wants_of}
use Rattle.scc_blocks.proofs.declare.Declared.locals.Given as goal

abbrev pub invariant-loop-at : goal.invariant-loop-at
invariant-loop-at l = (l.self.own.items ≡ l.initial.self.own.items) × AddsInner (wants_of l.names l.cells) l.initial.self l.self
