use Rattle.std.proofs.Common.{◌≡◌, ◌+◌, length}
use Rattle.scc_blocks.specs.Declaring.{AddsAny, AreTemporaries}
use Rattle.scc_blocks.proofs.declare.Declared.temporaries.Given as goal

abbrev pub invariant-loop-width : goal.invariant-loop-width
invariant-loop-width l = (l.self.own.items ≡ l.initial.self.own.items) × AddsAny l.initial.self l.self × (length l.ids.items ≡ l.width-index) × (l.number ≡ l.first + length l.ids.items)
    × AreTemporaries l.names l.process l.first l.widths l.assigned l.self.vars l.ids.items
