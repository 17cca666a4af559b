use Rattle.std.proofs.Common.{◌≡◌, length}
use Rattle.scc_reading.specs.Reading.{repeat}
use Rattle.scc_reading.proofs.Loop.{before}
use Rattle.scc_svread_grammar.specs.Reader as p
use Rattle.scc_svread_raw.proofs.block.sets.Given as goal

abbrev pub invariant-loop-alloc : goal.invariant-loop-alloc
invariant-loop-alloc l = before l.found (repeat p.is_blank (p.set_line (p.inner l.levels) l.outer) l.rest) ≡ repeat p.is_blank (p.set_line (p.inner l.levels) l.outer) l.fn.ts

abbrev pub decreases-loop-alloc : goal.decreases-loop-alloc
decreases-loop-alloc l = length l.rest
