use Rattle.std.proofs.Common.{◌≡◌, length, false}
use Rattle.scc_reading.specs.Reading.{repeat_in}
use Rattle.scc_reading.proofs.Loop.{before_in}
use Rattle.scc_svread_grammar.specs.Reader as p
use Rattle.scc_svread_raw.proofs.module.items.Given as goal

abbrev pub invariant-loop-alloc : goal.invariant-loop-alloc
invariant-loop-alloc l = before_in l.found (repeat_in (λ _ b. p.is_blank b) (p.item (p.inner l.levels)) l.begun l.rest) ≡ repeat_in (λ _ b. p.is_blank b) (p.item (p.inner l.levels)) false l.fn.ts

abbrev pub decreases-loop-alloc : goal.decreases-loop-alloc
decreases-loop-alloc l = length l.rest
