use Rattle.std.proofs.Common.{◌≡◌, map, option_map}
use Rattle.scc_core_spec.specs.Counted.{turns_from}
use Rattle.scc_unroll_laws.specs.Counters.{counters_of}
use Rattle.scc_unroll.specs.Shape.{cells_at, counting_of, turned}
use Rattle.scc_unroll.specs.Turns.{IsTold, put, turn_of}
use Rattle.scc_unroll.proofs.turns.turns_by.Given as goal

abbrev pub decreases-loop-left : goal.decreases-loop-left
decreases-loop-left l = l.left

abbrev pub invariant-loop-left : goal.invariant-loop-left
invariant-loop-left l = IsTold l.at l.around l.of → put (map turn_of l.list) (turns_from (cells_at l.at) (counters_of l.around) l.of.cell (turned l.of.turning) l.left (option_map (λ w. w.bits) l.now)) ≡ (counting_of (cells_at l.at) (counters_of l.around) l.of).turns
