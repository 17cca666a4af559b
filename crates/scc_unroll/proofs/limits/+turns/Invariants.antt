use Rattle.std.proofs.Common.{◌≡◌, drop, map}
use Rattle.std.specs.Prelude.{flat_map}
use Rattle.scc_core_spec.specs.Code.{Code}
use Rattle.scc_core_spec.specs.Unrolled.{run_turns}
use Rattle.scc_core_view.specs.Codes.{code_of}
use Rattle.scc_unroll.specs.Shape.{StandIsRead, Around, setting_of, stand_of}
use Rattle.scc_unroll_asked.specs.Asked.{AreRead, asked}
use Rattle.scc_unroll.specs.Budgets.{after, budget_of, turn_spots}
use Rattle.scc_unroll_laws.specs.Counters.{counters_of}
use Rattle.scc_unroll.specs.Spots.{spot_of}
use Rattle.scc_unroll.specs.Turns.{turn_of}
use Rattle.scc_unroll.proofs.limits.+turns.Given as goal

abbrev pub invariant-count_turns-loop-s : goal.invariant-count_turns-loop-s
invariant-count_turns-loop-s l =
    (l.count ≡ l.s-index)
    × ((b : Code) → Around l.at b l.counters → AreRead l.at.known (asked l.body) → StandIsRead l.at.known l.initial.stand
    → AreRead l.at.known (asked (drop l.s-index l.body))
    × StandIsRead l.at.known l.stand
    × (after (budget_of l.budget) (run_turns (setting_of l.at b) (counters_of l.counters) (stand_of l.stand) l.number (code_of (drop l.s-index l.body)))
    ≡ after (budget_of l.initial.budget) (run_turns (setting_of l.at b) (counters_of l.counters) (stand_of l.initial.stand) l.initial.number (code_of l.body))))

abbrev pub invariant-turns_of_loop-loop-turn : goal.invariant-turns_of_loop-loop-turn
invariant-turns_of_loop-loop-turn l =
    (b : Code) → Around l.at b l.counters → AreRead l.at.known (asked l.body)
    → after (budget_of l.budget) (flat_map (turn_spots (setting_of l.at b) (counters_of l.counters) l.cell (spot_of l.spot) (code_of l.body)) (map turn_of (drop l.turn-index l.list)))
    ≡ after (budget_of l.initial.budget) (flat_map (turn_spots (setting_of l.at b) (counters_of l.counters) l.cell (spot_of l.spot) (code_of l.body)) (map turn_of l.list))
