use Rattle.std.proofs.Common.{◌≡◌, drop, map}
use Rattle.scc_base.specs.declared.refusal.Place.{Place}
use Rattle.scc_core_spec.specs.Code.{Code, size}
use Rattle.scc_core_spec.specs.Counted.{Turning}
use Rattle.scc_core_spec.specs.Unrolled.{unrolled}
use Rattle.scc_core_view.specs.Codes.{code_of}
use Rattle.scc_unroll.specs.Shape.{StandIsRead, Around, setting_of, stand_of}
use Rattle.scc_unroll_asked.specs.Asked.{AreRead, asked}
use Rattle.scc_unroll.specs.Turns.{turn_of}
use Rattle.scc_unroll_laws.specs.Counters.{counters_of}
use Rattle.scc_unroll_laws.specs.Sizes.{more, sum_of}
use Rattle.scc_unroll_laws.specs.Writing.{each_turn}
use Rattle.scc_unroll.proofs.sizes.+sizes.Given as goal

abbrev pub invariant-unrolled_size-loop-s : goal.invariant-unrolled_size-loop-s
invariant-unrolled_size-loop-s l =
    (l.count ≡ l.s-index)
    × ((b : Code) → Around l.at b l.counters → AreRead l.at.known (asked l.body) → StandIsRead l.at.known l.initial.stand
    → AreRead l.at.known (asked (drop l.s-index l.body))
    × StandIsRead l.at.known l.stand
    × (more (sum_of l.sum) (size (unrolled (setting_of l.at b) (counters_of l.counters) (stand_of l.stand) (code_of (drop l.s-index l.body))))
    ≡ more (sum_of l.initial.sum) (size (unrolled (setting_of l.at b) (counters_of l.counters) (stand_of l.initial.stand) (code_of l.body)))))

abbrev pub invariant-size_of_turns-loop-turn : goal.invariant-size_of_turns-loop-turn
invariant-size_of_turns-loop-turn l =
    (b rest : Code) (p : Place) (t : Turning) → Around l.at b l.counters → AreRead l.at.known (asked l.inner)
    → more (sum_of l.sum) (size (each_turn (setting_of l.at b) (counters_of l.counters) l.cell p (code_of l.inner) t (map turn_of (drop l.turn-index l.list)) rest))
    ≡ more (sum_of l.initial.sum) (size (each_turn (setting_of l.at b) (counters_of l.counters) l.cell p (code_of l.inner) t (map turn_of l.list) rest))
