use Rattle.std.proofs.Common.{List, ◌≡◌, drop, map, true}
use Rattle.scc_core_spec.specs.Code.{Code}
use Rattle.scc_core_spec.specs.Counted.{is_whole}
use Rattle.scc_core_spec.specs.Unrolled.{unrolled}
use Rattle.scc_core_view.specs.Codes.{code_of}
use Rattle.scc_core_view.specs.Terms.{taken_of}
use Rattle.scc_unroll.specs.Shape.{StandIsRead, Around, setting_of, stand_of, turned}
use Rattle.scc_unroll_asked.specs.Asked.{AreTaken, IsItself, asked}
use Rattle.scc_unroll.specs.Turns.{turn_of}
use Rattle.scc_unroll_asked.specs.Copied.{AreCopies, AreWithin, IsWithin}
use Rattle.scc_unroll_asked.specs.Items.{Item}
use Rattle.scc_unroll_asked.specs.Read.{AreCounters}
use Rattle.scc_unroll_laws.specs.Counters.{counters_of}
use Rattle.scc_unroll_laws.specs.Writing.{each_turn, set_before}
use Rattle.scc_unroll.proofs.built.+unrolled.Given as goal

abbrev pub invariant-unrolled-loop-s : goal.invariant-unrolled-loop-s
invariant-unrolled-loop-s l =
    (l.count ≡ l.s-index)
    × ((b : Code) → Around l.at b l.counters → AreTaken l.at.known (asked l.body) → StandIsRead l.at.known l.initial.stand
    → AreTaken l.at.known (asked (drop l.s-index l.body))
    × StandIsRead l.at.known l.stand
    × (set_before l.out (unrolled (setting_of l.at b) (counters_of l.counters) (stand_of l.stand) (code_of (drop l.s-index l.body)))
    ≡ unrolled (setting_of l.at b) (counters_of l.counters) (stand_of l.initial.stand) (code_of l.body)))
    × ((xs : List Item) → AreCounters l.at.known.cells.now l.counters → AreWithin xs l.body → AreWithin xs (drop l.s-index l.body) × AreCopies l.at.known.cells.now xs l.out)

abbrev pub invariant-write_turns-loop-turn : goal.invariant-write_turns-loop-turn
invariant-write_turns-loop-turn l =
    ((b r : Code) → Around l.at b l.counters → AreTaken l.at.known (asked l.inner) → IsItself l.of.turning.step.now → is_whole (taken_of l.of.turning.step_left.now).pick ≡ true
    → set_before l.out (each_turn (setting_of l.at b) (counters_of l.counters) l.of.cell l.place (code_of l.inner) (turned l.of.turning) (map turn_of (drop l.turn-index l.of.list)) r)
    ≡ set_before l.initial.out (each_turn (setting_of l.at b) (counters_of l.counters) l.of.cell l.place (code_of l.inner) (turned l.of.turning) (map turn_of l.of.list) r))
    × ((xs : List Item) → AreCounters l.at.known.cells.now l.counters → AreWithin xs l.inner → IsWithin xs l.of.turning.step_left.now → AreCopies l.at.known.cells.now xs l.initial.out → AreCopies l.at.known.cells.now xs l.out)
