use Rattle.std.proofs.Common.{◌≡◌, drop}
use Rattle.scc_core_spec.specs.Code.{Code}
use Rattle.scc_core_spec.specs.Unrolled.{first_spot, uncounted}
use Rattle.scc_core_view.specs.Codes.{code_of}
use Rattle.scc_unroll_asked.specs.Asked.{AreRead, asked}
use Rattle.scc_unroll_laws.specs.Counters.{counters_of}
use Rattle.scc_unroll.specs.Shape.{Around, setting_of, stand_of}
use Rattle.scc_unroll.proofs.look.+looked.Given as goal

abbrev pub invariant-first_uncounted-loop-s : goal.invariant-first_uncounted-loop-s
invariant-first_uncounted-loop-s l =
    (l.count ≡ l.s-index)
    × ((b : Code) → Around l.at b l.counters → AreRead l.at.known (asked l.body)
    → AreRead l.at.known (asked (drop l.s-index l.body))
    × (first_spot (uncounted (setting_of l.at b) (counters_of l.counters) (stand_of l.stand) l.number (code_of (drop l.s-index l.body)))
    ≡ first_spot (uncounted (setting_of l.at b) (counters_of l.counters) (stand_of l.initial.stand) l.initial.number (code_of l.body))))
