-- Counters that stand as literals, as the definitions have them.
use Rattle.std.specs.Prelude.{List, map}
use Rattle.scc_core.specs.declared.copy.Counter.{Counter as Held}
use Rattle.scc_core_spec.specs.Counted.{Counter}

abbrev pub counter_of : Held → Counter
counter_of c = record { cell = c.cell; word = c.now.word }

abbrev pub counters_of : List Held → List Counter
counters_of = map counter_of
