-- The first statement past the limits, where some are counted.
use Rattle.std.specs.Prelude.{List, Option}
use Rattle.scc_base.specs.declared.refusal.Place.{Place}
use Rattle.scc_core_spec.specs.First.{or_else}
use Rattle.scc_core_spec.specs.Split.{Stood, first_past, deepest}
use Rattle.scc_states_segments.specs.declared.over.Count.{Count}

-- with these statements counted too
abbrev pub first_after : Count → List Stood → Option Place
first_after c ss = or_else c.past (first_past c.left deepest ss)
