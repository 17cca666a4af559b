use Rattle.std.proofs.Common.{◌≡◌, ◌+◌, map, drop}
use Rattle.scc_core_spec.specs.Code.{waits_in, numbered}
use Rattle.scc_core_view.specs.Codes.{code_of}
use Rattle.scc_states_segments.specs.Parts.{Walk, Walks, chain, part_walk}
use Rattle.scc_states_segments.proofs.parts.+parts.Given as goal

abbrev pub invariant-parts_of-loop-s : goal.invariant-parts_of-loop-s
invariant-parts_of-loop-s l =
    (l.next + waits_in (code_of (drop l.s-index l.body)) ≡ l.initial.next + waits_in (code_of l.body))
    × ((w : Walk) → Walks w (numbered l.next (code_of (drop l.s-index l.body))) → Walks (chain (map part_walk l.list) w) (numbered l.initial.next (code_of l.body)))
