use Rattle.std.proofs.Common.{◌≤◌, ◌+◌, List, Bool, length, drop}
use Rattle.scc_states_sum.specs.Told.{numbers_in}
use Rattle.scc_states_sum.specs.declared.sum.Seen.{Seen}
use Rattle.scc_states_sum.specs.Elements.{cut, most}
use Rattle.scc_states_sum.specs.Live.{live_body, body_deep}
use Rattle.scc_states_sum.specs.Paths.{Lives}
use Rattle.scc_states_sum.proofs.sum.+live_sum.Given as goal

-- what is seen behind gives with what was seen so far all of it
abbrev pub invariant-live-loop-s : goal.invariant-live-loop-s
invariant-live-loop-s l =
    (l.elements ≤ most)
    × (l.depth + body_deep l.body ≤ length l.initial.left
    → (seen : Seen) (new : List Bool) → Lives l.depth l.left new seen (live_body (numbers_in l.known) (drop l.s-index l.body))
    → Lives l.depth l.initial.left new (record { elements = cut (l.elements + seen.elements); ends = seen.ends }) (live_body (numbers_in l.known)
    l.body))
