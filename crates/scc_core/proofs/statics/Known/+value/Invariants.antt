use Rattle.std.proofs.Common.{◌≡◌, ◌+◌, ◌*◌, ◌&&◌, map, drop, option_map}
use Rattle.scc_core.specs.Known.{facts_in}
use Rattle.scc_core.specs.Names.{are_steps, sought, walk}
use Rattle.scc_core.specs.Numbers.{all_joined}
use Rattle.scc_core.specs.Rests.{steps_in}
use Rattle.scc_core.specs.Elements.{inside, step_at}
use Rattle.scc_core.specs.Statics.{part_in, value_in}
use Rattle.scc_core.proofs.Loops.{joined_on, sought_from}
use Rattle.scc_core.proofs.statics.Known.+value.Given as goal

abbrev pub decreases-number : goal.decreases-number
decreases-number l = 73786976294838206464 * goal.size-number l + 73786976294838206462

abbrev pub decreases-climb : goal.decreases-climb
decreases-climb l = 73786976294838206464 * goal.size-climb l + (2 * l.levels + 4)

abbrev pub decreases-over : goal.decreases-over
decreases-over l = 73786976294838206464 * goal.size-over l + 3

abbrev pub decreases-leaf : goal.decreases-leaf
decreases-leaf l = 73786976294838206464 * goal.size-leaf l + 73786976294838206461

abbrev pub decreases-joined : goal.decreases-joined
decreases-joined l = 73786976294838206464 * goal.size-joined l + 73786976294838206463

abbrev pub decreases-load : goal.decreases-load
decreases-load l = 73786976294838206464 * goal.size-load l + 73786976294838206463

abbrev pub decreases-picked : goal.decreases-picked
decreases-picked l = 73786976294838206464 * goal.size-picked l + 73786976294838206463

abbrev pub decreases-element : goal.decreases-element
decreases-element l = 73786976294838206464 * goal.size-element l + 7

abbrev pub decreases-find : goal.decreases-find
decreases-find l = 73786976294838206464 * goal.size-find l + 6

abbrev pub decreases-sought : goal.decreases-sought
decreases-sought l = 73786976294838206464 * goal.size-sought l + 5

abbrev pub decreases-ends : goal.decreases-ends
decreases-ends l = 73786976294838206464 * goal.size-ends l + 4

abbrev pub decreases-are : goal.decreases-are
decreases-are l = 73786976294838206464 * goal.size-are l + 3

abbrev pub decreases-step : goal.decreases-step
decreases-step l = 73786976294838206464 * goal.size-step l + 2

abbrev pub decreases-walked : goal.decreases-walked
decreases-walked l = 73786976294838206464 * goal.size-walked l + 4

abbrev pub decreases-inside : goal.decreases-inside
decreases-inside l = 73786976294838206464 * goal.size-inside l + 5

abbrev pub invariant-joined-loop-part : goal.invariant-joined-loop-part
invariant-joined-loop-part l = joined_on l.whole (map (value_in (facts_in l.self)) (drop l.part-index l.parts)) ≡ all_joined (map (value_in (facts_in l.self)) l.parts)

abbrev pub invariant-inside-loop-part : goal.invariant-inside-loop-part
invariant-inside-loop-part l = option_map (λ b. b && l.inside) (inside (map (part_in (facts_in l.self)) (drop l.part-index l.parts))) ≡ inside (map (part_in (facts_in l.self)) l.parts)

abbrev pub invariant-walked-loop-part : goal.invariant-walked-loop-part
invariant-walked-loop-part l =
    walk l.places l.at (map (step_at l.first) (map (part_in (facts_in l.self)) (drop l.part-index l.parts)))
    ≡ walk l.places l.initial.at (map (step_at l.first) (map (part_in (facts_in l.self)) l.parts))

abbrev pub invariant-sought-loop-number : goal.invariant-sought-loop-number
invariant-sought-loop-number l =
    sought_from l.number (map (step_at l.first) (map (part_in (facts_in l.self)) l.parts)) l.name (drop l.number l.cell-items)
    ≡ sought (map (step_at l.first) (map (part_in (facts_in l.self)) l.parts)) l.name l.cell-items

abbrev pub invariant-are-loop-k : goal.invariant-are-loop-k
invariant-are-loop-k l =
    are_steps (drop l.k (map (step_at l.first) (map (part_in (facts_in l.self)) l.parts))) (drop l.k (steps_in l.rest))
    ≡ are_steps (map (step_at l.first) (map (part_in (facts_in l.self)) l.parts)) (steps_in l.rest)
