-- The first refusal of the static stage, by the walks over a source: declarations first, then what the top needs, then calls by a class's name, then what comes
-- back to itself. This project's own.
use Rattle.std.specs.Prelude.{List, [], ◌∷◌, flat_map, Option}
use Rattle.scc_base.specs.declared.refusal.Refusal.{Refusal}
use Rattle.scc_core_spec.specs.First.{first_some}
use Rattle.scc_templates_spec.specs.Walk.{Event, Needed, Went, go, empty}
use Rattle.scc_templates_spec.specs.Stage.{staged_from, judged}
use Rattle.scc_plain_first.specs.Recursion.{Body, Named, by_class, recursive}

-- The walks over a source and its top.
pub record Walks : Type 0 where
  -- over all declarations, for names that are declared twice
  pub declarations : List Event
  -- the look-up of the top, and what it needs by itself
  pub top : List Event
  -- over a class with arguments, its members and then its functions; over a function of no class
  pub needed : Needed → List Event
  -- the bodies, given what is needed in order
  pub bodies : List Needed → List Body
  -- what is walked by name, given what is needed in order
  pub named : List Needed → List Named

abbrev pub staged : Walks → Went
staged w = staged_from w.needed w.top

-- the walks over bodies, in order; nothing else calls
abbrev pub calls_walked : Walks → List Event
calls_walked w = flat_map (λ b. b.walk) (w.bodies (staged w).tally.queue)

abbrev pub refusal_of : Walks → Option Refusal
refusal_of w = first_some ((go w.declarations empty).stop ∷ judged (staged w) ∷ by_class (w.bodies (staged w).tally.queue) (calls_walked w) ∷ recursive (w.named (staged w).tally.queue) ∷ [])
