-- Statements without pointers as the code makes them of trees. This project's own.
use Rattle.std.specs.Prelude.{◌≡◌, false, if◌then◌else◌, List, [], length, take, Option}
use Rattle.scc_base.specs.declared.code.Code.TheVariants as reason
use Rattle.scc_base.specs.declared.refusal.Place.{Place}
use Rattle.scc_base.specs.declared.refusal.Refusal.{Refusal}
use Rattle.scc_base.specs.declared.refusal.Stop.{Stop}
use Rattle.scc_base.specs.declared.refusal.Stop.TheVariants as stop
use Rattle.scc_core.specs.declared.expr.CoreExpr.{CoreExpr}
use Rattle.scc_core.specs.declared.expr.CoreLeft.{CoreLeft}
use Rattle.scc_core.specs.declared.stmt.CoreNode.{CoreNode, roll-CoreNode}
use Rattle.scc_core.specs.declared.stmt.CoreNode.TheOpen as node
use Rattle.scc_core.specs.declared.stmt.Count.{Count}
use Rattle.scc_core.specs.declared.stmt.Pointed.{Pointed}
use Rattle.scc_core.specs.declared.stmt.Pointed.TheVariants as aimed
use Rattle.scc_core_spec.specs.First.{refused}
use Rattle.scc_core_spec.specs.Resolved.{Tried, Made, Stopped, and_made, made_map}
use Rattle.scc_core_spec.specs.Unpointed.{declares, of_assigned, or_same}
use Rattle.scc_pointers_walk.specs.declared.held.Resolver.{Resolver}
use Rattle.scc_pointers_walk.specs.Led.{leads_of, target_of}
use Rattle.scc_pointers_walk.specs.Walked.{expr_in, loaded_in, target_in, walked_in}

-- what is held later begins with what was held before
abbrev pub Begins : {X : Type 0} → List X → List X → Type 0
Begins a b = take (length a) b ≡ a

-- that refusal, or memory is wanted
abbrev pub Refuses : Stop → Refusal → Type 0
Refuses (stop.Refused r) q = r ≡ q
Refuses stop.NoMemory q = Unit {0}

abbrev pub empty_block : CoreNode
empty_block = roll-CoreNode (node.Block [])

-- where a pointer leads from its declaration on; a second one, or one that is assigned, is refused
abbrev pub alias_in : Resolver → Place → Pointed → CoreLeft → Tried (Option CoreLeft)
alias_in r p (aimed.Assigned l) t = Stopped (of_assigned p (made_map target_of (walked_in r l false)))
alias_in r p (aimed.Declared n) t = and_made (target_in r t) (λ o. if declares (leads_of r) n then Made o else Stopped (refused reason.PointerAssigned p))

-- what a count says, where that isn't refused
abbrev pub count_in : Resolver → Count → Count
count_in r c =
    record { cell = c.cell; start = or_same c.start (expr_in r c.start); compare = c.compare; bound = or_same c.bound (expr_in r c.bound); step_op = c.step_op; step = or_same c.step (expr_in r c.step) }

-- an assignment: what it writes, then the value
abbrev pub put_in : Resolver → CoreLeft → CoreExpr → Tried CoreNode
put_in r l e = and_made (loaded_in r l) (λ l. made_map (λ e. roll-CoreNode (node.Assign l e)) (expr_in r e))
