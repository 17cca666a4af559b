-- What is read, as the definitions have it. This project's own.
use Rattle.std.specs.Prelude.{Bool, true, false, List, [], ◌∷◌, ◌++◌, map, flat_map, Option, Some, None, option_map}
use denote.Ref.{Bor}
use Rattle.scc_base.specs.declared.refusal.Place.{Place}
use Rattle.scc_core.specs.declared.expr.CoreBase.{CoreBase}
use Rattle.scc_core.specs.declared.expr.CoreExpr.{CoreExpr}
use Rattle.scc_core.specs.declared.expr.CoreExprNode.{CoreExprNode, fold-CoreExprNode}
use Rattle.scc_core.specs.declared.expr.CoreLeft.{CoreLeft}
use Rattle.scc_core.specs.declared.expr.CorePart.{CorePart, fold-CorePart}
use Rattle.scc_core.specs.declared.expr.CorePick.{CorePick, fold-CorePick}
use Rattle.scc_core_spec.specs.Term.{Term, Left, Pick}
use Rattle.scc_core_spec.specs.Term as term
use Rattle.scc_core_spec.specs.Uses.{Use, inside, loads, picked}
use Rattle.scc_core_view.specs.Terms.{Base, Node, Picking, Taken, base_node, expr_node, part_node, pick_node, expr_step, left_step, term_of, taken_of}
use Rattle.scc_rules_walks.specs.declared.loads.Load.{Load}

abbrev pub use_of : Load → Use
use_of l = record { place = l.place; left = (taken_of l.left.now).left }

abbrev pub uses_of : List Load → List Use
uses_of = map use_of

-- what the first operand reads
abbrev pub first_loads : Option CoreExpr → List Use
first_loads None = []
first_loads (Some e) = loads (term_of e)

-- what a variable holds, as a whole: the index of a bit of it is read before it
abbrev pub is_load : Term → Bool
is_load (term.Load p k l) = true
is_load _ = false

-- what stands for a part of a location, and for bits
abbrev pub part_term : CorePart → Left → Left
part_term = fold-CorePart Base Node (Left → Left) Picking Term Taken base_node expr_node part_node pick_node expr_step left_step

abbrev pub pick_term : CorePick → Picking
pick_term = fold-CorePick Base Node (Left → Left) Picking Term Taken base_node expr_node part_node pick_node expr_step left_step

abbrev pub nowhere : Left
nowhere = term.Null (record { file = 0; at = 0 })

-- what an index reads
abbrev pub index_loads : CorePart → List Use
index_loads p = inside (part_term p nowhere)

abbrev pub all_loads : List CoreExpr → List Use
all_loads es = flat_map (λ e. loads (term_of e)) es

-- what an assignment reads and writes, at its places
abbrev pub put_uses : CoreLeft → CoreExpr → List Use
put_uses l e = (inside (taken_of l).left ++ picked (taken_of l).pick) ++ record { place = l.place; left = (taken_of l).left } ∷ loads (term_of e)
