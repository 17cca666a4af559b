-- Locals that locations name as a whole. This project's own.
use Rattle.std.specs.Prelude.{ℕ, List, [], ◌∷◌, Option, Some, None}
use Rattle.scc_plain_tree.specs.declared.expr.PlainBase.{PlainBase, fold-PlainBase}
use Rattle.scc_plain_tree.specs.declared.expr.PlainPart.{PlainPart, fold-PlainPart}
use Rattle.scc_semantics.specs.Location.{Root}
use Rattle.scc_semantics.specs.Location as location
use Rattle.scc_elab_spec.specs.Term.{Left, Term}
use Rattle.scc_plain_view.specs.Terms.{Base, Node, Picking, Taken, base_node, expr_node, part_node, pick_node, expr_step, left_step}

-- one part more of a location, and where it begins
abbrev pub step_of : PlainPart → Left → Left
step_of = fold-PlainPart Base Node (Left → Left) Picking Term Taken base_node expr_node part_node pick_node expr_step left_step

abbrev pub base_of : PlainBase → Base
base_of = fold-PlainBase Base Node (Left → Left) Picking Term Taken base_node expr_node part_node pick_node expr_step left_step

-- that local where the calls lead to, if there is one
abbrev pub root_of : ℕ → List ℕ → Option ℕ → List Root
root_of i cs None = []
root_of i cs (Some n) = location.Local i cs n ∷ []
