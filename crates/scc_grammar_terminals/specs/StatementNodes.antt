-- Trees of statements, as the grammar builds them.
use Rattle.std.specs.Prelude.{Bool, true, false, List, ◌∷◌, Option}
use Rattle.scc_base.specs.declared.names.Name.{Name}
use Rattle.scc_base.specs.declared.refusal.Place.{Place}
use Rattle.scc_tree.specs.declared.expr.Expr.{Expr}
use Rattle.scc_tree.specs.declared.local.Decl.{Decl}
use Rattle.scc_tree.specs.declared.local.Hold.{Hold}
use Rattle.scc_tree.specs.declared.local.LocalDecl.{LocalDecl}
use Rattle.scc_tree.specs.declared.local.LocalTree.{LocalTree}
use Rattle.scc_tree.specs.declared.simple.SimpleNode.{SimpleNode}
use Rattle.scc_tree.specs.declared.simple.SimpleTree.{SimpleTree}
use Rattle.scc_tree.specs.declared.stmt.Stmt.{Stmt}
use Rattle.scc_tree.specs.declared.stmt.StmtNode.TheVariants as s
use Rattle.scc_tree.specs.declared.stmt.SwitchItem.{SwitchItem, roll-SwitchItem}
use Rattle.scc_tree.specs.declared.stmt.SwitchNode.{SwitchNode}
use Rattle.scc_tree.specs.declared.ty.Ty.{Ty}
use Rattle.scc_tree.specs.Node.{stmt_of}

abbrev pub decl_of : Hold → Name × Place → List Expr → Decl
decl_of hold x sizes = record { place = x.1; name = x.0; hold = hold; sizes = sizes }

abbrev pub local_decl_of : Decl → Option Expr → LocalDecl
local_decl_of d v = record { decl = d; value = v }

abbrev pub local_of : Ty → LocalDecl → List LocalDecl → LocalTree
local_of of first rest = record { ty = of; names = first ∷ rest }

abbrev pub simple_of : Place → SimpleNode → SimpleTree
simple_of place node = record { place = place; node = node }

abbrev pub item_of : Place → SwitchNode → SwitchItem
item_of place node = roll-SwitchItem (record { place = place; node = node })

-- `SC_THREAD` (true) or `SC_METHOD` of the name at the second place
abbrev pub process_of : Place → Bool → Name → Place → Stmt
process_of place true x at = stmt_of place (s.Thread x at)
process_of place false x at = stmt_of place (s.Method x at)

abbrev pub local_stmt : LocalTree → Stmt
local_stmt l = stmt_of l.ty.place (s.Local l)

abbrev pub simple_stmt : SimpleTree → Stmt
simple_stmt of = stmt_of of.place (s.Simple of)
