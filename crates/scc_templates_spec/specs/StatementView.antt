-- The statements of a source's tree, without their boxes. An empty statement leaves none. This project's own.
use Rattle.std.specs.Prelude.{List, [], ◌∷◌, map, Option, Some, None, option_map}
use Rattle.scc_base.specs.declared.refusal.Place.{Place}
use Rattle.scc_tree.specs.declared.local.LocalDecl.{LocalDecl}
use Rattle.scc_tree.specs.declared.local.LocalTree.{LocalTree}
use Rattle.scc_tree.specs.declared.simple.SimpleNode.{SimpleNode}
use Rattle.scc_tree.specs.declared.simple.SimpleNode.TheVariants as simple
use Rattle.scc_tree.specs.declared.simple.SimpleTree.{SimpleTree}
use Rattle.scc_tree.specs.declared.stmt.ForFirst.{ForFirst}
use Rattle.scc_tree.specs.declared.stmt.ForFirst.TheVariants as first
use Rattle.scc_tree.specs.declared.stmt.Stmt.{Stmt, fold-Stmt}
use Rattle.scc_tree.specs.declared.stmt.StmtNode.TheOpen.{StmtNode-F, SwitchNode-F, Stmt-F, SwitchItem-F}
use Rattle.scc_tree.specs.declared.stmt.StmtNode.TheOpen as layer
use Rattle.scc_templates_spec.specs.Statements.{Stmts, Items, Local, Simple, First, Process}
use Rattle.scc_templates_spec.specs.Statements as stmts
use Rattle.scc_templates_spec.specs.View.{tree_of, type_of, trees_of}

abbrev pub local_of : LocalTree → LocalDecl → Local
local_of l d = record { place = d.decl.place; name = d.decl.name.0; type = type_of l.ty; hold = d.decl.hold; sizes = trees_of d.decl.sizes; value = option_map tree_of d.value }

abbrev pub locals_of : LocalTree → List Local
locals_of l = map (local_of l) l.names

abbrev pub simple_of : SimpleTree → Simple
simple_of s = by_node s.place s.node
  where
    by_node : Place → SimpleNode → Simple
    by_node p (simple.Assign left op at value) = stmts.Assign p (tree_of left) op at (tree_of value)
    by_node p (simple.Step of op at) = stmts.Step p (tree_of of) op at
    by_node p (simple.Call e) = stmts.Calls p (tree_of e)

abbrev pub first_of : ForFirst → First
first_of first.Nothing = stmts.Nothing
first_of (first.Local l) = stmts.Locals (locals_of l)
first_of (first.Simple s) = stmts.Does (simple_of s)

-- what a statement stands for, before what follows it
abbrev pub Before : Type 0
Before = Stmts → Stmts

abbrev pub ItemBefore : Type 0
ItemBefore = Items → Items

abbrev pub before : List Before → Stmts
before [] = stmts.End
before (f ∷ fs) = f (before fs)

abbrev pub declared : List Local → Stmts → Stmts
declared [] rest = rest
declared (l ∷ ls) rest = stmts.Declare l (declared ls rest)

abbrev pub alone : Option Before → Stmts
alone None = stmts.End
alone (Some f) = f stmts.End

abbrev pub items_before : List ItemBefore → Items
items_before [] = stmts.NoItems
items_before (f ∷ fs) = f (items_before fs)

abbrev pub of_node : StmtNode-F (Place → Before) (Place → ItemBefore) Before ItemBefore → Place → Before
of_node (layer.Block list) p r = stmts.Brace (before list) r
of_node layer.Empty p r = r
of_node (layer.Local l) p r = declared (locals_of l) r
of_node (layer.If test x y) p r = stmts.If p (tree_of test) (x stmts.End) (alone y) r
of_node (layer.Switch of items) p r = stmts.Switch p (tree_of of) (items_before items) r
of_node (layer.While test body) p r = stmts.While p (tree_of test) (body stmts.End) r
of_node (layer.Do body test) p r = stmts.Do p (body stmts.End) (tree_of test) r
of_node (layer.For f test step body) p r = stmts.For p (first_of f) (option_map tree_of test) (option_map simple_of step) (body stmts.End) r
of_node layer.Break p r = stmts.Break p r
of_node layer.Continue p r = stmts.Continue p r
of_node (layer.Return e) p r = stmts.Return p (option_map tree_of e) r
of_node (layer.Wait e) p r = stmts.Wait p (option_map tree_of e) r
of_node (layer.Method name at) p r = stmts.Runs p at (Some name.0) stmts.Method r
of_node (layer.Thread name at) p r = stmts.Runs p at (Some name.0) stmts.Thread r
of_node (layer.ClockedThread name at edge) p r = stmts.Runs p at (Some name.0) (stmts.Clocked (tree_of edge)) r
of_node (layer.Sensitive list) p r = stmts.Sensitive p (trees_of list) r
of_node layer.DontInitialize p r = stmts.Quiet p r
of_node (layer.ResetSignal signal level asynchronous) p r = stmts.Reset p (tree_of signal) (tree_of level) asynchronous r
of_node (layer.Simple s) p r = stmts.Simply (simple_of s) r

abbrev pub of_switch_node : SwitchNode-F (Place → Before) (Place → ItemBefore) Before ItemBefore → Place → ItemBefore
of_switch_node (layer.Case e) p r = stmts.Case p (tree_of e) r
of_switch_node layer.Otherwise p r = stmts.Otherwise p r
of_switch_node (layer.Stmt s) p r = stmts.Between (s stmts.End) r

abbrev pub of_stmt : Stmt-F (Place → Before) (Place → ItemBefore) Before ItemBefore → Before
of_stmt s = s.node s.place

abbrev pub of_item : SwitchItem-F (Place → Before) (Place → ItemBefore) Before ItemBefore → ItemBefore
of_item i = i.node i.place

abbrev pub stmt_of : Stmt → Before
stmt_of = fold-Stmt (Place → Before) (Place → ItemBefore) Before ItemBefore of_node of_switch_node of_stmt of_item

abbrev pub stmts_of : List Stmt → Stmts
stmts_of list = before (map stmt_of list)
