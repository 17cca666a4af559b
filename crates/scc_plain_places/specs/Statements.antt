-- Whether a place is one of a node of a statement.
use Rattle.std.specs.Prelude.{List, Option, map, option_map}
use Rattle.scc_tree.specs.declared.expr.Expr.{Expr}
use Rattle.scc_tree.specs.declared.local.Decl.{Decl}
use Rattle.scc_tree.specs.declared.local.LocalDecl.{LocalDecl}
use Rattle.scc_tree.specs.declared.local.LocalTree.{LocalTree}
use Rattle.scc_tree.specs.declared.simple.SimpleNode.{SimpleNode}
use Rattle.scc_tree.specs.declared.simple.SimpleNode.TheVariants as simple
use Rattle.scc_tree.specs.declared.simple.SimpleTree.{SimpleTree}
use Rattle.scc_tree.specs.declared.stmt.ForFirst.{ForFirst}
use Rattle.scc_tree.specs.declared.stmt.ForFirst.TheVariants as first
use Rattle.scc_tree.specs.declared.stmt.Stmt.{Stmt, fold-Stmt}
use Rattle.scc_tree.specs.declared.stmt.StmtNode.{StmtNode, fold-StmtNode}
use Rattle.scc_tree.specs.declared.stmt.SwitchItem.{SwitchItem, fold-SwitchItem}
use Rattle.scc_tree.specs.declared.stmt.SwitchNode.{SwitchNode, fold-SwitchNode}
use Rattle.scc_tree.specs.declared.stmt.StmtNode.TheOpen.{StmtNode-F, SwitchNode-F, Stmt-F, SwitchItem-F}
use Rattle.scc_tree.specs.declared.stmt.StmtNode.TheOpen as layer
use Rattle.scc_plain_places.specs.Expressions.{Places, is_at, none, or, any, one_if, expr, ty}

abbrev pub exprs : List Expr → Places
exprs list = any (map expr list)

abbrev pub expr_if : Option Expr → Places
expr_if e = one_if (option_map expr e)

abbrev pub decl : Decl → Places
decl d = or (is_at d.place) (exprs d.sizes)

abbrev pub local_decl : LocalDecl → Places
local_decl d = or (decl d.decl) (expr_if d.value)

abbrev pub locals : LocalTree → Places
locals l = or (ty l.ty) (any (map local_decl l.names))

abbrev pub simple_node : SimpleNode → Places
simple_node (simple.Assign left op at value) = or (expr left) (or (is_at at) (expr value))
simple_node (simple.Step of op at) = or (expr of) (is_at at)
simple_node (simple.Call e) = expr e

abbrev pub simple_tree : SimpleTree → Places
simple_tree s = or (is_at s.place) (simple_node s.node)

abbrev pub simple_if : Option SimpleTree → Places
simple_if s = one_if (option_map simple_tree s)

abbrev pub for_first : ForFirst → Places
for_first first.Nothing = none
for_first (first.Local l) = locals l
for_first (first.Simple s) = simple_tree s

-- the head of a `for`
abbrev pub head : ForFirst → Option Expr → Option SimpleTree → Places
head f test step = or (for_first f) (or (expr_if test) (simple_if step))

abbrev pub of_node : StmtNode-F Places Places Places Places → Places
of_node (layer.Block list) = any list
of_node layer.Empty = none
of_node (layer.Local l) = locals l
of_node (layer.If test x y) = or (expr test) (or x (one_if y))
of_node (layer.Switch of items) = or (expr of) (any items)
of_node (layer.While test body) = or (expr test) body
of_node (layer.Do body test) = or body (expr test)
of_node (layer.For f test step body) = or (head f test step) body
of_node layer.Break = none
of_node layer.Continue = none
of_node (layer.Return e) = expr_if e
of_node (layer.Wait e) = expr_if e
of_node (layer.Method name at) = is_at at
of_node (layer.Thread name at) = is_at at
of_node (layer.ClockedThread name at edge) = or (is_at at) (expr edge)
of_node (layer.Sensitive list) = exprs list
of_node layer.DontInitialize = none
of_node (layer.ResetSignal signal level asynchronous) = or (expr signal) (expr level)
of_node (layer.Simple s) = simple_tree s

abbrev pub of_switch_node : SwitchNode-F Places Places Places Places → Places
of_switch_node (layer.Case e) = expr e
of_switch_node layer.Otherwise = none
of_switch_node (layer.Stmt s) = s

abbrev pub of_stmt : Stmt-F Places Places Places Places → Places
of_stmt s = or (is_at s.place) s.node

abbrev pub of_item : SwitchItem-F Places Places Places Places → Places
of_item i = or (is_at i.place) i.node

abbrev pub stmt : Stmt → Places
stmt = fold-Stmt Places Places Places Places of_node of_switch_node of_stmt of_item

abbrev pub stmt_node : StmtNode → Places
stmt_node = fold-StmtNode Places Places Places Places of_node of_switch_node of_stmt of_item

abbrev pub switch_item : SwitchItem → Places
switch_item = fold-SwitchItem Places Places Places Places of_node of_switch_node of_stmt of_item

abbrev pub switch_node : SwitchNode → Places
switch_node = fold-SwitchNode Places Places Places Places of_node of_switch_node of_stmt of_item
