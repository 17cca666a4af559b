-- Whether a place is one of a node of a source's tree, and which refusals stand at places of it.
use Rattle.std.specs.Prelude.{Bool, true, ◌&&◌, ◌||◌, List, Option, Some, None, map, option_map}
use Rattle.scc_base.specs.declared.refusal.Place.{Place}
use Rattle.scc_base.specs.declared.refusal.Refusal.{Refusal}
use Rattle.scc_base.specs.declared.refusal.Stop.{Stop}
use Rattle.scc_base.specs.declared.refusal.Stop.TheVariants as stop
use Rattle.scc_tree.specs.declared.ty.Ty.{Ty}
use Rattle.scc_tree.specs.declared.ty.TyArg.{TyArg}
use Rattle.scc_tree.specs.declared.stmt.Stmt.{Stmt}
use Rattle.scc_tree.specs.declared.item.Param.{Param}
use Rattle.scc_tree.specs.declared.item.Prm.{Prm}
use Rattle.scc_tree.specs.declared.item.Init.{Init}
use Rattle.scc_tree.specs.declared.item.Field.{Field}
use Rattle.scc_tree.specs.declared.item.Enumerator.{Enumerator}
use Rattle.scc_tree.specs.declared.item.FunctionTree.{FunctionTree}
use Rattle.scc_tree.specs.declared.item.FileTree.{FileTree}
use Rattle.scc_tree.specs.declared.item.Item.{Item, fold-Item}
use Rattle.scc_tree.specs.declared.item.ItemNode.{ItemNode, fold-ItemNode}
use Rattle.scc_tree.specs.declared.item.ClassTree.{ClassTree, fold-ClassTree}
use Rattle.scc_tree.specs.declared.item.ItemNode.TheOpen.{ItemNode-F, ClassTree-F, Item-F}
use Rattle.scc_tree.specs.declared.item.ItemNode.TheOpen as layer
use Rattle.scc_plain_places.specs.Expressions.{Places, is_at, or, any, any_if, one_if, expr, ty, arg}
use Rattle.scc_plain_places.specs.Statements.{exprs, expr_if, decl, stmt}

abbrev pub ty_if : Option Ty → Places
ty_if t = one_if (option_map ty t)

abbrev pub args : List TyArg → Places
args list = any (map arg list)

abbrev pub args_if : Option (List TyArg) → Places
args_if list = any_if (option_map (map arg) list)

abbrev pub param : Param → Places
param p = or (is_at p.place) (one_if (option_map arg p.preset))

abbrev pub prm : Prm → Places
prm p = or (is_at p.place) (ty p.ty)

abbrev pub init : Init → Places
init i = or (is_at i.place) (exprs i.args)

abbrev pub stmts_if : Option (List Stmt) → Places
stmts_if list = any_if (option_map (map stmt) list)

abbrev pub function : FunctionTree → Places
function f = or (is_at f.place) (or (ty_if f.result) (or (any (map prm f.params)) (or (any (map init f.inits)) (stmts_if f.body))))

abbrev pub field : Field → Places
field f = or (is_at f.place) (or (ty f.ty) (decl f.decl))

abbrev pub enumerator : Enumerator → Places
enumerator e = or (is_at e.place) (expr_if e.value)

abbrev pub of_node : ItemNode-F Places Places Places → Places
of_node (layer.Class c) = c
of_node (layer.Alias t) = ty t
of_node (layer.Numbers list) = any (map enumerator list)
of_node (layer.Constant t e) = or (ty t) (expr e)
of_node (layer.Function f) = function f
of_node (layer.Outside params class given f) = or (any (map param params)) (or (args given) (function f))

abbrev pub of_class : ClassTree-F Places Places Places → Places
of_class c = or (any (map param c.params)) (or (args_if c.special) (or (any c.items) (any (map field c.fields))))

abbrev pub of_item : Item-F Places Places Places → Places
of_item i = or (is_at i.place) i.node

abbrev pub item : Item → Places
item = fold-Item Places Places Places of_node of_class of_item

abbrev pub item_node : ItemNode → Places
item_node = fold-ItemNode Places Places Places of_node of_class of_item

abbrev pub class_tree : ClassTree → Places
class_tree = fold-ClassTree Places Places Places of_node of_class of_item

-- the place of a node, or the end of the last file
abbrev pub is_place_of : FileTree → Place → Bool
is_place_of t p = is_at t.end p || any (map item t.items) p

abbrev pub is_place_if : FileTree → Option Place → Bool
is_place_if t None = true
is_place_if t (Some p) = is_place_of t p

-- a refusal at a place of the tree, and a second one where it has one
abbrev pub is_placed : FileTree → Refusal → Bool
is_placed t r = is_place_of t r.place && is_place_if t r.other

abbrev pub stops_at : FileTree → Stop → Bool
stops_at t (stop.Refused r) = is_placed t r
stops_at t stop.NoMemory = true
