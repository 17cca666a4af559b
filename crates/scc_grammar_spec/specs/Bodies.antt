-- Trees of declarations, as the grammar builds them, and what stands in a file or a class so far.
use Rattle.std.specs.Prelude.{Bool, true, false, List, [], ◌∷◌, ◌++◌, length, map, Option, Some, None}
use Rattle.scc_base.specs.declared.names.Name.{Name}
use Rattle.scc_base.specs.declared.refusal.Place.{Place}
use Rattle.scc_tree.specs.declared.ty.Ty.{Ty}
use Rattle.scc_tree.specs.declared.ty.TyArg.{TyArg}
use Rattle.scc_tree.specs.declared.local.Decl.{Decl}
use Rattle.scc_tree.specs.declared.stmt.Stmt.{Stmt}
use Rattle.scc_tree.specs.declared.item.Item.{Item, roll-Item}
use Rattle.scc_tree.specs.declared.item.ItemNode.{ItemNode}
use Rattle.scc_tree.specs.declared.item.ItemNode.TheVariants as item
use Rattle.scc_tree.specs.declared.item.ClassTree.{roll-ClassTree}
use Rattle.scc_tree.specs.declared.item.Field.{Field}
use Rattle.scc_tree.specs.declared.item.FunctionTree.{FunctionTree}
use Rattle.scc_tree.specs.declared.item.Init.{Init}
use Rattle.scc_tree.specs.declared.item.Param.{Param}
use Rattle.scc_tree.specs.declared.item.Prm.{Prm}
use Rattle.scc_grammar_terminals.specs.Names.{Names, with_type, with_template}

abbrev pub item_of : Place → Option Name → ItemNode → Item
item_of place name node = roll-Item (record { place = place; name = name; node = node })

-- A function: its result, parameters and body.
abbrev pub function_of : Place → Name → Option Ty → List Prm → Option (List Stmt) → FunctionTree
function_of place name result params body = record { place = place; name = name; constructor = false; result = result; params = params; inits = []; body = body }

abbrev pub constructor_of : Place → Name → List Prm → List Init → Option (List Stmt) → FunctionTree
constructor_of place name params inits body = record { place = place; name = name; constructor = true; result = None; params = params; inits = inits; body = body }

abbrev pub function_item : FunctionTree → Item
function_item f = item_of f.place (Some f.name) (item.Function f)

-- a body outside its class, whose name stands at the place
abbrev pub outside_item : Place → List Param → Name → List TyArg → FunctionTree → Item
outside_item place params class args f = item_of place (Some f.name) (item.Outside params class args f)

-- What stands in a file or a class so far, and the names that are declared in the whole text so far.
pub record Body : Type 0 where
  pub names : Names
  pub items : List Item
  pub fields : List Field

abbrev pub begun : Names → Body
begun names = record { names = names; items = []; fields = [] }

abbrev pub with_item : Body → Names → Item → Body
with_item b names x = record { names = names; items = b.items ++ x ∷ []; fields = b.fields }

abbrev pub field_of : Body → Ty → Decl → Field
field_of b ty d = record { place = d.place; ty = ty; decl = d; after = length b.items }

abbrev pub with_fields : Body → Ty → List Decl → Body
with_fields b ty ds = record { names = b.names; items = b.items; fields = b.fields ++ map (field_of b ty) ds }

-- A class's name is a type from its own token on, and that of a class with parameters a template.
abbrev pub declared : Names → Option (List Param) → Name → Names
declared names None x = with_type names x
declared names (Some []) x = with_type names x
declared names (Some (p ∷ ps)) x = with_template names x

abbrev pub params_of : Option (List Param) → List Param
params_of None = []
params_of (Some ps) = ps

abbrev pub class_item : Place → Name → Option (List Param) → Option (List TyArg) → Bool → Body → Item
class_item place name params special module_class b =
    item_of place (Some name) (item.Class (roll-ClassTree (record { params = params_of params; special = special; «module» = module_class; items = b.items; fields = b.fields })))

abbrev pub body_of : Names → List Item → List Field → Body
body_of names items fields = record { names = names; items = items; fields = fields }
