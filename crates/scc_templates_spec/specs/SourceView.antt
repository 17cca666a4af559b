-- The declarations of a source's tree. A class's member variables go among its other members, each before the first of those that stand behind it in the
-- text. This project's own.
use Rattle.std.specs.Prelude.{ℕ, suc, ◌+◌, nat_le, Bool, List, [], ◌∷◌, ◌++◌, length, map, take_while, drop, Option, Some, None, option_map}
use Rattle.scc_base.specs.declared.refusal.Place.{Place}
use Rattle.scc_base.specs.declared.names.Name.{Name}
use Rattle.scc_tree.specs.declared.item.Param.{Param as ParamTree}
use Rattle.scc_tree.specs.declared.item.Field.{Field as FieldTree}
use Rattle.scc_tree.specs.declared.item.Prm.{Prm}
use Rattle.scc_tree.specs.declared.item.Init.{Init as InitTree}
use Rattle.scc_tree.specs.declared.item.Enumerator.{Enumerator as EnumeratorTree}
use Rattle.scc_tree.specs.declared.item.FunctionTree.{FunctionTree}
use Rattle.scc_tree.specs.declared.item.FileTree.{FileTree}
use Rattle.scc_tree.specs.declared.item.Item.{Item as ItemTree, fold-Item}
use Rattle.scc_tree.specs.declared.item.ItemNode.TheOpen.{ItemNode-F, Item-F, ClassTree-F}
use Rattle.scc_tree.specs.declared.item.ItemNode.TheOpen as layer
use Rattle.scc_tree.specs.declared.ty.TyArg.{TyArg}
use Rattle.scc_templates_spec.specs.Tree.{TyArgs, NoArgs}
use Rattle.scc_templates_spec.specs.View.{tree_of, type_of, trees_of, arg_of, type_args_of}
use Rattle.scc_templates_spec.specs.StatementView.{stmts_of}
use Rattle.scc_templates_spec.specs.Source.{Source, Top, OfClass, Outside, Plain, Class, Member, Variable, Declares, Item, Said, Alias, Numbers, Constant, Declared, Other, Field, Function, Init, Taken, Enumerator, Param}

abbrev pub name_of : Option Name → Option ℕ
name_of n = option_map (λ n. n.0) n

abbrev pub preset_of : Option TyArg → TyArgs
preset_of None = NoArgs
preset_of (Some a) = arg_of a NoArgs

abbrev pub param_of : ParamTree → Param
param_of p = record { place = p.place; name = p.name.0; sort = p.sort; preset = preset_of p.preset }

abbrev pub enumerator_of : EnumeratorTree → Enumerator
enumerator_of e = record { place = e.place; name = e.name.0; value = option_map tree_of e.value }

abbrev pub taken_of : Prm → Taken
taken_of p = record { place = p.place; type = type_of p.ty; hold = p.hold; name = p.name.0 }

abbrev pub init_of : InitTree → Init
init_of i = record { place = i.place; name = name_of i.name; args = trees_of i.args }

abbrev pub function_of : FunctionTree → Function
function_of f = record { place = f.place; name = f.name.0; constructor = f.constructor; result = option_map type_of f.result; params = map taken_of f.params; inits = map init_of f.inits; body = option_map stmts_of f.body }

abbrev pub field_of : FieldTree → Field
field_of f = record { place = f.place; name = f.decl.name.0; type = type_of f.ty; hold = f.decl.hold; sizes = trees_of f.decl.sizes }

-- member variables from number k on
abbrev pub variables : ℕ → List FieldTree → List Member
variables k [] = []
variables k (f ∷ fs) = Variable k (field_of f) ∷ variables (suc k) fs

-- what a class declares besides, as its items are
abbrev pub inner_of : Top → Item
inner_of (Plain i) = i
inner_of (OfClass p n c) = record { place = p; name = n; said = Other }
inner_of (Outside p ps c as_given f) = record { place = p; name = None; said = Other }

abbrev pub stands_before : ℕ → FieldTree → Bool
stands_before n f = nat_le f.after n

-- items from number n on, with the member variables from number k on
abbrev pub merged : ℕ → ℕ → List FieldTree → List Top → List Member
merged n k fs [] = variables k fs
merged n k fs (i ∷ is) = variables k (take_while (stands_before n) fs)
    ++ (Declares n (inner_of i) ∷ merged (suc n) (k + length (take_while (stands_before n) fs)) (drop (length (take_while (stands_before n) fs)) fs) is)

abbrev pub plain : Said → Place → Option Name → Top
plain s p n = Plain (record { place = p; name = name_of n; said = s })

abbrev pub Node : Type 0
Node = Place → Option Name → Top

abbrev pub of_node : ItemNode-F Node Class Top → Node
of_node (layer.Class c) p n = OfClass p (name_of n) c
of_node (layer.Alias t) p n = plain (Alias (type_of t)) p n
of_node (layer.Numbers all) p n = plain (Numbers (map enumerator_of all)) p n
of_node (layer.Constant ty value) p n = plain (Constant (type_of ty) (tree_of value)) p n
of_node (layer.Function f) p n = plain (Declared (function_of f)) p n
of_node (layer.Outside params class args f) p n = Outside p (map param_of params) class.0 (type_args_of args) (function_of f)

abbrev pub of_class : ClassTree-F Node Class Top → Class
of_class c = record { params = map param_of c.params; special = option_map type_args_of c.special; is_module = c.module; members = merged 0 0 c.fields c.items }

abbrev pub of_item : Item-F Node Class Top → Top
of_item i = i.node i.place i.name

abbrev pub top_of : ItemTree → Top
top_of = fold-Item Node Class Top of_node of_class of_item

abbrev pub source_of : FileTree → Source
source_of t = record { items = map top_of t.items; end = t.end }
