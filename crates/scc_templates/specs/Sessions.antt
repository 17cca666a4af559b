-- What a session knows of classes with arguments, and what names mean in it: an instance by its number, as the definitions have it. This project's own.
use Rattle.std.specs.Prelude.{◌≡◌, ℕ, ◌+◌, nat_lt, nat_le, Bool, true, false, nat_eq, ◌&&◌, List, [], ◌∷◌, ◌++◌, Option, Some, None, option_map, option_and_then, is_some, unwrap_or, slice_get, if◌then◌else◌}
use Rattle.std.specs.Map.{lookup}
use Rattle.scc_bits_kinds.specs.declared.kind.Kind.TheVariants as kind
use Rattle.scc_templates_spec.specs.Walk.{Arg, Value, Sort, Of, Args, Nil, Cons}
use Rattle.scc_templates_spec.specs.World.{Owner, File, In}
use Rattle.scc_templates_spec.specs.Replace.{Bound, unbound}
use Rattle.scc_templates_spec.specs.Source.{Source, Top, OfClass, Outside, Plain, Param}
use Rattle.scc_plain_spec.specs.Types.{Object}
use Rattle.scc_plain_spec.specs.Names.{Entry, IsClass, IsAlias, IsNumbers, IsEnumerator, IsConstant, IsFunction, IsField, Naming, class_at, names_of_members, meaning_in, bound_to, hiding}
use Rattle.scc_plain_spec.specs.Scope.{Body, Scope, Found as Declared, Local, Found_, look}
use Rattle.scc_templates_scopes.specs.declared.entry.Entry.TheVariants as entry
use Rattle.scc_templates_scopes.specs.declared.entry.Entry.{Entry as Held}
use Rattle.scc_templates_scopes.specs.declared.entry.Found.{Found}
use Rattle.scc_templates_scopes.specs.declared.entry.Given.{Given}
use Rattle.scc_templates_scopes.specs.declared.entry.Given.TheVariants as given
use Rattle.scc_templates_scopes.specs.declared.ty.Arg.{Arg as Passed}
use Rattle.scc_templates_scopes.specs.declared.ty.Arg.TheVariants as passed
use Rattle.scc_templates_scopes.specs.declared.ty.InstanceId.{InstanceId}
use Rattle.scc_templates_scopes.specs.Indexed.{held, param_says, params_of, says}
use Rattle.scc_templates.specs.declared.table.Made.{Made}
use Rattle.scc_templates.specs.declared.table.Row.{Row}
use Rattle.scc_templates.specs.declared.table.Instances.{Instances}
use Rattle.scc_templates.specs.declared.session.Templates.{Templates}

-- Arguments of an instance, where the instances before it are these. A class that is an argument stands before it.
abbrev pub object_arg : Option Object → Arg
object_arg None = Sort kind.Bool
object_arg (Some o) = Of o.class o.args

abbrev pub arg_in : List Object → Passed → Arg
arg_in os (passed.Value v) = Value v.kind v.word
arg_in os (passed.Number k) = Sort k
arg_in os (passed.Class i) = object_arg (slice_get os i.0)

abbrev pub args_in : List Object → List Passed → Args
args_in os [] = Nil
args_in os (a ∷ as_given) = Cons (arg_in os a) (args_in os as_given)

abbrev pub row_object : List Object → Row → Object
row_object os r = record { class = r.made.item; args = args_in os r.args }

-- classes with arguments, by the numbers of their instances
abbrev pub objects_behind : List Object → List Row → List Object
objects_behind os [] = os
objects_behind os (r ∷ rs) = objects_behind (os ++ row_object os r ∷ []) rs

abbrev pub objects : Instances → List Object
objects t = objects_behind [] t.rows.items

abbrev pub owner_by : Option Object → Owner
owner_by None = File
owner_by (Some o) = In o.class o.args

abbrev pub owner_in : List Object → Option InstanceId → Owner
owner_in os None = File
owner_in os (Some i) = owner_by (slice_get os i.0)

-- what a name means: a local variable of the body, what stands for a parameter, a declaration and whose it is
pub data Sight : Type 0 where
  OfLocal : (local : ℕ) → Sight
  OfArg : (arg : Arg) → Sight
  OfOwner : (owner : Owner) (entry : Entry) → Sight

abbrev pub sight_of : List Object → Option InstanceId → Held → Sight
sight_of os i (entry.Class n) = OfOwner (owner_in os i) (IsClass n)
sight_of os i (entry.Alias n) = OfOwner (owner_in os i) (IsAlias n)
sight_of os i entry.Numbers = OfOwner (owner_in os i) IsNumbers
sight_of os i (entry.Enumerator n k) = OfOwner (owner_in os i) (IsEnumerator n k)
sight_of os i (entry.Constant n) = OfOwner (owner_in os i) (IsConstant n)
sight_of os i entry.Function = OfOwner (owner_in os i) IsFunction
sight_of os i (entry.Field k) = OfOwner (owner_in os i) (IsField k)
sight_of os i (entry.Argument a) = OfArg (arg_in os a)
sight_of os i (entry.Local n) = OfLocal n

abbrev pub sight_in : List Object → Found → Sight
sight_in os f = sight_of os f.scope f.entry

-- the class body that counts for an instance, by its item: a specialisation, or the class itself
abbrev pub same_made : Made → Made → Bool
same_made a b = nat_eq a.item b.item && nat_eq a.list b.list

abbrev pub special_of : Templates → Made → Option ℕ
special_of t m = lookup (same_made m) t.special.entries

abbrev pub item_of : Templates → ℕ → Option ℕ
item_of t i = option_map (λ r. unwrap_or (special_of t r.made) r.made.item) (slice_get t.table.rows.items i)

abbrev pub args_at : Templates → ℕ → Args
args_at t i = args_in (objects t.table) (unwrap_or (option_map (λ r. r.args) (slice_get t.table.rows.items i)) [])

-- the argument of a number
abbrev pub arg_of : Instances → ℕ → ℕ → Option Passed
arg_of t i k = option_and_then (λ r. slice_get r.args k) (slice_get t.rows.items i)

-- A body is that which counts for an instance. A specialisation has no parameters.
pub record Counts (t : Templates) (s : Source) (i : ℕ) (b : Body) : Type 0 where
  pub item : item_of t i ≡ Some b.item
  pub class : class_at s b.item ≡ Some (record { place = b.place; name = b.name; class = b.class })
  pub bound : b.bound ≡ hiding (names_of_members b.class.members) (bound_to b.class.params (args_at t i))
  pub bare : is_some b.class.special ≡ true → b.class.params ≡ []

-- a member of an instance
abbrev pub member_of : InstanceId → Body → ℕ → Option Found
member_of i b x = option_map (λ e. record { scope = Some i; entry = held e }) (meaning_in (names_of_members b.class.members) x)

-- `X::name`: what the class body declares, or what stands for its parameter
abbrev pub sight_by : Owner → Option Entry → Option Arg → Option Sight
sight_by o (Some e) a = Some (OfOwner o e)
sight_by o None a = option_map OfArg a

abbrev pub scoped_sight : Owner → Body → ℕ → Option Sight
scoped_sight o b x = sight_by o (meaning_in (names_of_members b.class.members) x) (b.bound x)

-- an argument that a running class use has so far
abbrev pub early : Templates → ℕ → ℕ → Option Passed
early t base k = if nat_lt (base + k) 18446744073709551616 then slice_get t.args (base + k) else None

-- the argument of a parameter of the class body that counts
abbrev pub own_arg : Templates → ℕ → ℕ → Option Passed
own_arg t i x = option_and_then (λ n. option_and_then (λ k. arg_of t.table i k) (param_says t.index n x)) (item_of t i)

-- what stands for a parameter where these are known; inside a default those that a class use has so far
abbrev pub given_arg : Templates → Option InstanceId → Given → ℕ → Option Passed
given_arg t o given.Nothing x = None
given_arg t o given.Own x = option_and_then (λ i. own_arg t i.0 x) o
given_arg t o (given.Outside n) x = option_and_then (λ k. option_and_then (λ i. arg_of t.table i.0 k) o) (param_says t.index n x)
given_arg t o (given.Earlier class base count) x = option_and_then (λ k. if nat_le count k then None else early t base k) (param_says t.index class x)

-- the nearest declaration
abbrev pub nearest : Option ℕ → Option Found → Option Passed → Option Held → Option Found
nearest (Some n) o a f = Some (record { scope = None; entry = entry.Local n })
nearest None (Some d) a f = Some d
nearest None None (Some a) f = Some (record { scope = None; entry = entry.Argument a })
nearest None None None f = option_map (λ e. record { scope = None; entry = e }) f

-- a declaration of an instance's class body
abbrev pub declared : Templates → Option InstanceId → ℕ → Option Found
declared t o x = option_and_then (λ i. option_map (λ e. record { scope = Some i; entry = e }) (option_and_then (λ n. option_map held (says t.index (Some n) x)) (item_of t i.0))) o

-- the class body that counts where a context stands
abbrev pub Stands : Templates → Source → Option InstanceId → Option Body → Type 0
Stands t s None None = Unit {0}
Stands t s (Some i) (Some b) = Counts t s i.0 b
Stands t s _ _ = ⊥

abbrev pub own_names : Option Body → List Naming
own_names None = []
own_names (Some b) = names_of_members b.class.members

-- the parameters of a body outside its class, which is that item
abbrev pub outside_params : Source → ℕ → List Param
outside_params s n = unwrap_or (option_map params_of (slice_get s.items n)) []

-- what stands for parameters in a context; of a class's own what its body has for them
abbrev pub bound_in : Templates → Source → Option InstanceId → Option Body → Given → Bound
bound_in t s (Some i) (Some b) given.Own = b.bound
bound_in t s (Some i) (Some b) (given.Outside n) = hiding (names_of_members b.class.members) (bound_to (outside_params s n) (args_at t i.0))
bound_in t s i b g = unbound

-- no default of a template's parameter
abbrev pub IsOpen : Source → Given → Type 0
IsOpen s given.Nothing = Unit {0}
IsOpen s given.Own = Unit {0}
IsOpen s (given.Outside n) = is_some (slice_get s.items n) ≡ true
IsOpen s (given.Earlier class base count) = ⊥

abbrev pub found_sight : Declared → Option Sight
found_sight Local = None
found_sight (Found_ o e) = Some (OfOwner o e)

-- what a name means that is no local variable's: what stands for a parameter, else the nearest declaration
abbrev pub sight_else : Option Arg → Option Declared → Option Sight
sight_else (Some a) d = Some (OfArg a)
sight_else None d = option_and_then found_sight d

abbrev pub sight : Source → Option ℕ → Owner → List Naming → Bound → ℕ → Option Sight
sight s (Some n) o own b x = Some (OfLocal n)
sight s None o own b x = sight_else (b x) (look s (record { owner = o; own = own; is_local = λ x. false }) x)

-- the item of a class, where a name means one
abbrev pub class_item : Option Entry → Option ℕ
class_item (Some (IsClass n)) = Some n
class_item _ = None
