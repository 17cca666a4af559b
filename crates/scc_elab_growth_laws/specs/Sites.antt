-- What stands where, by what is made alone; and where the statements of constructors stand.
use Rattle.std.specs.Prelude.{◌≡◌, ℕ, Bool, false, not, ◌||◌, List, Option, Some, None, option_map, option_and_then, slice_get, is_some, unwrap_or, if◌then◌else◌}
use Rattle.scc_bits_kinds.specs.declared.kind.Kind.{Kind}
use Rattle.scc_semantics.specs.Location.{Location, Part, Root, Local}
use Rattle.scc_elab_spec.specs.Program.{Plain, Class, Function, Member}
use Rattle.scc_elab_spec.specs.Design.{Object, Module, class_of}
use Rattle.scc_elab_spec.specs.Types.{is_direct}
use Rattle.scc_elab_spec.specs.Grown.{Grown, thing_at, pointer_at, node_of, variable_kind}
use Rattle.scc_elab_spec.specs.Worth.{is_inside, direct_kind, or_kind}
use Rattle.scc_elab_spec.specs.Made.{function_of}

-- the constructor whose locals stand at an object's number
abbrev pub constructor_in : Plain → Grown → ℕ → Option Function
constructor_in p g i = option_and_then (λ o. option_and_then (λ c. option_and_then (λ k. option_and_then (slice_get p.functions) k.constructor) (slice_get p.classes c)) (class_of o.node)) (slice_get g.objects i)

abbrev pub if_inside : List Part → Member → Option Member
if_inside path m = if is_inside m.shape.sizes path then Some m else None

abbrev pub local_in : Plain → Grown → Location → Root → Option Member
local_in p g l (Local i cs n) = option_and_then (if_inside l.path) (option_and_then (λ f. slice_get f.locals n) (constructor_in p g i))
local_in p g l r = None

-- the kind of the number that stands there, if any, and whether a pointer or reference does
abbrev pub kind_in : Plain → Grown → Location → Option Kind
kind_in p g l = or_kind (option_and_then direct_kind (local_in p g l l.root)) (variable_kind (option_and_then (node_of g) (thing_at g l)))

abbrev pub points : Option Member → Bool
points m = unwrap_or (option_map (λ m. not (is_direct m.shape.reach)) m) false

abbrev pub points_in : Plain → Grown → Location → Bool
points_in p g l = is_some (pointer_at g l) || points (local_in p g l l.root)

-- the object of that number is one of the class whose constructor is that function
pub record IsOf (p : Plain) (f : Function) (n : ℕ) (g : Grown) : Type 0 where
  pub object : Object
  pub number : ℕ
  pub class : Class
  pub there : slice_get g.objects n ≡ Some object
  pub node : object.node ≡ Module number
  pub known : slice_get p.classes number ≡ Some class
  pub function : f ≡ function_of p class
