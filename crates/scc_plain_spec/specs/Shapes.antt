-- What declared variables and parameters hold, and what functions take and give (ISO C++ [dcl.decl], [dcl.fct]).
use Rattle.std.specs.Prelude.{ℕ, nat_lt, nat_le, Bool, true, false, not, ◌&&◌, List, [], ◌∷◌, Option, Some, None, if◌then◌else◌}
use Rattle.scc_base.specs.declared.refusal.Place.{Place}
use Rattle.scc_base.specs.declared.code.Code.TheVariants as reason
use Rattle.scc_bits_kinds.specs.declared.kind.Kind.{Kind}
use Rattle.scc_bits.specs.Value.{Number}
use Rattle.scc_tree.specs.declared.local.Hold.{Hold}
use Rattle.scc_templates_spec.specs.Walk.{Args, Callee, OfFile, OfClass, Constructs}
use Rattle.scc_templates_spec.specs.Walked.{Walked, pure, fault, and_walk}
use Rattle.scc_templates_spec.specs.World.{Owner, File, In, World}
use Rattle.scc_elab_spec.specs.Program.{Reach, Direct}
use Rattle.scc_templates_spec.specs.Tree.{Trees, Nil, Cons, Ty, place_of}
use Rattle.scc_templates_spec.specs.Replace.{Bound, replace_type, replace_all}
use Rattle.scc_plain_spec.specs.Numbers.{small}
use Rattle.scc_plain_spec.specs.Types.{Base, OfNumber, OfName, kind_in}
use Rattle.scc_templates_spec.specs.Source.{Source, Field, Taken as Param}
use Rattle.scc_plain_spec.specs.Names.{field_in}
use Rattle.scc_plain_spec.specs.Scope.{Answer, Scope, class_body, scope_of}
use Rattle.scc_plain_spec.specs.Parts.{demanded}
use Rattle.scc_plain_spec.specs.Constants.{thing, typed}
use Rattle.scc_plain_spec.specs.Functions.{Routine}
use Rattle.scc_plain_spec.specs.Meaning.{site_of}
use Rattle.scc_plain_spec.specs.Forms.{Form, Shape, reach_of, form_of}

-- the size of an array (E303)
abbrev pub size : Place → Number → Walked ℕ
size p n = by_small (small n)
  where
    by_small : Option ℕ → Walked ℕ
    by_small None = fault reason.Width p
    by_small (Some n) = if nat_lt 0 n && nat_le n 65536 then pure n else fault reason.Width p

-- what a function takes and gives
pub record Signature : Type 0 where
  pub params : List Form
  pub result : Option Kind

-- a parameter is a number, a pointer or a reference; a constructor's may be a module's name
abbrev pub may_be_param : Bool → Form → Bool
may_be_param constructor f = by_reach f.reach
  where
    by_base : Base → Bool
    by_base (OfNumber k) = not f.vector
    by_base OfName = constructor
    by_base b = false

    by_reach : Reach → Bool
    by_reach Direct = by_base f.base
    by_reach r = true

-- whose a function is
abbrev pub owner_of : Callee → Owner
owner_of (OfFile x) = File
owner_of (OfClass c as_given x) = In c as_given
owner_of (Constructs c as_given) = In c as_given

module _ (s : Source) (w : World Answer) where
  abbrev pub sizes : Scope → Trees → Walked (List ℕ)
  sizes c Nil = pure []
  sizes c (Cons t ts) = and_walk (and_walk (demanded (place_of t) (thing s w c t)) (size (place_of t))) (λ n. and_walk (sizes c ts) (λ ns. pure (n ∷ ns)))

  -- a type without parameters with what stands round a name
  abbrev pub shape : Scope → Ty → Hold → Trees → Walked Shape
  shape c t h ts = and_walk (typed s w c t) (λ y. and_walk (sizes c ts) (λ ns. pure (record { base = y.base; reach = reach_of h; vector = y.vector; sizes = ns })))

  -- a member variable of a class with arguments, by its number, asked for at a place
  abbrev pub field_shape : ℕ → Args → ℕ → Place → Walked Shape
  field_shape c as_given n p = and_walk (class_body s w c as_given p) (λ b. by_field (field_in b.class.members n) (scope_of s w c as_given b) b.bound)
    where
      by_field : Option Field → Scope → Bound → Walked Shape
      by_field None at b = fault reason.UnknownName p
      by_field (Some f) at b = shape at (replace_type b f.type) f.hold (replace_all b f.sizes)

  abbrev pub field_form : ℕ → Args → ℕ → Place → Walked Form
  field_form c as_given n p = and_walk (field_shape c as_given n p) (λ s. pure (form_of s))

  -- a result is a number, or none (E304 at the function's name)
  abbrev pub result_of : Scope → Bound → Place → Option Ty → Walked (Option Kind)
  result_of c b p None = pure None
  result_of c b p (Some t) = and_walk (typed s w c (replace_type b t)) (λ y. by_kind (kind_in y))
    where
      by_kind : Option Kind → Walked (Option Kind)
      by_kind None = fault reason.Mismatch p
      by_kind (Some k) = pure (Some k)

  abbrev pub param_form : Scope → Bound → Bool → Param → Walked Form
  param_form c b constructor q = and_walk (shape c (replace_type b q.type) q.hold Nil) (λ s. if may_be_param constructor (form_of s) then pure (form_of s) else fault reason.Mismatch q.place)

  abbrev pub param_forms : Scope → Bound → Bool → List Param → Walked (List Form)
  param_forms c b constructor [] = pure []
  param_forms c b constructor (q ∷ qs) = and_walk (param_form c b constructor q) (λ f. and_walk (param_forms c b constructor qs) (λ fs. pure (f ∷ fs)))

  abbrev pub signature : Owner → Routine → Place → Walked Signature
  signature o r p = and_walk (site_of s w o p) (λ at. and_walk (result_of at.scope r.bound r.function.place r.function.result) (λ k.
      and_walk (param_forms at.scope r.bound r.function.constructor r.function.params) (λ fs. pure (record { params = fs; result = k }))))
