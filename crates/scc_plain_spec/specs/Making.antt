-- Objects that are made with arguments (ISO C++ [expr.new], [class.ctor]; IEEE 1666-2011, 5.2, 5.3, 8.5).
use Rattle.std.specs.Prelude.{ℕ, suc, nat_eq, nat_le, Bool, true, false, not, ◌&&◌, ◌||◌, List, [], ◌∷◌, length, find, Option, Some, None, is_some, if◌then◌else◌}
use Rattle.std.specs.List.{list_all}
use Rattle.scc_base.specs.declared.refusal.Place.{Place}
use Rattle.scc_base.specs.declared.code.Code.TheVariants as reason
use Rattle.scc_bits_kinds.specs.declared.kind.Kind.TheVariants as kind
use Rattle.scc_templates_spec.specs.Walk.{Args, Constructs}
use Rattle.scc_templates_spec.specs.Walked.{Walked, pure, fault, and_walk}
use Rattle.scc_templates_spec.specs.World.{World, In}
use Rattle.scc_elab_spec.specs.Term.{Argument}
use Rattle.scc_templates_spec.specs.Tree.{Trees, Ty, place_at, count}
use Rattle.scc_plain_spec.specs.Types.{Base, OfNumber, OfObject, OfName, Typed}
use Rattle.scc_templates_spec.specs.Source.{Source}
use Rattle.scc_plain_spec.specs.Scope.{Answer, Body, class_body}
use Rattle.scc_plain_spec.specs.Functions.{Routine, routine_of, functions_in, is_named}
use Rattle.scc_plain_spec.specs.Constants.{typed}
use Rattle.scc_plain_spec.specs.Forms.{Form, direct, is_like}
use Rattle.scc_plain_spec.specs.Meant.{is_name}
use Rattle.scc_plain_spec.specs.Room.{Around, Known, scope_in, Step, done, found, and_step}
use Rattle.scc_plain_spec.specs.Shapes.{Signature, signature}
use Rattle.scc_plain_spec.specs.Expressions.{any, arguments}

-- whether a class declares a constructor, and its body and what it takes, if it has one
pub record Construction : Type 0 where
  pub is_module : Bool
  pub declared : Bool
  pub routine : Option Routine

pub record Constructor : Type 0 where
  pub is_module : Bool
  pub declared : Bool
  pub signature : Option Signature

abbrev pub are_names : List Form → Bool
are_names fs = list_all (λ f. is_name f.base) fs

module _ (s : Source) (w : World Answer) where
  abbrev pub signed : ℕ → Args → Place → Option Routine → Walked (Option Signature)
  signed c as_given p None = pure None
  signed c as_given p (Some r) = and_walk (signature s w (In c as_given) r p) (λ g. pure (Some g))

  abbrev pub declares_constructor : Body → Bool
  declares_constructor b = is_some (find (is_named b.name true) (functions_in b.class.members))

  -- asked for at a place
  abbrev pub construction : ℕ → Args → Place → Walked Construction
  construction c as_given p = and_walk (class_body s w c as_given p) (λ b. and_walk (routine_of s w (Constructs c as_given) p) (λ r.
      pure (record { is_module = b.class.is_module; declared = declares_constructor b; routine = r })))

  abbrev pub constructor_of : ℕ → Args → Place → Walked Constructor
  constructor_of c as_given p = and_walk (construction c as_given p) (λ k. and_walk (signed c as_given p k.routine) (λ g.
      pure (record { is_module = k.is_module; declared = k.declared; signature = g })))

  -- what is made without arguments: its constructor has a body (E301 at a name), and no parameters but names (E304 at a place)
  abbrev pub bare : Place → Place → Constructor → Walked (Unit {0})
  bare p name k = by_signature k.signature
    where
      by_signature : Option Signature → Walked (Unit {0})
      by_signature None = if k.declared then fault reason.UnknownName name else pure tt
      by_signature (Some g) = if are_names g.params then pure tt else fault reason.Mismatch p

  abbrev pub made_bare : ℕ → Args → Place → Place → Walked (Unit {0})
  made_bare c as_given p name = and_walk (constructor_of c as_given name) (bare p name)

  -- the elements of a vector, which are made without arguments
  abbrev pub elements : Place → Place → Base → Walked (Unit {0})
  elements p name (OfObject c as_given) = made_bare c as_given p name
  elements p name b = pure tt

  module _ (a : Around) (ks : List Known) (late : Bool) (xs : Trees) where
    -- at most one argument for each form (E304)
    abbrev pub given : Place → List Form → Step (List Argument)
    given p fs = and_step (arguments s w a ks late fs xs) (λ as_given. if nat_le (count xs) (length fs) then done as_given else found (fault reason.Mismatch p))

    -- A module may have its name before a constructor's arguments, and none are needed where all are names (E304). Without a constructor there are no arguments, and
    -- one that is declared has a body (E301 at a name).
    abbrev pub leading : Bool → List Form → List Form
    leading is_module fs = if is_module && nat_eq (count xs) (suc (length fs)) then direct OfName ∷ fs else fs

    abbrev pub fits : List Form → List Form → Bool
    fits wanted fs = nat_eq (count xs) (length wanted) || (nat_eq (count xs) 0 && are_names fs)

    abbrev pub constructed : Place → List Form → List Form → Step (List Argument)
    constructed p wanted fs = and_step (arguments s w a ks late wanted xs) (λ as_given. if fits wanted fs then done as_given else found (fault reason.Mismatch p))

    abbrev pub by_constructor : Place → Place → Constructor → Step (List Argument)
    by_constructor p name k = by_signature k.signature
      where
        by_signature : Option Signature → Step (List Argument)
        by_signature None = if k.declared || not (nat_eq (count xs) 0) then found (fault reason.UnknownName name) else done []
        by_signature (Some g) = constructed p (leading k.is_module g.params) g.params

    -- the arguments of what is made of a form's type: at a place, and the place of the type's name
    abbrev pub make_args : Place → Place → Base → Bool → Step (List Argument)
    make_args p name b true = and_step (given p (direct OfName ∷ direct (OfNumber (kind.Native 64 false)) ∷ [])) (λ as_given. and_step (found (elements p name b)) (λ u. done as_given))
    make_args p name (OfObject c as_given) false = and_step (found (constructor_of c as_given name)) (by_constructor p name)
    make_args p name (OfNumber k) false = given p (if nat_eq (count xs) 1 then direct (OfNumber k) ∷ [] else [])
    make_args p name OfName false = and_step (any s w a ks late xs) (λ u. found (fault reason.Mismatch p))
    make_args p name b false = given p (direct OfName ∷ [])

    abbrev pub form_in : Typed → Form
    form_in t = record { base = t.base; reach = (direct t.base).reach; vector = t.vector; dims = 0 }

    -- `new`, which has to be of a form's type (E304)
    abbrev pub made : Place → Ty → Form → Step (List Argument)
    made p t f = and_step (found (typed s w (scope_in a ks) t)) (λ y. and_step (make_args p (place_at t) y.base y.vector) (λ as_given.
        if is_like (form_in y) f then done as_given else found (fault reason.Mismatch p)))
