-- What names mean in constants and types, and arguments of templates (ISO C++ [temp.arg], [temp.inst]): the defaults of missing arguments behind those that are written.
use Rattle.std.specs.Prelude.{ℕ, Bool, true, false, List, [], ◌∷◌, Option, Some, None, if◌then◌else◌}
use Rattle.std.specs.List.{list_any}
use Rattle.scc_base.specs.declared.refusal.Place.{Place}
use Rattle.scc_base.specs.declared.code.Code.TheVariants as reason
use Rattle.scc_bits_kinds.specs.declared.kind.Kind.{Kind}
use Rattle.scc_bits.specs.Value.{Number}
use Rattle.scc_templates_spec.specs.Walk.{Arg, Value, Args, Nil, Cons, Need, Class}
use Rattle.scc_templates_spec.specs.Walked.{Walked, pure, fault, meets, and_walk}
use Rattle.scc_templates_spec.specs.World.{Owner, In, Key, Constant, Alias, Default, World}
use Rattle.scc_templates_spec.specs.Tree.{Tree, Name, Ty, Named, TyArgs, NoArgs, ByValue, ByType}
use Rattle.scc_plain_spec.specs.Numbers.{int, converted, held}
use Rattle.scc_plain_spec.specs.Types.{Typed, Object, one, OfNumber, OfObject, sort_kind, type_arg}
use Rattle.scc_templates_spec.specs.Source.{Source, Param}
use Rattle.scc_plain_spec.specs.Names.{Entry, IsClass, IsAlias, IsNumbers, IsEnumerator, IsConstant, IsFunction, IsField, Named as ClassNamed, class_at, meaning_in, names_of_members}
use Rattle.scc_plain_spec.specs.Scope.{Answer, Scope, Found, Local, Found_, Body, number_of, type_of, arg_of, look, class_body, specials_at}
use Rattle.scc_plain_spec.specs.Parts.{Thing, Valued, Function, given_thing}

-- the name that an argument is by itself
abbrev pub bare_name : Tree → Option ℕ
bare_name (Name p x) = Some x
bare_name t = None

abbrev pub bare_type_name : Ty → Option ℕ
bare_type_name (Named p x bracketed ts) = Some x
bare_type_name t = None

abbrev pub more_args : Arg → Walked Args → Walked Args
more_args a rest = and_walk rest (λ as_given. pure (Cons a as_given))

-- an argument of a parameter, as a number in its kind (E304, E306) or as a type (E307)
abbrev pub value_arg : Param → Place → Walked Number → Walked Arg → Walked Arg
value_arg q p n wrong = by_sort (sort_kind q.sort)
  where
    by_sort : Option Kind → Walked Arg
    by_sort None = wrong
    by_sort (Some k) = and_walk n (λ n. and_walk (converted p k n) (λ c. and_walk (held p k n) (λ h. pure (Value h.kind h.word))))

abbrev pub type_args : Param → Place → Walked Typed → Walked Arg → Walked Arg
type_args q p t wrong = by_sort (sort_kind q.sort)
  where
    by_sort : Option Kind → Walked Arg
    by_sort None = and_walk t (type_arg p)
    by_sort (Some k) = wrong

-- the parameters behind the first ones
abbrev pub behind : List Param → Args → List Param
behind qs Nil = qs
behind [] (Cons a as_given) = []
behind (q ∷ qs) (Cons a as_given) = behind qs as_given

abbrev pub with_last : Args → Arg → Args
with_last Nil a = Cons a Nil
with_last (Cons x xs) a = Cons x (with_last xs a)

abbrev pub has_no_preset : Param → Bool
has_no_preset q = by_preset q.preset
  where
    by_preset : TyArgs → Bool
    by_preset NoArgs = true
    by_preset (ByValue t ts) = false
    by_preset (ByType t ts) = false

module _ (s : Source) where
  -- an argument of the other sort than its parameter: E307, or E301 where it is a name that nothing declares
  abbrev pub wrong_sort : Scope → Place → Option ℕ → Walked Arg
  wrong_sort c p None = fault reason.Arguments p
  wrong_sort c p (Some x) = by_found (look s c x)
    where
      by_found : Option Found → Walked Arg
      by_found None = fault reason.UnknownName p
      by_found (Some f) = fault reason.Arguments p

  module _ (w : World Answer) where
    abbrev pub filled : ℕ → Place → List Param → Args → Walked Args
    filled c p [] as_given = pure as_given
    filled c p (q ∷ qs) as_given = and_walk (and_walk (w (Default c as_given) p) (arg_of p)) (λ a. filled c p qs (with_last as_given a))

    -- with the defaults of the missing ones; one without a default is refused before any is worked out (E307)
    abbrev pub completed : ℕ → Place → List Param → Args → Walked Args
    completed c p qs as_given = if list_any has_no_preset (behind qs as_given) then fault reason.Arguments p else filled c p (behind qs as_given) as_given

    -- a class with arguments is needed, and then what its specialisations need
    abbrev pub class_use : ℕ → Place → (List Param → Walked Args) → Option ClassNamed → Walked Object
    class_use c p written None = fault reason.UnknownName p
    class_use c p written (Some k) = and_walk (and_walk (written k.class.params) (completed c p k.class.params)) (λ as_given.
        and_walk (meets (Need (Class c as_given) p)) (λ u. and_walk (specials_at s w c p (Some k)) (λ all. pure (record { class = c; args = as_given }))))

    abbrev pub as_type : Walked Object → Walked Typed
    as_type o = and_walk o (λ o. pure (one (OfObject o.class o.args)))

    abbrev pub type_named : Place → Owner → Entry → (List Param → Walked Args) → Bool → Walked Typed
    type_named p o (IsClass n) written bracketed = as_type (class_use n p written (class_at s n))
    type_named p o e written true = fault reason.Arguments p
    type_named p o (IsAlias i) written false = and_walk (w (Alias o i) p) (type_of p)
    type_named p o IsNumbers written false = pure (one (OfNumber int))
    type_named p o e written false = fault reason.Mismatch p

    -- a named type, given its arguments for a class's parameters
    abbrev pub type_meant : Place → Bool → Option Found → (List Param → Walked Args) → Walked Typed
    type_meant p bracketed None written = fault reason.UnknownName p
    type_meant p bracketed (Some Local) written = if bracketed then fault reason.Arguments p else fault reason.Mismatch p
    type_meant p bracketed (Some (Found_ o e)) written = type_named p o e written bracketed

    abbrev pub asked : Key → Place → Walked Thing
    asked k p = and_walk (and_walk (w k p) (number_of p)) (λ n. pure (Valued n))

    abbrev pub entry_meant : Place → ℕ → Owner → Entry → Walked Thing
    entry_meant p x o (IsConstant i) = asked (Constant o i 0) p
    entry_meant p x o (IsEnumerator i e) = asked (Constant o i e) p
    entry_meant p x o IsFunction = pure (Function o x p)
    entry_meant p x o (IsField k) = fault reason.NotConstant p
    entry_meant p x o e = fault reason.Mismatch p

    -- a name in a constant; a variable is none (E305)
    abbrev pub thing_meant : Place → ℕ → Option Found → Walked Thing
    thing_meant p x None = fault reason.UnknownName p
    thing_meant p x (Some Local) = fault reason.NotConstant p
    thing_meant p x (Some (Found_ o e)) = entry_meant p x o e

    -- `X::name`: what the class body declares, or what stands for its parameter
    abbrev pub member_thing : Place → ℕ → Option Object → Walked Thing
    member_thing p x None = fault reason.UnknownName p
    member_thing p x (Some o) = and_walk (class_body s w o.class o.args p) (λ b. by_entry b (meaning_in (names_of_members b.class.members) x))
      where
        by_arg : Option Arg → Walked Thing
        by_arg None = fault reason.UnknownName p
        by_arg (Some a) = given_thing p a

        by_entry : Body → Option Entry → Walked Thing
        by_entry b (Some e) = entry_meant p x (In o.class o.args) e
        by_entry b None = by_arg (b.bound x)
