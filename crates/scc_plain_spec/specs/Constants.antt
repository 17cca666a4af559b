-- Constant expressions and types without parameters, by substitution, with the walk that finds them: operands before their operator, left before right (ISO C++
-- [expr.const], [dcl.type], [temp.arg]). No constant has a part that is read, picked or called but by the calls of the language on numbers.
use Rattle.std.specs.Prelude.{List, [], ◌∷◌, if◌then◌else◌}
use Rattle.scc_base.specs.declared.refusal.Place.{Place}
use Rattle.scc_base.specs.declared.code.Code.TheVariants as reason
use Rattle.scc_bits_kinds.specs.declared.kind.Kind.TheVariants as kind
use Rattle.scc_bits.specs.Value.{Number}
use Rattle.scc_templates_spec.specs.Walk.{Arg, Args, Need, Class}
use Rattle.scc_templates_spec.specs.Walk as walk
use Rattle.scc_templates_spec.specs.Walked.{Walked, pure, fault, and_walk}
use Rattle.scc_templates_spec.specs.World.{World}
use Rattle.scc_templates_spec.specs.Tree.{Tree, Given, This, Null, Text, Name, Scoped, Operate, Before, Choose, Cast, Index, Dot, Arrow, Call, Concat, Make, Trees, Nil, Cons, Ty, OfKind, Sized, Input, Output, Signal, Vector, ModuleName, Named, GivenTy, TyArgs, NoArgs, ByValue, ByType, place_of, place_at, count}
use Rattle.scc_templates_spec.specs.Tree as tree
use Rattle.scc_plain_spec.specs.Numbers.{number, operated, chosen, concatenated, converted, is_true}
use Rattle.scc_plain_spec.specs.Types.{Typed, one, OfNumber, InPort, OutPort, OfSignal, OfName, kind_in, object_in, sized, port, vector, type_given}
use Rattle.scc_templates_spec.specs.Source.{Source, Param}
use Rattle.scc_plain_spec.specs.Scope.{Answer, Scope, look}
use Rattle.scc_plain_spec.specs.Functions.{is_found}
use Rattle.scc_plain_spec.specs.Parts.{Thing, Valued, Other, demanded, given_thing, before_one, cast_to, dotted, behind_call}
use Rattle.scc_plain_spec.specs.Uses.{thing_meant, type_meant, member_thing, wrong_sort, value_arg, more_args, type_args, bare_name, bare_type_name}

module _ (s : Source) (w : World Answer) (c : Scope) where
  abbrev mutual
    -- what an expression names before it is taken as a value
    pub thing : Tree → Walked Thing
    thing (tree.Number p k v) = pure (Valued (number k v))
    thing (Given p a) = given_thing p a
    thing (This p) = fault reason.NotConstant p
    thing (Null p) = pure Other
    thing (Text p) = pure Other
    thing (Name p x) = thing_meant s w p x (look s c x)
    thing (Scoped p t x) = and_walk (typed t) (λ y. member_thing s w p x (object_in y))
    thing (Operate p at o a b) = and_walk (demanded (place_of a) (thing a)) (λ x. and_walk (demanded (place_of b) (thing b)) (λ y. and_walk (operated at o x y) (λ z. pure (Valued z))))
    thing (Before p o a) = and_walk (thing a) (before_one p (place_of a) o)
    thing (Choose p t a b) = and_walk (and_walk (demanded (place_of t) (thing t)) (converted (place_of t) kind.Bool)) (λ x. and_walk (demanded (place_of a) (thing a)) (λ y. and_walk (demanded (place_of b) (thing b)) (λ z.
        and_walk (chosen p (is_true x) y z) (λ v. pure (Valued v)))))
    thing (Cast p t a) = and_walk (typed t) (λ y. and_walk (demanded (place_of a) (thing a)) (cast_to p (kind_in y)))
    thing (Index p a i) = and_walk (thing a) (λ x. and_walk (demanded (place_of i) (thing i)) (λ y. fault reason.Mismatch p))
    thing (Dot p own a x) = and_walk (thing a) (dotted p own x)
    thing (Arrow p own a x) = and_walk (thing a) (λ y. fault reason.Mismatch p)
    thing (Call p a xs) = and_walk (thing a) (behind_call (is_found s w) p (count xs) (each xs) (any xs))
    thing (Concat p xs) = and_walk (each xs) (λ ns. and_walk (concatenated p ns) (λ n. pure (Valued n)))
    thing (Make p t xs) = fault reason.Mismatch p

    -- the values of all
    pub each : Trees → Walked (List Number)
    each Nil = pure []
    each (Cons t ts) = and_walk (demanded (place_of t) (thing t)) (λ n. and_walk (each ts) (λ ns. pure (n ∷ ns)))

    -- arguments that nothing takes: of a `new` its own
    pub any : Trees → Walked (Unit {0})
    any Nil = pure tt
    any (Cons (Make p t xs) ts) = and_walk (any xs) (λ u. any ts)
    any (Cons t ts) = and_walk (thing t) (λ x. any ts)

    pub typed : Ty → Walked Typed
    typed (OfKind p k) = pure (one (OfNumber k))
    typed (Sized p f t) = and_walk (demanded (place_of t) (thing t)) (sized (place_of t) f)
    typed (Input p t) = and_walk (typed t) (port InPort (place_at t))
    typed (Output p t) = and_walk (typed t) (port OutPort (place_at t))
    typed (Signal p t) = and_walk (typed t) (port OfSignal (place_at t))
    typed (Vector p t) = and_walk (typed t) (vector (place_at t))
    typed (ModuleName p) = pure (one OfName)
    typed (Named p x bracketed ts) = type_meant s w p bracketed (look s c x) (λ ps. given p ps ts)
    typed (GivenTy p a bracketed) = if bracketed then fault reason.Arguments p else type_given p a

    -- arguments as they are written, each for its parameter (E307 where there are more than parameters, or one of the other sort)
    pub given : Place → List Param → TyArgs → Walked Args
    given p ps NoArgs = pure walk.Nil
    given p [] (ByValue t ts) = fault reason.Arguments p
    given p [] (ByType t ts) = fault reason.Arguments p
    given p (q ∷ qs) (ByValue t ts) = and_walk (value_arg q (place_of t) (demanded (place_of t) (thing t)) (wrong_sort s c (place_of t) (bare_name t))) (λ a. more_args a (given p qs ts))
    given p (q ∷ qs) (ByType t ts) = and_walk (type_args q (place_at t) (typed t) (wrong_sort s c (place_at t) (bare_type_name t))) (λ a. more_args a (given p qs ts))
