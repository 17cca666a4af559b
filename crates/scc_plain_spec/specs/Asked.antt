-- What the calls on constants and classes give and meet (ISO C++ [expr.const], [temp.inst]): each begins a chain of its own.
use Rattle.std.specs.Prelude.{ℕ, List, [], ◌∷◌, Option, Some, None}
use Rattle.scc_base.specs.declared.refusal.Place.{Place}
use Rattle.scc_base.specs.declared.code.Code.TheVariants as reason
use Rattle.scc_bits.specs.Value.{Number}
use Rattle.scc_templates_spec.specs.Walk.{Arg, Value, Sort, Of, Args, Nil, Cons}
use Rattle.scc_templates_spec.specs.Walked.{Walked, pure, fault, and_walk}
use Rattle.scc_templates_spec.specs.World.{Owner, World}
use Rattle.scc_templates_spec.specs.Tree.{Tree, TyArgs, place_of}
use Rattle.scc_plain_spec.specs.Numbers.{number}
use Rattle.scc_plain_spec.specs.Types.{Object, one, OfNumber, OfObject}
use Rattle.scc_templates_spec.specs.Source.{Source, Param}
use Rattle.scc_plain_spec.specs.Names.{Entry, IsClass, Named, class_at, file_names, meaning_in}
use Rattle.scc_plain_spec.specs.Scope.{Answer, in_file}
use Rattle.scc_plain_spec.specs.Uses.{class_use, value_arg, type_args, more_args}
use Rattle.scc_plain_spec.specs.Constants.{given}
use Rattle.scc_plain_spec.specs.Meaning.{site_of, value_at}
use Rattle.scc_plain_spec.specs.Keys.{outermost}

module _ (s : Source) (w : World Answer) where
  -- the value of an expression in the scope of an owner
  abbrev pub value_in : Owner → Tree → Walked Number
  value_in o e = and_walk (site_of s w o (place_of e)) (λ at. value_at s w at.scope at.bound e)

  -- an argument that is handed in, for its parameter, as if it were written at the place (E306, E307)
  abbrev pub handed_one : Place → Param → Arg → Walked Arg
  handed_one p q (Value k v) = value_arg q p (pure (number k v)) (fault reason.Arguments p)
  handed_one p q (Sort k) = type_args q p (pure (one (OfNumber k))) (fault reason.Arguments p)
  handed_one p q (Of c as_given) = type_args q p (pure (one (OfObject c as_given))) (fault reason.Arguments p)

  -- all, and no more than parameters (E307)
  abbrev pub handed : Place → Args → List Param → Walked Args
  handed p Nil ps = pure Nil
  handed p (Cons a as_given) [] = fault reason.Arguments p
  handed p (Cons a as_given) (q ∷ qs) = and_walk (handed_one p q a) (λ b. more_args b (handed p as_given qs))

  -- a specialisation has its own arguments, and takes no others: it stands for its template with them
  abbrev pub own_use : Place → TyArgs → Option Entry → Walked Object
  own_use p ts (Some (IsClass n)) = class_use s w n p (λ ps. given s w in_file p ps ts) (class_at s n)
  own_use p ts e = fault reason.UnknownName p

  abbrev pub special_use : Place → Named → TyArgs → Args → Walked Object
  special_use p k ts Nil = own_use p ts (meaning_in (file_names s) k.name)
  special_use p k ts (Cons a as_given) = fault reason.Arguments p

  abbrev pub use_of : ℕ → Args → Place → Option Named → Walked Object
  use_of c as_given p None = fault reason.UnknownName p
  use_of c as_given p (Some k) = by_special k.class.special
    where
      by_special : Option TyArgs → Walked Object
      by_special None = class_use s w c p (handed p as_given) (Some k)
      by_special (Some ts) = special_use p k ts as_given

abbrev pub constant_of : Source → Owner → Tree → Walked Number
constant_of s o e = value_in s (outermost s) o e

-- the class with arguments, and the defaults of those that are missing
abbrev pub instance_of : Source → ℕ → Args → Place → Walked Object
instance_of s c as_given p = use_of s (outermost s) c as_given p (class_at s c)
