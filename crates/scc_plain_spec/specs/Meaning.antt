-- What constants, enumerators, type names, defaults, specialisations and bodies outside classes mean, in a world for what they ask (ISO C++ [dcl.enum], [dcl.typedef],
-- [temp.param], [temp.expl.spec]).
use Rattle.std.specs.Prelude.{ℕ, zero, suc, ◌+◌, ◌%◌, nat_eq, Bool, true, false, ◌&&◌, List, [], ◌∷◌, Option, Some, None, slice_get, if◌then◌else◌}
use Rattle.scc_base.specs.declared.refusal.Place.{Place}
use Rattle.scc_base.specs.declared.code.Code.TheVariants as reason
use Rattle.scc_bits_kinds.specs.declared.kind.Kind.{Kind}
use Rattle.scc_bits.specs.Value.{Number}
use Rattle.scc_tree.specs.declared.item.ParamSort.{ParamSort}
use Rattle.scc_tree.specs.declared.item.ParamSort.TheVariants as sort
use Rattle.scc_templates_spec.specs.Walk.{Args, Nil, Cons}
use Rattle.scc_templates_spec.specs.Walked.{Walked, pure, fault, and_walk}
use Rattle.scc_templates_spec.specs.World.{Owner, File, In, Constant, World}
use Rattle.scc_templates_spec.specs.Tree.{Tree, Ty, Named, TyArgs, NoArgs, ByValue, ByType, place_of}
use Rattle.scc_templates_spec.specs.Replace.{Bound, unbound, replace, replace_type}
use Rattle.scc_plain_spec.specs.Numbers.{int, number, converted, held}
use Rattle.scc_plain_spec.specs.Types.{Typed, kind_in}
use Rattle.scc_templates_spec.specs.Source.{Source, Top, OfClass, Outside, Plain, Class, Item, Said, Numbers, Enumerator, Param, Function}
use Rattle.scc_templates_spec.specs.Source as source
use Rattle.scc_plain_spec.specs.Names.{Named as ClassNamed, item_in, file_item}
use Rattle.scc_plain_spec.specs.Scope.{Answer, Arg_, Fitted, Outer, Exact, General, Scope, in_file, number_of, class_body, scope_of}
use Rattle.scc_plain_spec.specs.Parts.{demanded}
use Rattle.scc_plain_spec.specs.Uses.{completed, bare_name}
use Rattle.scc_plain_spec.specs.Constants.{thing, typed, given}

-- whether a body outside its class speaks of all arguments, by the class's own parameters in their order
abbrev pub same_sort : ParamSort → ParamSort → Bool
same_sort sort.Int sort.Int = true
same_sort sort.Unsigned sort.Unsigned = true
same_sort sort.Bool sort.Bool = true
same_sort sort.Class sort.Class = true
same_sort _ _ = false

abbrev pub is_name : ℕ → Option ℕ → Bool
is_name x None = false
is_name x (Some y) = nat_eq x y

abbrev pub unbracketed : Ty → Option ℕ
unbracketed (Named p x false ts) = Some x
unbracketed t = None

abbrev pub is_general : List Param → TyArgs → List Param → Bool
is_general [] NoArgs [] = true
is_general (p ∷ ps) (ByValue t ts) (q ∷ qs) = is_name p.name (bare_name t) && (same_sort p.sort q.sort && is_general ps ts qs)
is_general (p ∷ ps) (ByType t ts) (q ∷ qs) = is_name p.name (unbracketed t) && (same_sort p.sort q.sort && is_general ps ts qs)
is_general _ _ _ = false

-- where an owner's declarations stand
pub record Site : Type 0 where
  pub scope : Scope
  pub bound : Bound
  pub item : ℕ → Option Item

abbrev pub first_arg : Args → Place → Walked Answer
first_arg Nil p = fault reason.Arguments p
first_arg (Cons a as_given) p = pure (Arg_ a)

module _ (s : Source) (w : World Answer) where
  abbrev pub site_of : Owner → Place → Walked Site
  site_of File p = pure (record { scope = in_file; bound = unbound; item = file_item s })
  site_of (In c as_given) p = and_walk (class_body s w c as_given p) (λ b. pure (record { scope = scope_of s w c as_given b; bound = b.bound; item = item_in b.class.members }))

  -- an expression's value and a type where they stand
  abbrev pub value_at : Scope → Bound → Tree → Walked Number
  value_at c b t = demanded (place_of t) (thing s w c (replace b t))

  abbrev pub type_at : Scope → Bound → Ty → Walked Typed
  type_at c b t = typed s w c (replace_type b t)

  -- the value of a constant in its type, which is a number's (E304)
  abbrev pub constant : Place → Site → Tree → Option Kind → Walked Number
  constant p site e None = fault reason.Mismatch p
  constant p site e (Some k) = and_walk (value_at site.scope site.bound e) (converted (place_of e) k)

  -- an enumerator has the value that is written, else that behind the one before, in `int` (E306)
  abbrev pub successor : Place → Number → Walked Number
  successor p n = if nat_eq n.word 2147483647 then fault reason.ConstRange p else pure (number int ((n.word + 1) % 4294967296))

  abbrev pub enumerator : Owner → ℕ → ℕ → Site → Place → Option Enumerator → Walked Number
  enumerator o item n site p None = fault reason.UnknownName p
  enumerator o item n site p (Some e) = by_value n e.value
    where
      by_value : ℕ → Option Tree → Walked Number
      by_value n (Some t) = and_walk (value_at site.scope site.bound t) (held e.place int)
      by_value zero None = pure (number int 0)
      by_value (suc before) None = and_walk (and_walk (w (Constant o item before) e.place) (number_of e.place)) (successor e.place)

  abbrev pub numbered : Owner → ℕ → ℕ → Place → Site → Option Item → Walked Number
  numbered o item n p site None = fault reason.UnknownName p
  numbered o item n p site (Some i) = by_said i.said
    where
      by_said : Said → Walked Number
      by_said (source.Constant t e) = and_walk (type_at site.scope site.bound t) (λ t. constant i.place site e (kind_in t))
      by_said (Numbers all) = enumerator o item n site p (slice_get all n)
      by_said d = fault reason.NotConstant p

  abbrev pub aliased : Place → Site → Option Item → Walked Typed
  aliased p site None = fault reason.UnknownName p
  aliased p site (Some i) = by_said i.said
    where
      by_said : Said → Walked Typed
      by_said (source.Alias t) = type_at site.scope site.bound t
      by_said d = fault reason.Mismatch p

  -- written arguments of a class in the file's scope, with its defaults
  abbrev pub args_at : ℕ → ClassNamed → Place → TyArgs → Walked Args
  args_at c k p ts = and_walk (given s w in_file p k.class.params ts) (completed s w c p k.class.params)

  -- a class's specialisations, in the order of the text
  abbrev pub specials : ℕ → ClassNamed → ℕ → List Top → Walked (List Fitted)
  specials c k n [] = pure []
  specials c k n (OfClass p x body ∷ ts) = by_special (is_name k.name x) body.special (specials c k (suc n) ts)
    where
      by_special : Bool → Option TyArgs → Walked (List Fitted) → Walked (List Fitted)
      by_special true (Some as_given) rest = and_walk (args_at c k p as_given) (λ f. and_walk rest (λ fs. pure (record { item = n; args = f } ∷ fs)))
      by_special b o rest = rest
  specials c k n (t ∷ ts) = specials c k (suc n) ts

  -- One body outside a class: for written arguments, where it has no parameters and the class is a template; else for all, or it is refused at the class's name (E307). A
  -- specialisation has those for its arguments alone.
  abbrev pub outer : ℕ → ClassNamed → Bool → ℕ → Place → List Param → TyArgs → Walked (List Outer)
  outer c k all n p qs ts = by_params k.class.params qs
    where
      general : Walked (List Outer)
      general = if is_general qs ts k.class.params then pure (General n ∷ []) else fault reason.Arguments p

      by_params : List Param → List Param → Walked (List Outer)
      by_params [] qs = general
      by_params (o ∷ os) [] = and_walk (args_at c k p ts) (λ as_given. pure (Exact n as_given ∷ []))
      by_params (o ∷ os) (q ∷ qs) = if all then general else pure []
