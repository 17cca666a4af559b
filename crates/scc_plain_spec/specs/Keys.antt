-- What each key means, and the world without a chain (ISO C++ [temp.inst]).
use Rattle.std.specs.Prelude.{ℕ, suc, nat_eq, Bool, ◌&&◌, List, [], ◌∷◌, ◌++◌, Option, Some, None, if◌then◌else◌}
use Rattle.scc_base.specs.declared.refusal.Place.{Place}
use Rattle.scc_base.specs.declared.code.Code.TheVariants as reason
use Rattle.scc_templates_spec.specs.Walk.{Args}
use Rattle.scc_templates_spec.specs.Walked.{Walked, pure, fault, and_walk}
use Rattle.scc_templates_spec.specs.World.{Key, Constant, Alias, Special, Bodies, Default, World}
use Rattle.scc_templates_spec.specs.World as world
use Rattle.scc_templates_spec.specs.Replace.{replace_args}
use Rattle.scc_templates_spec.specs.Source.{Source, Top, Outside, Param}
use Rattle.scc_plain_spec.specs.Names.{Named as ClassNamed, class_at, bound_to}
use Rattle.scc_plain_spec.specs.Scope.{Answer, Number_, Type_, Specials, Outers, Outer, in_file}
use Rattle.scc_plain_spec.specs.Functions.{is_named}
use Rattle.scc_plain_spec.specs.Uses.{behind}
use Rattle.scc_plain_spec.specs.Constants.{given}
use Rattle.scc_plain_spec.specs.Meaning.{site_of, numbered, aliased, specials, outer, first_arg}

module _ (s : Source) where
  -- the bodies outside a class of one of its functions, in the order of the text
  abbrev pub outers : World Answer → ℕ → ClassNamed → ℕ → Bool → Bool → ℕ → List Top → Walked (List Outer)
  outers w c k x constructor all n [] = pure []
  outers w c k x constructor all n (Outside p qs class ts f ∷ rest) = if nat_eq class k.name && is_named x constructor f
      then and_walk (outer s w c k all n p qs ts) (λ o. and_walk (outers w c k x constructor all (suc n) rest) (λ os. pure (o ++ os)))
      else outers w c k x constructor all (suc n) rest
  outers w c k x constructor all n (t ∷ rest) = outers w c k x constructor all (suc n) rest

  abbrev pub of_class : {A : Type 0} → ℕ → Place → (ClassNamed → Walked A) → Walked A
  of_class {A = A} c p f = by_class (class_at s c)
    where
      by_class : Option ClassNamed → Walked A
      by_class None = fault reason.UnknownName p
      by_class (Some k) = f k

  -- the default of a parameter in the file's scope, with the arguments before it
  abbrev pub default : World Answer → ClassNamed → Args → Place → List Param → Walked Answer
  default w k as_given p [] = fault reason.Arguments p
  default w k as_given p (q ∷ qs) = and_walk (given s w in_file p (q ∷ []) (replace_args (bound_to k.class.params as_given) q.preset)) (λ one. first_arg one p)

  abbrev pub meant : World Answer → Key → Place → Walked Answer
  meant w (Constant o item e) p = and_walk (site_of s w o p) (λ at. and_walk (numbered s w o item e p at (at.item item)) (λ n. pure (Number_ n)))
  meant w (Alias o item) p = and_walk (site_of s w o p) (λ at. and_walk (aliased s w p at (at.item item)) (λ t. pure (Type_ t)))
  meant w (Special c) p = of_class c p (λ k. and_walk (specials s w c k 0 s.items) (λ all. pure (Specials all)))
  meant w (Bodies c x constructor all) p = of_class c p (λ k. and_walk (outers w c k x constructor all 0 s.items) (λ os. pure (Outers os)))
  meant w (Default c as_given) p = of_class c p (λ k. default w k as_given p (behind k.class.params as_given))

  -- behind a chain of what is being worked out, and without one
  abbrev pub behind_chain : ℕ → List Key → World Answer
  behind_chain n c = world.world Answer meant n c

  unfoldable pub outermost : World Answer
  outermost k p = world.outermost Answer meant k p
