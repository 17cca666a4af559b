-- The walks of the static stage over a source and its top (ISO C++ [temp.inst], [basic.types]; the order is this project's own): the top, and what it needs, each in its
-- turn; what comes back to itself is looked for last.
use Rattle.std.specs.Prelude.{ℕ, nat_eq, Bool, true, false, ◌&&◌, List, [], ◌∷◌, map, flat_map, Option, Some, None, option_map, option_and_then, unwrap_or, if◌then◌else◌}
use Rattle.scc_base.specs.declared.refusal.Place.{Place}
use Rattle.scc_base.specs.declared.code.Code.TheVariants as reason
use Rattle.scc_templates_spec.specs.Walk.{Args, Nil, OfFile, Event, Need, Needed, Class, Free}
use Rattle.scc_templates_spec.specs.Walked.{Walked, pure, fault, meets, and_walk}
use Rattle.scc_templates_spec.specs.World.{World}
use Rattle.scc_plain_first.specs.Recursion.{Body as Walked_}
use Rattle.scc_templates_spec.specs.Replace.{unbound}
use Rattle.scc_templates_spec.specs.Source.{Source, Top, Outside, Param, Function}
use Rattle.scc_plain_spec.specs.Names.{Entry, IsClass, Named, class_at, file_item}
use Rattle.scc_plain_spec.specs.Scope.{Answer, Body, class_body}
use Rattle.scc_plain_spec.specs.Functions.{Routine, declared_in}
use Rattle.scc_plain_spec.specs.Making.{Construction, construction}
use Rattle.scc_plain_spec.specs.Whole.{routed}
use Rattle.scc_plain_spec.specs.ClassWalk.{Met, members, is_declared, is_own}

module _ (s : Source) (w : World Answer) where
  -- the place of a class's name, or the end of the source
  abbrev pub place_of : ℕ → Place
  place_of c = unwrap_or (option_map (λ k. k.place) (class_at s c)) s.end

  abbrev pub each_body : List Met → Walked (Unit {0})
  each_body [] = pure tt
  each_body (m ∷ ms) = and_walk (routed s w m.callee m.routine m.place) (λ r. each_body ms)

  -- E301 at the name of a body outside that the class body doesn't declare
  abbrev pub undeclared : Place → Bool → Walked (Unit {0})
  undeclared p true = fault reason.UnknownName p
  undeclared p false = pure tt

  abbrev pub outside : ℕ → Args → Body → Named → List Top → Walked (Unit {0})
  outside c as_given b k [] = pure tt
  outside c as_given b k (Outside p qs class ts f ∷ rest) = and_walk (if nat_eq class k.name && not_declared then and_walk (is_own s w c as_given b p k.class.params qs ts k) (undeclared f.place) else pure tt) (λ u. outside c as_given b k rest)
    where
      not_declared : Bool
      not_declared = if is_declared s w c as_given b f then false else true
  outside c as_given b k (t ∷ rest) = outside c as_given b k rest

  abbrev pub outside_of : ℕ → Args → Body → Option Named → Walked (Unit {0})
  outside_of c as_given b None = pure tt
  outside_of c as_given b (Some k) = outside c as_given b k s.items

  -- the functions of a class with arguments that have bodies, with the walk over its members
  abbrev pub class_members : ℕ → Args → Walked (List Met)
  class_members c as_given = and_walk (class_body s w c as_given (place_of c)) (λ b. members s w c as_given b [] b.class.members)

  abbrev pub class_walk : ℕ → Args → Walked (Unit {0})
  class_walk c as_given = and_walk (class_members c as_given) (λ ms. and_walk (each_body ms) (λ u. and_walk (class_body s w c as_given (place_of c)) (λ b. outside_of c as_given b (class_at s c))))

  -- a function of the file, by its item
  abbrev pub free_met : Option Function → List Met
  free_met None = []
  free_met (Some f) = record { callee = OfFile f.name; routine = record { function = f; bound = unbound }; place = f.place } ∷ []

  abbrev pub functions_of : Needed → List Met
  functions_of (Class c as_given) = unwrap_or (class_members c as_given).value []
  functions_of (Free n) = free_met (option_and_then (λ i. declared_in i.said) (file_item s n))

  abbrev pub needed_walk : Needed → List Event
  needed_walk (Class c as_given) = (class_walk c as_given).walk
  needed_walk (Free n) = (each_body (functions_of (Free n))).walk

  -- The top is a class (E301 at the end of the source) without parameters (E307 at its name), whose constructor, if it declares one, has a body (E301 there).
  abbrev pub has_body : Place → Construction → Walked (Unit {0})
  has_body p k = by_routine k.routine
    where
      by_routine : Option Routine → Walked (Unit {0})
      by_routine None = if k.declared then fault reason.UnknownName p else pure tt
      by_routine (Some r) = pure tt

  abbrev pub top_class : ℕ → Option Named → Walked (Unit {0})
  top_class c None = fault reason.UnknownName s.end
  top_class c (Some k) = by_params k.class.params
    where
      by_params : List Param → Walked (Unit {0})
      by_params [] = and_walk (meets (Need (Class c Nil) k.place)) (λ u. and_walk (construction s w c Nil k.place) (has_body k.place))
      by_params (q ∷ qs) = fault reason.Arguments k.place

  abbrev pub top_walk : Option Entry → Walked (Unit {0})
  top_walk (Some (IsClass c)) = top_class c (class_at s c)
  top_walk e = fault reason.UnknownName s.end

  abbrev pub functions_in : List Needed → List Met
  functions_in q = flat_map functions_of q

  abbrev pub bodies_of : List Needed → List Walked_
  bodies_of q = map (λ m. record { callee = m.callee; walk = (routed s w m.callee m.routine m.place).walk }) (functions_in q)
