-- The walk over the members of a class with arguments in the order of the text, with its functions that have bodies, and which bodies outside are its own (ISO C++
-- [class.mem], [class.mfct], [class.base.init]; the order is this project's own).
use Rattle.std.specs.Prelude.{ℕ, suc, nat_eq, Bool, true, false, not, ◌&&◌, ◌||◌, List, [], ◌∷◌, ◌++◌, find, Option, Some, None, is_some, if◌then◌else◌}
use Rattle.std.specs.List.{list_any}
use Rattle.scc_base.specs.declared.refusal.Place.{Place}
use Rattle.scc_base.specs.declared.code.Code.TheVariants as reason
use Rattle.scc_templates_spec.specs.Walk.{Args, Callee, OfClass as OfClass_, Constructs, same_args}
use Rattle.scc_templates_spec.specs.Walked.{Walked, pure, fault, and_walk}
use Rattle.scc_templates_spec.specs.World.{Key, Constant, Alias, In, World}
use Rattle.scc_plain_spec.specs.Types.{Base, OfObject}
use Rattle.scc_templates_spec.specs.Tree.{TyArgs}
use Rattle.scc_templates_spec.specs.Source.{Source, Top, OfClass, Outside, Plain, Class, Member, Variable, Declares, Item, Said, Numbers, Declared, Field, Function, Init, Enumerator, Param}
use Rattle.scc_templates_spec.specs.Source as source
use Rattle.scc_plain_spec.specs.Names.{Named, meaning_in, names_of_members}
use Rattle.scc_plain_spec.specs.Scope.{Answer, Body}
use Rattle.scc_plain_spec.specs.Functions.{Routine, routine_of, functions_in, is_named}
use Rattle.scc_plain_spec.specs.Meaning.{args_at}
use Rattle.scc_plain_spec.specs.Forms.{Form, is_direct}
use Rattle.scc_plain_spec.specs.Shapes.{field_form, signature}
use Rattle.scc_plain_spec.specs.Making.{made_bare}

-- a function of a program, with a place where it was looked for
pub record Met : Type 0 where
  pub callee : Callee
  pub routine : Routine
  pub place : Place

abbrev pub is_name_of : ℕ → Init → Bool
is_name_of x i = by_name i.name
  where
    by_name : Option ℕ → Bool
    by_name None = false
    by_name (Some y) = nat_eq x y

-- whether the constructor has an initialiser of a member
abbrev pub is_begun : ℕ → Option Routine → Bool
is_begun x None = false
is_begun x (Some r) = list_any (is_name_of x) r.function.inits

module _ (s : Source) (w : World Answer) where
  -- asked, for its refusals
  abbrev pub asked : Key → Place → Walked (List Met)
  asked k p = and_walk (w k p) (λ a. pure [])

  module _ (c : ℕ) (as_given : Args) (b : Body) where
    -- a member variable; an object is made as a vector's elements are, or without an initialiser
    abbrev pub object_field : Field → Form → Base → Walked (List Met)
    object_field f h (OfObject d xs) = if is_direct h then and_walk (routine_of s w (Constructs c as_given) f.place) (λ r. if h.vector || not (is_begun f.name r) then and_walk (made_bare s w d xs f.place f.place) (λ u. pure []) else pure []) else pure []
    object_field f h base = pure []

    abbrev pub field : ℕ → Field → Walked (List Met)
    field k f = and_walk (field_form s w c as_given k f.place) (λ h. object_field f h h.base)

    abbrev pub enumerators : ℕ → ℕ → List Enumerator → Walked (List Met)
    enumerators item n [] = pure []
    enumerators item n (e ∷ es) = and_walk (asked (Constant (In c as_given) item n) e.place) (λ x. enumerators item (suc n) es)

    abbrev pub callee_of : Function → Callee
    callee_of f = if f.constructor then Constructs c as_given else OfClass_ c as_given f.name

    abbrev pub met : Function → Option Routine → Walked (List Met)
    met f None = pure []
    met f (Some r) = and_walk (signature s w (In c as_given) r f.place) (λ g. pure (record { callee = callee_of f; routine = r; place = f.place } ∷ []))

    -- A function at its first declaration, with its parameters and result. A constructor has its class's name (E301).
    abbrev pub function : List Function → Function → Walked (List Met)
    function before f = if f.constructor && not (nat_eq f.name b.name) then fault reason.UnknownName f.place
        else (if list_any (is_named f.name f.constructor) before then pure [] else and_walk (routine_of s w (callee_of f) f.place) (met f))

    abbrev pub item : List Function → ℕ → Item → Said → Walked (List Met)
    item before n i (source.Alias t) = asked (Alias (In c as_given) n) i.place
    item before n i (source.Constant t e) = asked (Constant (In c as_given) n 0) i.place
    item before n i (Numbers all) = enumerators n 0 all
    item before n i (Declared f) = function before f
    item before n i source.Other = pure []

    abbrev pub with_function : List Function → Said → List Function
    with_function before (Declared f) = before ++ f ∷ []
    with_function before d = before

    -- the functions with bodies, in the order of their first declarations
    abbrev pub members : List Function → List Member → Walked (List Met)
    members before [] = pure []
    members before (Variable k f ∷ ms) = and_walk (field k f) (λ x. members before ms)
    members before (Declares n i ∷ ms) = and_walk (item before n i i.said) (λ x. and_walk (members (with_function before i.said) ms) (λ y. pure (x ++ y)))

    -- whether the class body declares the function of a body outside it
    abbrev pub is_declared : Function → Bool
    is_declared f = if f.constructor then nat_eq f.name b.name && is_some (find (is_named b.name true) (functions_in b.class.members))
        else is_some (meaning_in (names_of_members b.class.members) f.name)

    -- A body outside is one of this class body's: for its arguments, or for all where it is no specialisation.
    abbrev pub is_own : Place → List Param → List Param → TyArgs → Named → Walked Bool
    is_own p (q ∷ qs) [] ts k = and_walk (args_at s w c k p ts) (λ xs. pure (same_args xs as_given))
    is_own p own params ts k = pure (not (is_some b.class.special))
