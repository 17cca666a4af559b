-- What is asked for by a key, and what a name means where an expression or type stands (ISO C++ [basic.lookup], [temp.expl.spec]).
use Rattle.std.specs.Prelude.{ℕ, Bool, false, List, [], ◌∷◌, find, Option, Some, None, unwrap_or, option_map, if◌then◌else◌}
use Rattle.scc_base.specs.declared.refusal.Place.{Place}
use Rattle.scc_base.specs.declared.code.Code.TheVariants as reason
use Rattle.scc_bits.specs.Value.{Number}
use Rattle.scc_templates_spec.specs.Walk.{Arg, Args, same_args}
use Rattle.scc_templates_spec.specs.Walked.{Walked, pure, fault, and_walk}
use Rattle.scc_templates_spec.specs.World.{Owner, File, In, Special, World}
use Rattle.scc_templates_spec.specs.Replace.{Bound}
use Rattle.scc_templates_spec.specs.Source.{Source, Class, Param}
use Rattle.scc_plain_spec.specs.Types.{Typed}
use Rattle.scc_plain_spec.specs.Names.{Entry, Naming, Named, class_at, names_of_members, file_names, meaning_in, bound_to, hiding}

-- an item of the file with the arguments that it is for: a specialisation, or a body outside its class
pub record Fitted : Type 0 where
  pub item : ℕ
  pub args : Args

-- a body outside its class: for given arguments alone, or for all
pub data Outer : Type 0 where
  Exact : (item : ℕ) (args : Args) → Outer
  General : (item : ℕ) → Outer

-- what a key means
pub data Answer : Type 0 where
  Number_ : (number : Number) → Answer
  Type_ : (type : Typed) → Answer
  Specials : (all : List Fitted) → Answer
  Outers : (all : List Outer) → Answer
  Arg_ : (arg : Arg) → Answer

-- What a key of a sort means is of that sort; the other cases are never met.
abbrev pub number_of : Place → Answer → Walked Number
number_of p (Number_ n) = pure n
number_of p a = fault reason.NotConstant p

abbrev pub type_of : Place → Answer → Walked Typed
type_of p (Type_ t) = pure t
type_of p a = fault reason.Mismatch p

abbrev pub specials_of : Answer → Walked (List Fitted)
specials_of (Specials all) = pure all
specials_of a = pure []

abbrev pub outers_of : Answer → Walked (List Outer)
outers_of (Outers all) = pure all
outers_of a = pure []

abbrev pub arg_of : Place → Answer → Walked Arg
arg_of p (Arg_ a) = pure a
arg_of p a = fault reason.Arguments p

-- a class body that counts: its item, itself, and what stands for its parameters
pub record Body : Type 0 where
  pub item : ℕ
  pub place : Place
  pub name : ℕ
  pub class : Class
  pub bound : Bound

-- where an expression or type stands: in a file or class body with the names that this declares, among local variables
pub record Scope : Type 0 where
  pub owner : Owner
  pub own : List Naming
  pub is_local : ℕ → Bool

abbrev pub no_local : ℕ → Bool
no_local x = false

abbrev pub in_file : Scope
in_file = record { owner = File; own = []; is_local = no_local }

-- a declaration and whose it is
pub data Found : Type 0 where
  Local : Found
  Found_ : (owner : Owner) (entry : Entry) → Found

module _ (s : Source) where
  -- the nearest declaration: a local variable, one of the class body, one of the file
  abbrev pub look : Scope → ℕ → Option Found
  look c x = if c.is_local x then Some Local else by_own (meaning_in c.own x)
    where
      by_own : Option Entry → Option Found
      by_own (Some e) = Some (Found_ c.owner e)
      by_own None = option_map (Found_ File) (meaning_in (file_names s) x)

  abbrev pub body_of : ℕ → Named → Args → Body
  body_of n k as_given = record { item = n; place = k.place; name = k.name; class = k.class; bound = hiding (names_of_members k.class.members) (bound_to k.class.params as_given) }

  -- of several specialisations for equal arguments the first in the text counts, and goes before the class itself
  abbrev pub chosen_item : List Fitted → ℕ → Args → ℕ
  chosen_item specials c as_given = unwrap_or (option_map (λ f. f.item) (find (λ f. same_args f.args as_given) specials)) c

  module _ (w : World Answer) where
    abbrev pub no_class : {A : Type 0} → Place → Walked A
    no_class p = fault reason.UnknownName p

    -- the specialisations of a class; only a template has any
    abbrev pub specials_at : ℕ → Place → Option Named → Walked (List Fitted)
    specials_at c p None = no_class p
    specials_at c p (Some k) = by_params k.class.params
      where
        by_params : List Param → Walked (List Fitted)
        by_params [] = pure []
        by_params (q ∷ qs) = and_walk (w (Special c) p) specials_of

    -- the class body that counts for arguments, asked for at a place
    abbrev pub class_body : ℕ → Args → Place → Walked Body
    class_body c as_given p = and_walk (specials_at c p (class_at s c)) (λ all. whole (chosen_item all c as_given) (class_at s (chosen_item all c as_given)))
      where
        whole : ℕ → Option Named → Walked Body
        whole n None = no_class p
        whole n (Some k) = pure (body_of n k as_given)

    -- where the members of a class with arguments stand
    abbrev pub scope_of : ℕ → Args → Body → Scope
    scope_of c as_given b = record { owner = In c as_given; own = names_of_members b.class.members; is_local = no_local }
