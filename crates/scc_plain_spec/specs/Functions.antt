-- The bodies of functions that count (ISO C++ [class.mfct], [temp.mem.func], [temp.expl.spec]): those for equal arguments, inside a specialisation or outside, go before
-- those of the template; of several the first in the text counts.
use Rattle.std.specs.Prelude.{ℕ, suc, nat_eq, nat_lt, Bool, true, false, ◌&&◌, List, [], ◌∷◌, ◌++◌, find, Option, Some, None, option_map, option_and_then, is_some, option_to_list, slice_get, if◌then◌else◌}
use Rattle.scc_base.specs.declared.refusal.Place.{Place}
use Rattle.scc_templates_spec.specs.Walk.{Args, Need, Free, Callee, OfFile, OfClass, Constructs, same_args, same_bool}
use Rattle.scc_templates_spec.specs.Walked.{Walked, pure, meets, and_walk}
use Rattle.scc_templates_spec.specs.World.{Owner, File, In, World, Bodies}
use Rattle.scc_templates_spec.specs.Replace.{Bound, unbound}
use Rattle.scc_templates_spec.specs.Source.{Source, Top, Outside, Plain, Member, Variable, Declares, Said, Declared, Function, Param}
use Rattle.scc_plain_spec.specs.Names.{names_of_members, bound_to, hiding}
use Rattle.scc_plain_spec.specs.Scope.{Answer, Outer, Exact, General, Body, outers_of, class_body}

-- a function with a body, and what stands for the parameters of templates in it
pub record Routine : Type 0 where
  pub function : Function
  pub bound : Bound

abbrev pub declared_in : Said → Option Function
declared_in (Declared f) = Some f
declared_in d = None

-- a function of a name, a constructor or none
abbrev pub is_named : ℕ → Bool → Function → Bool
is_named x constructor f = nat_eq f.name x && same_bool f.constructor constructor

abbrev pub has_body : Function → Bool
has_body f = is_some f.body

-- the functions that a class body declares
abbrev pub functions_in : List Member → List Function
functions_in [] = []
functions_in (Variable k f ∷ ms) = functions_in ms
functions_in (Declares k i ∷ ms) = option_to_list (declared_in i.said) ++ functions_in ms

-- a function of the file, with its item
pub record Free_ : Type 0 where
  pub item : ℕ
  pub function : Function

abbrev pub function_of : Top → Option Function
function_of (Plain i) = declared_in i.said
function_of t = None

abbrev pub free_functions : ℕ → List Top → List Free_
free_functions n [] = []
free_functions n (t ∷ ts) = option_to_list (option_map (λ f. record { item = n; function = f }) (function_of t)) ++ free_functions (suc n) ts

abbrev pub first_free : ℕ → List Top → Option Free_
first_free x ts = find (λ f. is_named x false f.function && has_body f.function) (free_functions 0 ts)

-- a body outside its class
pub record Beside : Type 0 where
  pub item : ℕ
  pub routine : Routine

-- the function of a name that is found in a scope
abbrev pub callee_in : Owner → ℕ → Callee
callee_in File x = OfFile x
callee_in (In c as_given) x = OfClass c as_given x

module _ (s : Source) where
  abbrev pub outside_at : ℕ → (List Param → Bound) → Option Beside
  outside_at n bind = option_and_then of_top (slice_get s.items n)
    where
      of_top : Top → Option Beside
      of_top (Outside p ps c as_given f) = Some (record { item = n; routine = record { function = f; bound = bind ps } })
      of_top t = None

  -- of a class body with arguments: the bodies outside for these, those outside for all, the body inside
  abbrev pub exact_body : Args → List Outer → Option Beside
  exact_body as_given [] = None
  exact_body as_given (Exact n xs ∷ os) = if same_args xs as_given then outside_at n (λ ps. unbound) else exact_body as_given os
  exact_body as_given (General n ∷ os) = exact_body as_given os

  abbrev pub general_body : Body → Args → List Outer → Option Beside
  general_body b as_given [] = None
  general_body b as_given (Exact n xs ∷ os) = general_body b as_given os
  general_body b as_given (General n ∷ os) = outside_at n (λ ps. hiding (names_of_members b.class.members) (bound_to ps as_given))

  abbrev pub inner_body : Body → ℕ → Bool → Option Routine
  inner_body b x constructor = option_map (λ f. record { function = f; bound = b.bound }) (find (λ f. is_named x constructor f && has_body f) (functions_in b.class.members))

  abbrev pub first_body : Body → Option Routine → Option Beside → Option Routine
  first_body b inner None = inner
  first_body b None (Some o) = Some o.routine
  first_body b (Some r) (Some o) = Some (if nat_lt b.item o.item then r else o.routine)

  abbrev pub or_else : Option Routine → Option Routine → Option Routine
  or_else (Some r) o = Some r
  or_else None o = o

  -- the body inside a specialisation is one for its arguments
  abbrev pub counting : Body → Args → ℕ → Bool → List Outer → Option Routine
  counting b as_given x constructor os = if is_some b.class.special then first_body b (inner_body b x constructor) (exact_body as_given os)
      else or_else (option_map (λ o. o.routine) (exact_body as_given os)) (first_body b (inner_body b x constructor) (general_body b as_given os))

  module _ (w : World Answer) where
    abbrev pub outers : ℕ → Args → ℕ → Bool → Place → Body → Walked (Option Routine)
    outers c as_given x constructor p b = and_walk (and_walk (w (Bodies c x constructor (nat_eq b.item c)) p) outers_of) (λ os. pure (counting b as_given x constructor os))

    -- a constructor that the class body doesn't declare has no body
    abbrev pub constructed : ℕ → Args → Place → Body → Walked (Option Routine)
    constructed c as_given p b = if is_some (find (is_named b.name true) (functions_in b.class.members)) then outers c as_given b.name true p b else pure None

    abbrev pub free : Place → Option Free_ → Walked (Option Routine)
    free p None = pure None
    free p (Some f) = and_walk (meets (Need (Free f.item) p)) (λ u. pure (Some (record { function = f.function; bound = unbound })))

    -- the body of a function that counts, asked for at a place; a function of the file is needed so
    abbrev pub routine_of : Callee → Place → Walked (Option Routine)
    routine_of (OfFile x) p = free p (first_free x s.items)
    routine_of (OfClass c as_given x) p = and_walk (class_body s w c as_given p) (outers c as_given x false p)
    routine_of (Constructs c as_given) p = and_walk (class_body s w c as_given p) (constructed c as_given p)

    abbrev pub is_found : Owner → ℕ → Place → Walked Bool
    is_found o x p = and_walk (routine_of (callee_in o x) p) (λ r. pure (is_some r))
