-- What names are declared as (ISO C++ [basic.lookup]): of several declarations of one name in one scope the first in the text counts.
use Rattle.std.specs.Prelude.{ℕ, suc, nat_eq, List, [], ◌∷◌, ◌++◌, find, Option, Some, None, option_map, option_and_then, is_some, slice_get, if◌then◌else◌}
use Rattle.std.specs.List.{list_any}
use Rattle.scc_base.specs.declared.refusal.Place.{Place}
use Rattle.scc_templates_spec.specs.Walk.{Args, Nil, Cons}
use Rattle.scc_templates_spec.specs.Replace.{Bound, unbound}
use Rattle.scc_templates_spec.specs.Source.{Source, Top, OfClass, Outside, Plain, Class, Member, Variable, Declares, Item, Said, Alias, Numbers, Constant, Declared, Other, Field, Function, Enumerator, Param}

-- what a name is declared as, with the number of its declaration among those of its scope
pub data Entry : Type 0 where
  IsClass : (item : ℕ) → Entry
  IsAlias : (item : ℕ) → Entry
  IsNumbers : Entry
  IsEnumerator : (item enumerator : ℕ) → Entry
  IsConstant : (item : ℕ) → Entry
  IsFunction : Entry
  IsField : (field : ℕ) → Entry

pub record Naming : Type 0 where
  pub name : ℕ
  pub entry : Entry

abbrev pub naming : Entry → ℕ → Naming
naming e x = record { name = x; entry = e }

abbrev pub if_named : Option ℕ → Entry → List Naming
if_named None e = []
if_named (Some x) e = naming e x ∷ []

abbrev pub enumerators : ℕ → ℕ → List Enumerator → List Naming
enumerators item n [] = []
enumerators item n (e ∷ es) = naming (IsEnumerator item n) e.name ∷ enumerators item (suc n) es

-- a constructor has no name by which it could be meant
abbrev pub function_name : Function → List Naming
function_name f = if f.constructor then [] else naming IsFunction f.name ∷ []

abbrev pub names_of : ℕ → Option ℕ → Said → List Naming
names_of n x (Alias t) = if_named x (IsAlias n)
names_of n x (Numbers all) = if_named x IsNumbers ++ enumerators n 0 all
names_of n x (Constant t e) = if_named x (IsConstant n)
names_of n x (Declared f) = function_name f
names_of n x Other = []

abbrev pub names_of_members : List Member → List Naming
names_of_members [] = []
names_of_members (Variable k f ∷ ms) = naming (IsField k) f.name ∷ names_of_members ms
names_of_members (Declares n i ∷ ms) = names_of n i.name i.said ++ names_of_members ms

-- a specialisation declares no name, and a body outside its class none
abbrev pub names_of_top : ℕ → Top → List Naming
names_of_top n (OfClass p x c) = if is_some c.special then [] else if_named x (IsClass n)
names_of_top n (Outside p ps c as_given f) = []
names_of_top n (Plain i) = names_of n i.name i.said

abbrev pub names_from : ℕ → List Top → List Naming
names_from n [] = []
names_from n (t ∷ ts) = names_of_top n t ++ names_from (suc n) ts

abbrev pub file_names : Source → List Naming
file_names s = names_from 0 s.items

abbrev pub meaning_in : List Naming → ℕ → Option Entry
meaning_in names x = option_map (λ m. m.entry) (find (λ m. nat_eq m.name x) names)

-- a class with its name and the name's place
pub record Named : Type 0 where
  pub place : Place
  pub name : ℕ
  pub class : Class

abbrev pub class_at : Source → ℕ → Option Named
class_at s n = option_and_then of_top (slice_get s.items n)
  where
    by_name : Place → Option ℕ → Class → Option Named
    by_name p None c = None
    by_name p (Some x) c = Some (record { place = p; name = x; class = c })

    of_top : Top → Option Named
    of_top (OfClass p x c) = by_name p x c
    of_top t = None

-- the item of a number among the members
abbrev pub item_in : List Member → ℕ → Option Item
item_in [] n = None
item_in (Variable k f ∷ ms) n = item_in ms n
item_in (Declares k i ∷ ms) n = if nat_eq k n then Some i else item_in ms n

abbrev pub field_in : List Member → ℕ → Option Field
field_in [] n = None
field_in (Variable k f ∷ ms) n = if nat_eq k n then Some f else field_in ms n
field_in (Declares k i ∷ ms) n = field_in ms n

abbrev pub file_item : Source → ℕ → Option Item
file_item s n = option_and_then of_top (slice_get s.items n)
  where
    of_top : Top → Option Item
    of_top (Plain i) = Some i
    of_top t = None

-- the parameters, each with its argument
abbrev pub bound_to : List Param → Args → Bound
bound_to [] as_given = unbound
bound_to (p ∷ ps) Nil = unbound
bound_to (p ∷ ps) (Cons a as_given) = λ x. if nat_eq p.name x then Some a else bound_to ps as_given x

-- what a scope declares hides the parameters
abbrev pub hiding : List Naming → Bound → Bound
hiding names b x = if list_any (λ m. nat_eq m.name x) names then None else b x
