-- What an index says, and what declarations add to it: the meaning of names, parameters of templates, functions. Of several for one key the first in the text counts.
-- This project's own.
use Rattle.std.specs.Prelude.{◌≡◌, ℕ, suc, nat_eq, Bool, true, false, ◌&&◌, List, [], ◌∷◌, Option, Some, None, option_map, option_and_then, is_some, slice_get, if◌then◌else◌}
use Rattle.std.specs.Option.{option_eq}
use Rattle.std.specs.Map.{lookup}
use Rattle.scc_templates_spec.specs.Walk.{same_bool}
use Rattle.scc_templates_spec.specs.Source.{Source, Top, OfClass, Outside, Plain, Member, Variable, Declares, Said, Alias, Numbers, Constant, Declared, Other, Function, Enumerator, Param}
use Rattle.scc_plain_spec.specs.Names.{Entry, IsClass, IsAlias, IsNumbers, IsEnumerator, IsConstant, IsFunction, IsField, Named, class_at, file_names, meaning_in, names_of_members}
use Rattle.scc_plain_spec.specs.Functions.{has_body}
use Rattle.scc_templates_scopes.specs.declared.entry.Entry.{Entry as Held}
use Rattle.scc_templates_scopes.specs.declared.entry.Entry.TheVariants as code
use Rattle.scc_templates_scopes.specs.declared.index.Said.{Said as Kept}
use Rattle.scc_templates_scopes.specs.declared.index.Said.TheVariants as kept
use Rattle.scc_templates_scopes.specs.declared.index.Routine.{Routine}
use Rattle.scc_templates_scopes.specs.declared.index.Index.{Index}

-- what a name is declared as, as the index keeps it and as the code has it
abbrev pub entry_of : Kept → Entry
entry_of (kept.Class n) = IsClass n
entry_of (kept.Alias n) = IsAlias n
entry_of kept.Numbers = IsNumbers
entry_of (kept.Enumerator n k) = IsEnumerator n k
entry_of (kept.Constant n) = IsConstant n
entry_of kept.Function = IsFunction
entry_of (kept.Field k) = IsField k

abbrev pub held : Entry → Held
held (IsClass n) = code.Class n
held (IsAlias n) = code.Alias n
held IsNumbers = code.Numbers
held (IsEnumerator n k) = code.Enumerator n k
held (IsConstant n) = code.Constant n
held IsFunction = code.Function
held (IsField k) = code.Field k

abbrev pub or_first : {A : Type 0} → Option A → Option A → Option A
or_first None o = o
or_first (Some x) o = Some x

-- what it says of a name in the file or in a class body, of a parameter, of a function: where it is declared first, and where its first body stands
abbrev pub says : Index → Option ℕ → ℕ → Option Entry
says x None n = option_map entry_of (lookup (λ k. nat_eq n k.0) x.file.entries)
says x (Some c) n = option_map entry_of (lookup (λ k. nat_eq c k.class && nat_eq n k.name.0) x.members.entries)

abbrev pub param_says : Index → ℕ → ℕ → Option ℕ
param_says x c n = lookup (λ k. nat_eq c k.class && nat_eq n k.name.0) x.params.entries

abbrev pub same_routine : Routine → Routine → Bool
same_routine r q = option_eq nat_eq r.class q.class && (nat_eq r.name.0 q.name.0 && same_bool r.constructor q.constructor)

abbrev pub first_says : Index → Routine → Option ℕ
first_says x r = option_map (λ d. d.first) (lookup (same_routine r) x.routines.entries)

abbrev pub body_says : Index → Routine → Option ℕ
body_says x r = option_and_then (λ d. d.body) (lookup (same_routine r) x.routines.entries)

-- what declarations add
pub record More : Type 0 where
  pub names : Option ℕ → ℕ → Option Entry
  pub params : ℕ → ℕ → Option ℕ
  pub firsts : Routine → Option ℕ
  pub bodies : Routine → Option ℕ

pub record Adds (old new : Index) (m : More) : Type 0 where
  pub names : (c : Option ℕ) (n : ℕ) → says new c n ≡ or_first (says old c n) (m.names c n)
  pub params : (c n : ℕ) → param_says new c n ≡ or_first (param_says old c n) (m.params c n)
  pub firsts : (r : Routine) → first_says new r ≡ or_first (first_says old r) (m.firsts r)
  pub bodies : (r : Routine) → body_says new r ≡ or_first (body_says old r) (m.bodies r)

abbrev pub no_more : More
no_more = record { names = λ c n. None; params = λ c n. None; firsts = λ r. None; bodies = λ r. None }

abbrev pub and_more : More → More → More
and_more a b = record {
  names = λ c n. or_first (a.names c n) (b.names c n);
  params = λ c n. or_first (a.params c n) (b.params c n);
  firsts = λ r. or_first (a.firsts r) (b.firsts r);
  bodies = λ r. or_first (a.bodies r) (b.bodies r);
}

-- a meaning of a name, a parameter's number, a function with the item of its body
abbrev pub meaning : Option ℕ → ℕ → Entry → More
meaning c x e = record { names = λ d n. if option_eq nat_eq c d && nat_eq x n then Some e else None; params = λ c n. None; firsts = λ r. None; bodies = λ r. None }

abbrev pub parameter : ℕ → ℕ → ℕ → More
parameter c x k = record { names = λ c n. None; params = λ d n. if nat_eq c d && nat_eq x n then Some k else None; firsts = λ r. None; bodies = λ r. None }

abbrev pub routine : Routine → ℕ → Option ℕ → More
routine q k body = record { names = λ c n. None; params = λ c n. None; firsts = λ r. if same_routine q r then Some k else None; bodies = λ r. if same_routine q r then body else None }

abbrev pub parameters : ℕ → ℕ → List Param → More
parameters c k [] = no_more
parameters c k (p ∷ ps) = and_more (parameter c p.name k) (parameters c (suc k) ps)

abbrev pub named : Option ℕ → Option ℕ → Entry → More
named c None e = no_more
named c (Some x) e = meaning c x e

abbrev pub enumerators : Option ℕ → ℕ → ℕ → List Enumerator → More
enumerators c item k [] = no_more
enumerators c item k (e ∷ es) = and_more (meaning c e.name (IsEnumerator item k)) (enumerators c item (suc k) es)

abbrev pub routine_of : Option ℕ → Function → Routine
routine_of c f = record { class = c; name = record { 0 = f.name }; constructor = f.constructor }

-- a constructor has no name by which it could be meant
abbrev pub function_name : Option ℕ → Function → More
function_name c f = if f.constructor then no_more else meaning c f.name IsFunction

abbrev pub function : Option ℕ → ℕ → Function → More
function c n f = and_more (function_name c f) (routine (routine_of c f) n (if has_body f then Some n else None))

-- a declaration of a number in the file or in a class body
abbrev pub said : Option ℕ → ℕ → Option ℕ → Said → More
said c n x (Alias t) = named c x (IsAlias n)
said c n x (Numbers all) = and_more (named c x IsNumbers) (enumerators c n 0 all)
said c n x (Constant t e) = named c x (IsConstant n)
said c n x (Declared f) = function c n f
said c n x Other = no_more

abbrev pub members : ℕ → List Member → More
members c [] = no_more
members c (Variable k f ∷ ms) = and_more (meaning (Some c) f.name (IsField k)) (members c ms)
members c (Declares n i ∷ ms) = and_more (said (Some c) n i.name i.said) (members c ms)

-- a specialisation declares no name, and its parameters none
abbrev pub class_named : ℕ → Option ℕ → Bool → List Param → More
class_named n None special ps = no_more
class_named n (Some x) true ps = no_more
class_named n (Some x) false ps = and_more (parameters n 0 ps) (meaning None x (IsClass n))

abbrev pub top : ℕ → Top → More
top n (OfClass p x k) = and_more (class_named n x (is_some k.special) k.params) (members n k.members)
top n (Outside p ps c as_given f) = parameters n 0 ps
top n (Plain i) = said None n i.name i.said

abbrev pub tops : ℕ → List Top → More
tops n [] = no_more
tops n (t ∷ ts) = and_more (top n t) (tops (suc n) ts)

-- the number of the first parameter of a name
abbrev pub place_in : ℕ → List Param → ℕ → Option ℕ
place_in k [] n = None
place_in k (p ∷ ps) n = if nat_eq p.name n then Some k else place_in (suc k) ps n

-- the parameters of a template or of a body outside its class; a specialisation has none
abbrev pub params_of : Top → List Param
params_of (OfClass p None k) = []
params_of (OfClass p (Some x) k) = if is_some k.special then [] else k.params
params_of (Outside p ps c as_given f) = ps
params_of (Plain i) = []

-- an index of a source: what the file, and each class body, declares by a name; the number of a parameter
pub record IsIndex (x : Index) (s : Source) : Type 0 where
  pub file : (n : ℕ) → says x None n ≡ meaning_in (file_names s) n
  pub members : (c n : ℕ) (k : Named) → class_at s c ≡ Some k → says x (Some c) n ≡ meaning_in (names_of_members k.class.members) n
  pub params : (c n : ℕ) (t : Top) → slice_get s.items c ≡ Some t → param_says x c n ≡ place_in 0 (params_of t) n
