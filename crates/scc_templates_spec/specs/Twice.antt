-- Names that are declared twice in one scope (ISO C++ [basic.scope], [basic.def.odr]), in the order of the text (E302): a file, a class with its parameters, a function's
-- parameters, each block and each statement that stands alone are scopes, and so are the head of a `for` and the braces of a `switch`. A specialisation and a body
-- outside its class don't count; a function may be declared again, and has one body.
use Rattle.std.specs.Prelude.{ℕ, nat_eq, Bool, true, false, ◌&&◌, List, [], ◌∷◌, ◌++◌, find, is_some, map, Option, Some, None, if◌then◌else◌}
use Rattle.scc_base.specs.declared.refusal.Place.{Place}
use Rattle.scc_base.specs.declared.code.Code.TheVariants as reason
use Rattle.scc_templates_spec.specs.Walk.{Event, Fault}
use Rattle.scc_templates_spec.specs.Statements.{Stmts, End, Brace, Declare, If, Switch, While, Do, For, Break, Continue, Return, Wait, Runs, Sensitive, Quiet, Reset, Simply, Items, NoItems, Case, Otherwise, Between, Local, First, Locals}
use Rattle.scc_templates_spec.specs.Source.{Source, Top, OfClass, Outside, Plain, Class, Member, Variable, Declares, Said, Numbers, Declared, Other, Function, Taken, Enumerator, Param}

-- a declaration in a scope, of a function with or without a body
pub record Naming : Type 0 where
  pub name : ℕ
  pub place : Place
  pub function : Bool
  pub body : Bool

abbrev pub naming : ℕ → Place → Naming
naming x p = record { name = x; place = p; function = false; body = false }

-- whether a declaration before it makes a declaration one too many: one of its name, unless both are functions and not both have bodies
abbrev pub clashes : Naming → Naming → Bool
clashes n m = nat_eq m.name n.name && (if n.function && m.function then n.body && m.body else true)

abbrev pub refused : Naming → Option Naming → List Event
refused n None = []
refused n (Some m) = Fault reason.DuplicateName n.place (Some m.place) ∷ []

-- What is declared in a scope, in order, and the walk over what stands inside it. `before` are the declarations before.
pub data Scoped : Type 0 where
  Names : (naming : Naming) → Scoped
  Inside : (walk : List Event) → Scoped

abbrev pub clashing : List Naming → List Scoped → List Event
clashing before [] = []
clashing before (Names n ∷ rest) = refused n (find (clashes n) before) ++ clashing (before ++ n ∷ []) rest
clashing before (Inside walk ∷ rest) = walk ++ clashing before rest

abbrev pub scope : List Scoped → List Event
scope ns = clashing [] ns

abbrev pub local_name : Local → Scoped
local_name l = Names (naming l.name l.place)

abbrev pub local_names : List Local → List Scoped
local_names [] = []
local_names (l ∷ ls) = local_name l ∷ local_names ls

abbrev pub head_names : First → List Scoped
head_names (Locals ls) = local_names ls
head_names f = []

abbrev mutual
  -- what statements declare in the scope that they stand in
  pub declared : Stmts → List Scoped
  declared End = []
  declared (Brace b r) = Inside (scope (declared b)) ∷ declared r
  declared (Declare l r) = local_name l ∷ declared r
  declared (If p t b c r) = Inside (scope (declared b)) ∷ Inside (scope (declared c)) ∷ declared r
  declared (Switch p e is r) = Inside (scope (declared_items is)) ∷ declared r
  declared (While p t b r) = Inside (scope (declared b)) ∷ declared r
  declared (Do p b t r) = Inside (scope (declared b)) ∷ declared r
  declared (For p f t e b r) = Inside (scope (head_names f)) ∷ Inside (scope (declared b)) ∷ declared r
  declared (Break p r) = declared r
  declared (Continue p r) = declared r
  declared (Return p e r) = declared r
  declared (Wait p e r) = declared r
  declared (Runs p at x q r) = declared r
  declared (Sensitive p es r) = declared r
  declared (Quiet p r) = declared r
  declared (Reset p e l a r) = declared r
  declared (Simply e r) = declared r

  pub declared_items : Items → List Scoped
  declared_items NoItems = []
  declared_items (Case p e is) = declared_items is
  declared_items (Otherwise p is) = declared_items is
  declared_items (Between b is) = declared b ++ declared_items is

abbrev pub taken_names : List Taken → List Scoped
taken_names [] = []
taken_names (q ∷ qs) = Names (naming q.name q.place) ∷ taken_names qs

abbrev pub body_walk : Option Stmts → List Event
body_walk None = []
body_walk (Some b) = scope (declared b)

-- a function's parameters, and then its body, which is a scope of its own
abbrev pub inside : Function → List Event
inside f = scope (taken_names f.params) ++ body_walk f.body

abbrev pub param_namings : List Param → List Naming
param_namings ps = map (λ p. naming p.name p.place) ps

abbrev pub param_names : List Param → List Scoped
param_names ps = map (λ n. Names n) (param_namings ps)

abbrev pub enumerator_names : List Enumerator → List Scoped
enumerator_names [] = []
enumerator_names (e ∷ es) = Names (naming e.name e.place) ∷ enumerator_names es

abbrev pub named : Option ℕ → Place → List Scoped
named None p = []
named (Some x) p = Names (naming x p) ∷ []

abbrev pub of_said : Option ℕ → Place → Said → List Scoped
of_said x p (Numbers all) = named x p ++ enumerator_names all
of_said x p (Declared f) = Names (record { name = f.name; place = p; function = true; body = is_some f.body }) ∷ Inside (inside f) ∷ []
of_said x p Other = []
of_said x p d = named x p

abbrev pub of_members : List Member → List Scoped
of_members [] = []
of_members (Variable k f ∷ ms) = Names (naming f.name f.place) ∷ of_members ms
of_members (Declares n i ∷ ms) = of_said i.name i.place i.said ++ of_members ms

-- members are in one scope with the class's parameters
abbrev pub of_class : Class → List Event
of_class c = clashing (param_namings c.params) (of_members c.members)

abbrev pub class_name : Option ℕ → Place → Class → List Scoped
class_name x p c = if is_some c.special then [] else named x p

-- the parameters of a class stand before its name
abbrev pub of_tops : List Top → List Scoped
of_tops [] = []
of_tops (OfClass p x c ∷ ts) = Inside (scope (param_names c.params)) ∷ (class_name x p c ++ (Inside (of_class c) ∷ of_tops ts))
of_tops (Outside p ps c as_given f ∷ ts) = Inside (scope (param_names ps)) ∷ Inside (inside f) ∷ of_tops ts
of_tops (Plain i ∷ ts) = of_said i.name i.place i.said ++ of_tops ts

-- the walk over all declarations of a source
abbrev pub twice : Source → List Event
twice s = scope (of_tops s.items)
