-- `struct C { C(int k) {} };` or `struct C { C(); };`, made in `struct T { C* v; T() { v = new C(3); } };` or by `new sc_vector<C>("v", 2)`; and an initialiser with a call:
-- `struct T { sc_module_name m[2]; bool g() { return 1; } sc_in<bool> p; T() : p(m[g()]) {} };`.
use Rattle.std.specs.Prelude.{ℕ, true, false, List, [], ◌∷◌, Option, Some, None, option_map, slice_get}
use Rattle.scc_tree.specs.declared.local.Hold.TheVariants as hold
use Rattle.scc_core_spec.specs.Resolved.{Tried, Made, Stopped}
use Rattle.scc_elab_spec.specs.Term as term
use Rattle.scc_elab_spec.specs.Program as code
use Rattle.scc_templates_spec.specs.Tree.{Text, Index, Call, Make, Trees, Nil, Cons, Ty, Input, Vector, ModuleName, Named, NoArgs}
use Rattle.scc_templates_spec.specs.Statements.{Stmts, End, Simply, Assign}
use Rattle.scc_templates_spec.specs.Source.{Source, Top, OfClass, Member, Variable, Field, Function, Init, Taken}
use Rattle.scc_plain_spec.specs.Worked.{here}
use Rattle.scc_templates_spec.specs.WorkedSource.{at}
use Rattle.scc_plain_spec.specs.WorkedTemplates.{named, literal, int_type, field}
use Rattle.scc_plain_spec.specs.WorkedBodies.{test_function, declares, number, x_left}
use Rattle.scc_plain_spec.specs.WorkedConstructors.{bool, one}

abbrev pub class : ℕ → List Member → Top
class x ms = OfClass here (Some x) (record { params = []; special = None; is_module = false; members = ms })

abbrev pub constructor : ℕ → List Taken → List Init → Option Stmts → Function
constructor x ps is b = record { place = here; name = x; constructor = true; result = None; params = ps; inits = is; body = b }

-- C, T, v, k are the names 20 to 23; a type at 6, `new` at 5
abbrev pub takes_number : List Taken
takes_number = record { place = here; type = int_type; hold = hold.Direct; name = 23 } ∷ []

abbrev pub pointer : ℕ → Ty → Field
pointer x t = record { place = here; name = x; type = t; hold = hold.Pointer; sizes = Nil }

abbrev pub object : Ty
object = Named (at 6) 20 false NoArgs

abbrev pub made_so : Ty → Trees → List Taken → Option Stmts → Source
made_so t xs ps b = record {
  items = class 20 (declares 0 20 (constructor 20 ps [] b) ∷ [])
      ∷ class 21 (Variable 0 (pointer 22 t) ∷ declares 0 21 (constructor 21 [] [] (Some (Simply (Assign here (named 22) None here (Make (at 5) t xs)) End))) ∷ []) ∷ [];
  end = here;
}

abbrev pub makes_object : List Taken → Option Stmts → Source
makes_object = made_so object (one (literal 3))

abbrev pub makes_vector : List Taken → Option Stmts → Source
makes_vector = made_so (Vector (at 6) object) (Cons (Text here) (one (literal 2)))

abbrev pub object_code : code.Code
object_code = code.Make here x_left (code.OfClass 1) (term.Value (number 3) ∷ []) code.End

-- T, m, g, p are the names 20 to 23; `p(m[g()])`, or `sc_module(m[g()])` without a name
abbrev pub begun_by : Option ℕ → Source
begun_by x = record {
  items = class 20 (Variable 0 (record { place = here; name = 21; type = ModuleName here; hold = hold.Direct; sizes = one (literal 2) }) ∷ declares 0 22 test_function
      ∷ Variable 1 (field 23 (Input here bool)) ∷ declares 1 20 (constructor 20 [] (record { place = here; name = x; args = one (Index here (named 21) (Call here (named 22) Nil)) } ∷ []) (Some End)) ∷ []) ∷ [];
  end = here;
}

abbrev pub begun_code : code.Code
begun_code = code.Call here 0 0 None [] code.End

-- the initialisers of a function of a program
abbrev pub inits_by : Tried code.Plain → ℕ → Option code.Code
inits_by (Stopped r) n = None
inits_by (Made p) n = option_map (λ f. f.inits) (slice_get p.functions n)
