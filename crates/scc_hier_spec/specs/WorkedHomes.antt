-- A worked value: a top with two module objects, of which each has a method, and objects of another class that have one each. This project's own.
-- `SC_MODULE(M) { C part; .. }`, `struct C { .. }`, and a top `M a; C c; M b;`.
use Rattle.std.specs.Prelude.{ℕ, Bool, true, false, List, [], ◌∷◌, map, None}
use Rattle.scc_semantics.specs.Location.{Member}
use Rattle.scc_elab_spec.specs.Program.{Class, Plain}
use Rattle.scc_elab_spec.specs.Design.{Design, Process, Object, Module}
use Rattle.scc_elab_spec.specs.Worked.{here}

abbrev pub class_named : ℕ → Bool → Class
class_named n m = record { name = n; place = here; is_module = m; members = []; constructor = None }

abbrev pub with_top : Class → Plain
with_top c = record { top = 0; functions = []; classes = c ∷ class_named 21 true ∷ class_named 22 false ∷ [] }

abbrev pub program : Plain
program = with_top (class_named 20 true)

-- a top of a class that isn't derived from `sc_module`
abbrev pub loose : Plain
loose = with_top (class_named 20 false)

abbrev pub object : List ℕ → ℕ → Object
object path c = record { path = map Member path; place = here; node = Module c }

abbrev pub method_in : ℕ → Process
method_in o = record { object = o; function = 0; place = here; is_thread = false; senses = []; edge = None; reset = None }

-- the method of b comes first; then that of a, that of the part of b, and that of c
abbrev pub design : Design
design = record {
  objects = object [] 0 ∷ object (1 ∷ []) 1 ∷ object (1 ∷ 4 ∷ []) 2 ∷ object (2 ∷ []) 2 ∷ object (3 ∷ []) 1 ∷ object (3 ∷ 4 ∷ []) 2 ∷ [];
  processes = method_in 4 ∷ method_in 1 ∷ method_in 5 ∷ method_in 3 ∷ [];
  targets = [];
  vectors = [];
}
