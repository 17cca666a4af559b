-- A top `sc_in<bool> a; sc_in<bool> b; void f() {} void g() {}` whose constructor is
-- `T() { SC_METHOD(f); sensitive << a.pos(); SC_METHOD(g); sensitive << b.pos(); }`: it has two clocks.
use Rattle.std.specs.Prelude.{ℕ, true, false, List, [], ◌∷◌, map, Option, Some, None}
use Rattle.scc_bits_kinds.specs.declared.kind.Kind.TheVariants as kind
use Rattle.scc_core_spec.specs.Resolved.{Tried, Made}
use Rattle.scc_elab_spec.specs.Program.{Input, Code, End, Process, Sensitive, Function, Plain}
use Rattle.scc_elab_spec.specs.Design.{Design, Edge}
use Rattle.scc_elab_spec.specs.Worked.{here, member}
use Rattle.scc_elab_spec.specs.WorkedMade.{own}
use Rattle.scc_elab_spec.specs.WorkedRefused.{at}

abbrev pub function : ℕ → Code → Function
function n body = record { name = n; place = here; class = Some 0; params = 0; locals = []; result = None; inits = End; body = body }

-- a method of a function, at the rising edge of a member
abbrev pub at_edge : ℕ → ℕ → ℕ → Code → Code
at_edge place f m rest = Process (at place) false f None (Sensitive here (record { place = here; signal = Some (own m); rising = Some true } ∷ []) rest)

abbrev pub two_clocks : Plain
two_clocks = record {
  top = 0;
  functions = function 80 (at_edge 3 1 0 (at_edge 4 2 1 End)) ∷ function 81 End ∷ function 82 End ∷ [];
  classes = record { name = 83; place = here; is_module = true; members = member 84 (Input kind.Bool) ∷ member 85 (Input kind.Bool) ∷ []; constructor = Some 0 } ∷ [];
}

-- the edges of the processes that are left
abbrev pub edges_of : Option (Tried Design) → List (Option Edge)
edges_of (Some (Made d)) = map (λ q. q.edge) d.processes
edges_of o = []
