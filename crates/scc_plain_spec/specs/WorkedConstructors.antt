-- `struct T { sc_in<bool> a; sc_out<bool> y; int n; void f() { y = a; } T() : n(3) { SC_METHOD(f); sensitive << a; } };`, with the names 20 to 24.
use Rattle.std.specs.Prelude.{ℕ, true, false, [], ◌∷◌, Some, None}
use Rattle.scc_bits_kinds.specs.declared.kind.Kind.TheVariants as kind
use Rattle.scc_elab_spec.specs.Term as term
use Rattle.scc_elab_spec.specs.Program as code
use Rattle.scc_plain_spec.specs.Numbers.{int}
use Rattle.scc_templates_spec.specs.Tree.{Tree, Trees, Nil, Cons, Ty, OfKind, Input, Output}
use Rattle.scc_templates_spec.specs.Statements.{Stmts, End, Simply, Assign, Runs, Method, Sensitive}
use Rattle.scc_templates_spec.specs.Source.{Source, OfClass, Variable, Function}
use Rattle.scc_plain_spec.specs.Worked.{here}
use Rattle.scc_plain_spec.specs.WorkedTemplates.{named, literal, int_type, field, method, member}
use Rattle.scc_plain_spec.specs.WorkedBodies.{declares, number}

abbrev pub bool : Ty
bool = OfKind here kind.Bool

abbrev pub one : Tree → Trees
one t = Cons t Nil

abbrev pub sets : Stmts
sets = Simply (Assign here (named 22) None here (named 21)) End

abbrev pub begins : Function
begins = record { place = here; name = 20; constructor = true; result = None; params = []; inits = record { place = here; name = Some 23; args = one (literal 3) } ∷ []; body = Some (Runs here here (Some 24) Method (Sensitive here (one (named 21)) End)) }

abbrev pub constructing : Source
constructing = record {
  items = OfClass here (Some 20) (record {
    params = [];
    special = None;
    is_module = true;
    members =
        Variable 0 (field 21 (Input here bool)) ∷ Variable 1 (field 22 (Output here bool)) ∷ Variable 2 (field 23 int_type) ∷ declares 0 24 (method 24 sets) ∷ declares 1 20 begins ∷ [];
  }) ∷ [];
  end = here;
}

abbrev pub own : ℕ → term.Left
own n = term.Member (term.This here) n

abbrev pub function : ℕ → code.Code → code.Code → code.Function
function x inits body = record { name = x; place = here; class = Some 0; params = 0; locals = []; result = None; inits = inits; body = body }

abbrev pub constructed : code.Plain
constructed = record {
  classes = record { name = 20; place = here; is_module = true; members = member 21 (code.Input kind.Bool) ∷ member 22 (code.Output kind.Bool) ∷ member 23 (code.Number int) ∷ []; constructor = Some 1 } ∷ [];
  functions = function 24 code.End (code.Write here (own 1) (term.Read here kind.Bool (own 0)) code.End)
      ∷ function 20 (code.Assign here (own 2) term.Whole (number 3) code.End)
      (code.Process here false 0 None (code.Sensitive here (record { place = here; signal = Some (own 0); rising = None } ∷ []) code.End)) ∷ [];
  top = 0;
}
