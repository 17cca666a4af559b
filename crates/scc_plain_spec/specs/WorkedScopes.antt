-- In the same template, `switch (x) { int& N = m; N = 1; case 1: x = N; default: break; }`: behind the label N is the parameter again. And
-- `template<int N> struct C { static const int v = N; }; template<int N> struct F { static const int v = C<1>::v; }; template<> struct C<F<2>::v> {};`, where the class is
-- asked for while its own specialisations are worked out.
use Rattle.std.specs.Prelude.{ℕ, true, false, [], ◌∷◌, Some, None}
use Rattle.scc_bits_kinds.specs.declared.kind.Kind.TheVariants as kind
use Rattle.scc_bits_kinds.specs.declared.op.Op.TheVariants as op
use Rattle.scc_tree.specs.declared.local.Hold.TheVariants as hold
use Rattle.scc_tree.specs.declared.ty.Family.TheVariants as family
use Rattle.scc_elab_spec.specs.Term as term
use Rattle.scc_elab_spec.specs.Program as code
use Rattle.scc_plain_spec.specs.Numbers.{int}
use Rattle.scc_templates_spec.specs.Tree.{Tree, Scoped, Nil, Sized, Named, NoArgs, ByValue}
use Rattle.scc_templates_spec.specs.Statements.{Stmts, End, Declare, Simply, Assign, Switch, Case, Otherwise, Between, NoItems, Break}
use Rattle.scc_templates_spec.specs.Source.{Source, Top, OfClass, Variable}
use Rattle.scc_templates_spec.specs.WorkedSource.{at}
use Rattle.scc_plain_spec.specs.Worked.{here}
use Rattle.scc_plain_spec.specs.WorkedTemplates.{named, literal, int_type, field, parameter, constant, local, load}
use Rattle.scc_plain_spec.specs.WorkedBodies.{x_left, put, number}

abbrev pub assign : ℕ → Tree → Stmts
assign x e = Simply (Assign here (named x) None here e) End

abbrev pub reference : Stmts
reference = Declare (record { place = here; name = 22; type = int_type; hold = hold.Reference; sizes = Nil; value = Some (named 24) }) End

abbrev pub scoped_body : Stmts
scoped_body = Switch here (named 23) (Between reference (Between (assign 22 (literal 1)) (Case here (literal 1) (Between (assign 23 (named 22)) (Otherwise here (Between (Break here End) NoItems)))))) End

abbrev pub scoped_code : code.Code
scoped_code = code.Assign here (local 0) term.Whole (term.Load here int x_left) (code.Block here (code.Block here (code.Block here
    (code.If here (term.Binary here kind.Bool op.Eq (load int 0) (number 1)) (code.Exit here 0 code.End) code.End (code.Exit here 1
    (code.Point here (local 1) (term.Address (term.Member (term.This here) 1)) (code.Assign here (local 1) term.Whole (number 1) code.End))))
    (put (number 8) code.End)) (code.Exit here 0 code.End)) code.End)

-- C, F, T, N, v, a are the names 30, 31, 33, 34, 32, 35; `C<n>::v` at a place
abbrev pub value_of : ℕ → ℕ → ℕ → Tree
value_of place class n = Scoped (at place) (Named (at place) class true (ByValue (literal n) NoArgs)) 32

abbrev pub class : ℕ → Tree → Top
class x e = OfClass here (Some x) (record { params = parameter 34 ∷ []; special = None; is_module = false; members = constant e ∷ [] })

abbrev pub asking : Source
asking = record {
  items = class 30 (named 34) ∷ class 31 (value_of 5 30 1)
      ∷ OfClass here (Some 30) (record { params = []; special = Some (ByValue (value_of 6 31 2) NoArgs); is_module = false; members = [] })
      ∷ OfClass here (Some 33) (record { params = []; special = None; is_module = false; members = Variable 0 (field 35 (Sized here family.Uint (value_of 7 30 3))) ∷ [] }) ∷ [];
  end = here;
}
