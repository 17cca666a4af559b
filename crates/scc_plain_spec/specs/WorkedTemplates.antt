-- `template<int N> struct S { int x, m; void f() { sc_uint<N> y = N; int N = N; x = y + N; } }; struct T { S<8> a; };`, and
-- `template<int N> struct F { static const int v = F<N - 1>::v; }; template<> struct F<0> { static const int v = 1; };`.
use Rattle.std.specs.Prelude.{ℕ, true, false, [], ◌∷◌, Some, None}
use Rattle.scc_bits_kinds.specs.declared.kind.Kind.{Kind}
use Rattle.scc_bits_kinds.specs.declared.kind.Kind.TheVariants as kind
use Rattle.scc_bits_kinds.specs.declared.op.Op.TheVariants as op
use Rattle.scc_tree.specs.declared.local.Hold.TheVariants as hold
use Rattle.scc_tree.specs.declared.item.ParamSort.TheVariants as sort
use Rattle.scc_tree.specs.declared.ty.Family.TheVariants as family
use Rattle.scc_templates_spec.specs.Walk as walk
use Rattle.scc_elab_spec.specs.Term as term
use Rattle.scc_elab_spec.specs.Program as code
use Rattle.scc_plain_spec.specs.Numbers.{int}
use Rattle.scc_templates_spec.specs.Tree.{Tree, Name, Scoped, Operate, Nil, Ty, OfKind, Sized, Named, TyArgs, NoArgs, ByValue}
use Rattle.scc_templates_spec.specs.Tree as tree
use Rattle.scc_templates_spec.specs.Statements.{Stmts, End, Declare, Simply, Assign}
use Rattle.scc_templates_spec.specs.Source.{Source, OfClass, Class, Member, Variable, Declares, Constant, Declared, Field, Function, Param}
use Rattle.scc_plain_spec.specs.Worked.{here}

abbrev pub named : ℕ → Tree
named x = Name here x

abbrev pub literal : ℕ → Tree
literal n = tree.Number here int n

abbrev pub int_type : Ty
int_type = OfKind here int

abbrev pub field : ℕ → Ty → Field
field x t = record { place = here; name = x; type = t; hold = hold.Direct; sizes = Nil }

abbrev pub parameter : ℕ → Param
parameter x = record { place = here; name = x; sort = sort.Int; preset = NoArgs }

abbrev pub declare : ℕ → Ty → Tree → Stmts → Stmts
declare x t e r = Declare (record { place = here; name = x; type = t; hold = hold.Direct; sizes = Nil; value = Some e }) r

abbrev pub method : ℕ → Stmts → Function
method x b = record { place = here; name = x; constructor = false; result = None; params = []; inits = []; body = Some b }

-- S, T, N, x, m, f, y, a are the names 20 to 27
abbrev pub body : Stmts
body = declare 26 (Sized here family.Uint (named 22)) (named 22) (declare 22 int_type (named 22) (Simply (Assign here (named 23) None here (Operate here here op.Add (named 26) (named 22))) End))

abbrev pub template : Stmts → Class
template b = record { params = parameter 22 ∷ []; special = None; is_module = false; members = Variable 0 (field 23 int_type) ∷ Variable 1 (field 24 int_type) ∷ Declares 0 (record { place = here; name = Some 25; said = Declared (method 25 b) }) ∷ [] }

abbrev pub user : Class
user = record { params = []; special = None; is_module = false; members = Variable 0 (field 27 (Named here 20 true (ByValue (literal 8) NoArgs))) ∷ [] }

abbrev pub templated : Stmts → Source
templated b = record { items = OfClass here (Some 20) (template b) ∷ OfClass here (Some 21) user ∷ []; end = here }

abbrev pub member : ℕ → code.Base → code.Member
member x b = record { name = x; place = here; shape = record { base = b; reach = code.Direct; vector = false; sizes = [] } }

abbrev pub local : ℕ → term.Left
local n = term.Local here n

abbrev pub load : Kind → ℕ → term.Term
load k n = term.Load here k (local n)

-- y := (sc_uint<8>) 8; N := N; x := (int) (y + N), the sum in unsigned 64 bits
abbrev pub written : code.Code
written = code.Assign here (local 0) term.Whole (term.Convert here (kind.Uint 8) (term.Literal here int 8)) (code.Assign here (local 1) term.Whole (load int 1)
    (code.Assign here (term.Member (term.This here) 0) term.Whole (term.Convert here int (term.Binary here (kind.Native 64 false) op.Add (load (kind.Uint 8) 0) (load int 1))) code.End))

abbrev pub hidden : code.Plain
hidden = record {
  classes = record { name = 21; place = here; is_module = false; members = member 27 (code.OfClass 1) ∷ []; constructor = None }
      ∷ record { name = 20; place = here; is_module = false; members = member 23 (code.Number int) ∷ member 24 (code.Number int) ∷ []; constructor = None } ∷ [];
  functions = record { name = 25; place = here; class = Some 1; params = 0; locals = member 26 (code.Number (kind.Uint 8)) ∷ member 22 (code.Number int) ∷ []; result = None; inits = code.End; body = written } ∷ [];
  top = 0;
}

-- F, N, v are the names 30 to 32
abbrev pub constant : Tree → Member
constant e = Declares 0 (record { place = here; name = Some 32; said = Constant int_type e })

abbrev pub less : Tree
less = Scoped here (Named here 30 true (ByValue (Operate here here op.Sub (named 31) (literal 1)) NoArgs)) 32

abbrev pub counting : Source
counting = record {
  items = OfClass here (Some 30) (record { params = parameter 31 ∷ []; special = None; is_module = false; members = constant less ∷ [] })
      ∷ OfClass here (Some 30) (record { params = []; special = Some (ByValue (literal 0) NoArgs); is_module = false; members = constant (literal 1) ∷ [] }) ∷ [];
  end = here;
}

abbrev pub args : ℕ → walk.Args
args n = walk.Cons (walk.Value int n) walk.Nil
