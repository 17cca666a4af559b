-- Bodies of a function `void f()` of `struct T { int x; bool g() { return 1; } .. };`.
use Rattle.std.specs.Prelude.{ℕ, false, [], ◌∷◌, Some, None}
use Rattle.scc_bits_kinds.specs.declared.kind.Kind.TheVariants as kind
use Rattle.scc_bits_kinds.specs.declared.op.Op.TheVariants as op
use Rattle.scc_tree.specs.declared.local.Hold.TheVariants as hold
use Rattle.scc_tree.specs.declared.ty.Family.TheVariants as family
use Rattle.scc_elab_spec.specs.Term as term
use Rattle.scc_elab_spec.specs.Program as code
use Rattle.scc_plain_spec.specs.Numbers.{int}
use Rattle.scc_templates_spec.specs.Tree.{Tree, Name, Operate, Call, Nil, OfKind, Sized}
use Rattle.scc_templates_spec.specs.Tree as tree
use Rattle.scc_templates_spec.specs.Statements.{Stmts, End, Declare, Simply, Assign, Step, For, Locals, Switch, Case, Otherwise, Between, NoItems, Break, Return, While, Wait, Calls}
use Rattle.scc_templates_spec.specs.Source.{Source, OfClass, Member, Variable, Declares, Declared, Function}
use Rattle.scc_plain_spec.specs.Worked.{here}
use Rattle.scc_templates_spec.specs.WorkedSource.{at}
use Rattle.scc_plain_spec.specs.WorkedTemplates.{named, literal, int_type, field, method, local, load}

-- T, x, g, f, i, r are the names 20 to 25
abbrev pub test_function : Function
test_function = record { place = here; name = 22; constructor = false; result = Some (OfKind here kind.Bool); params = []; inits = []; body = Some (Return here (Some (literal 1)) End) }

abbrev pub declares : ℕ → ℕ → Function → Member
declares n x f = Declares n (record { place = here; name = Some x; said = Declared f })

abbrev pub with_body : Stmts → Source
with_body b = record { items = OfClass here (Some 20) (record { params = []; special = None; is_module = false; members = Variable 0 (field 21 int_type) ∷ declares 0 22 test_function ∷ declares 1 23 (method 23 b) ∷ [] }) ∷ []; end = here }

abbrev pub set : Tree → Stmts → Stmts
set e r = Simply (Assign here (named 21) None here e) r

-- `for (int i = 0; i < 4; i++) x = i;`
abbrev pub for_body : Stmts
for_body = For here (Locals (record { place = here; name = 24; type = int_type; hold = hold.Direct; sizes = Nil; value = Some (literal 0) } ∷ [])) (Some (Operate here here op.Lt (named 24) (literal 4)))
    (Some (Step here (named 24) op.Add here)) (set (named 24) End) End

-- `switch (x) { default: x = 1; break; case 2: x = 3; }`
abbrev pub switch_body : Stmts
switch_body = Switch here (named 21) (Otherwise here (Between (set (literal 1) End) (Between (Break here End) (Case here (literal 2) (Between (set (literal 3) End) NoItems))))) End

-- `while (g()) {} x = 1 / 0;`, the call at 5, the operator at 8
abbrev pub late_body : Stmts
late_body = While here (Call (at 5) (Name (at 5) 22) Nil) End (set (Operate here (at 8) op.Div (literal 1) (literal 0)) End)

-- `x = g();`
abbrev pub call_body : Stmts
call_body = set (Call here (named 22) Nil) End

abbrev pub x_left : term.Left
x_left = term.Member (term.This here) 0

abbrev pub put : term.Term → code.Code → code.Code
put e r = code.Assign here x_left term.Whole e r

abbrev pub number : ℕ → term.Term
number n = term.Literal here int n

abbrev pub for_code : code.Code
for_code = code.Block here (code.Assign here (local 0) term.Whole (number 0)
    (code.Loop here (Some (record { counter = 0; start = number 0; compare = op.Lt; bound = number 4; step_op = op.Add; step = number 1 }))
    (code.If here (term.Binary here kind.Bool op.Lt (load int 0) (number 4)) code.End (code.Exit here 0 code.End) (code.Block here (put (load int 0) code.End)
    (code.Assign here (local 0) term.Whole (term.Binary here int op.Add (load int 0) (number 1)) code.End))) code.End)) code.End

abbrev pub switch_code : code.Code
switch_code = code.Assign here (local 0) term.Whole (term.Load here int x_left) (code.Block here (code.Block here (code.Block here
    (code.If here (term.Binary here kind.Bool op.Eq (load int 0) (number 2)) (code.Exit here 1 code.End) code.End (code.Exit here 0 code.End))
    (put (number 1) (code.Exit here 1 code.End))) (put (number 3) code.End)) code.End)

-- the call comes first; its result is converted
abbrev pub call_code : code.Code
call_code = code.Call here 0 0 None [] (put (term.Convert here int (term.Load here kind.Bool (term.Answer here 0))) code.End)

-- `f();`, the call at 3: f calls itself
abbrev pub endless_body : Stmts
endless_body = Simply (Calls here (Call here (Name (at 3) 23) Nil)) End

-- `switch (x) { case 2: case 2: }`, the labels at 3 and 6
abbrev pub twice_body : Stmts
twice_body = Switch here (named 21) (Case (at 3) (literal 2) (Case (at 6) (literal 2) NoItems)) End

-- `wait(0);` and `sc_uint<x> y;`, the count and the width at 7; `break;` at 7
abbrev pub wait_body : Stmts
wait_body = Wait here (Some (tree.Number (at 7) int 0)) End

abbrev pub width_body : Stmts
width_body = Declare (record { place = here; name = 24; type = Sized here family.Uint (Name (at 7) 21); hold = hold.Direct; sizes = Nil; value = None }) End

abbrev pub break_body : Stmts
break_body = Break (at 7) End
