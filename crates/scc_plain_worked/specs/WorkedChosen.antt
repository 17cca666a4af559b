-- `template<int N> struct S { int x; void f() { x = 0; } };` and `struct T { S<8> a; };`, with `template<> struct S<8> { int x; void f() { x = 1; } };` or
-- `void S<8>::f() { x = 2; }` between them; and `C::g()` in `struct T`, of a `struct C { int n; int g() { return 1; } };` or one where g returns n.
use Rattle.std.specs.Prelude.{ℕ, false, List, [], ◌∷◌, ◌++◌, Some, None}
use Rattle.scc_templates_spec.specs.Walk.{Args}
use Rattle.scc_templates_spec.specs.Walked.{Walked}
use Rattle.scc_elab_spec.specs.Term as term
use Rattle.scc_elab_spec.specs.Program as code
use Rattle.scc_plain_spec.specs.Numbers.{int}
use Rattle.scc_templates_spec.specs.Tree.{Tree, Scoped, Call, Nil, Named, TyArgs, NoArgs, ByValue}
use Rattle.scc_templates_spec.specs.Statements.{End, Simply, Assign, Return}
use Rattle.scc_templates_spec.specs.Source.{Source, Top, OfClass, Outside, Member, Variable, Function}
use Rattle.scc_plain_spec.specs.Types.{Object}
use Rattle.scc_plain_spec.specs.Names.{class_at}
use Rattle.scc_plain_spec.specs.Keys.{behind_chain}
use Rattle.scc_plain_spec.specs.Asked.{use_of}
use Rattle.scc_plain_spec.specs.Worked.{here}
use Rattle.scc_templates_spec.specs.WorkedSource.{at}
use Rattle.scc_plain_spec.specs.WorkedTemplates.{named, literal, int_type, field, parameter, method, user, templated}
use Rattle.scc_plain_spec.specs.WorkedBodies.{declares, with_body, set, put, number}
use Rattle.scc_plain_worked.specs.WorkedMaking.{class}

-- S, T, N, x, f, a are the names 20 to 23, 25 and 27
abbrev pub sets : ℕ → Function
sets n = method 25 (Simply (Assign here (named 23) None here (literal n)) End)

abbrev pub members : ℕ → List Member
members n = Variable 0 (field 23 int_type) ∷ declares 0 25 (sets n) ∷ []

abbrev pub eight : TyArgs
eight = ByValue (literal 8) NoArgs

abbrev pub inside : Top
inside = OfClass here (Some 20) (record { params = []; special = Some eight; is_module = false; members = members 1 })

abbrev pub beside : Top
beside = Outside here [] 20 eight (sets 2)

abbrev pub chosen : List Top → Source
chosen ts = record { items = OfClass here (Some 20) (record { params = parameter 22 ∷ []; special = None; is_module = false; members = members 0 }) ∷ (ts ++ OfClass here (Some 21) user ∷ []); end = here }

abbrev pub written_number : ℕ → code.Code
written_number n = put (number n) code.End

-- T, x, g, f are the names 20 to 23, C and n 28 and 29; the call at 5
abbrev pub gives : Tree → Function
gives e = record { place = here; name = 22; constructor = false; result = Some int_type; params = []; inits = []; body = Some (Return here (Some e) End) }

abbrev pub called_by_class : Tree → Source
called_by_class e = record { items = class 28 (Variable 0 (field 29 int_type) ∷ declares 0 22 (gives e) ∷ []) ∷ (with_body (set (Call (at 5) (Scoped here (Named here 28 false NoArgs) 22) Nil) End)).items; end = here }

abbrev pub class_code : code.Code
class_code = code.Call (at 5) 0 2 None [] (put (term.Load (at 5) int (term.Answer (at 5) 0)) code.End)

-- S with arguments that are handed in
abbrev pub instance_by : Args → Walked Object
instance_by xs = use_of (templated End) (behind_chain (templated End) 12 []) 0 xs here (class_at (templated End) 0)
