-- `int pick(int k) { return k; }` and a method `void f() { m = pick(1) + pick(0); }` of a top with an `int m`.
use Rattle.std.specs.Prelude.{ℕ, true, false, [], ◌∷◌, Some, None}
use Rattle.scc_base.specs.declared.refusal.Place.{Place}
use Rattle.scc_bits_kinds.specs.declared.kind.Kind.{Kind}
use Rattle.scc_bits_kinds.specs.declared.kind.Kind.TheVariants as kind
use Rattle.scc_bits_kinds.specs.declared.op.Op.TheVariants as op
use Rattle.scc_semantics.specs.Location as location
use Rattle.scc_core_spec.specs.Term as core
use Rattle.scc_core_spec.specs.Code as stmt
use Rattle.scc_elab_spec.specs.Term.{Term, Literal, Load, Binary, Left, Local, Answer, This, Whole, Value}
use Rattle.scc_elab_spec.specs.Term as term
use Rattle.scc_elab_spec.specs.Program.{Base, Number, Direct, Member, End, Assign, Call, Return, Function, Plain}
use Rattle.scc_elab_spec.specs.Design as design
use Rattle.scc_elab_spec.specs.Design.{Design}

abbrev pub here : Place
here = record { file = 0; at = 0 }

abbrev pub int : Kind
int = kind.Native 32 true

abbrev pub member : ℕ → Base → Member
member n b = record { name = n; place = here; shape = record { base = b; reach = Direct; vector = false; sizes = [] } }

abbrev pub pick : Function
pick = record {
  name = 20;
  place = here;
  class = None;
  params = 1;
  locals = member 21 (Number int) ∷ [];
  result = Some int;
  inits = End;
  body = Return here (Some (Load here int (Local here 0))) End;
}

abbrev pub number : ℕ → Term
number w = Literal here int w

abbrev pub answer : ℕ → Term
answer n = Load here int (Answer here n)

abbrev pub method : Function
method = record {
  name = 22;
  place = here;
  class = Some 0;
  params = 0;
  locals = [];
  result = None;
  inits = End;
  body = Call here 0 1 None (Value (number 1) ∷ []) (Call here 1 1 None (Value (number 0) ∷ [])
      (Assign here (term.Member (This here) 0) Whole (Binary here int op.Add (answer 0) (answer 1)) End));
}

abbrev pub program : Plain
program = record { classes = record { name = 23; place = here; is_module = true; members = member 24 (Number int) ∷ []; constructor = None } ∷ []; functions = method ∷ pick ∷ []; top = 0 }

abbrev pub made : Design
made = record {
  objects = record { path = []; place = here; node = design.Module 0 } ∷ record { path = location.Member 24 ∷ []; place = here; node = design.Variable int 0 } ∷ [];
  processes = record { object = 0; function = 0; place = here; is_thread = false; senses = []; edge = None; reset = None } ∷ [];
  targets = [];
  vectors = [];
}

abbrev pub put : ℕ → core.Term → stmt.Code → stmt.Code
put c e r = stmt.Put here (core.Cell here c) core.Whole e r

abbrev pub load : ℕ → core.Term
load c = core.Load here int (core.Cell here c)

-- a call: cell c is its result, the next one its parameter
abbrev pub copy : ℕ → ℕ → ℕ → stmt.Code → stmt.Code
copy result param w rest = stmt.Block here (put result (core.Literal here int 0) (put param (core.Literal here int w) (put result (load param) (stmt.Exit here 0 stmt.End)))) rest

abbrev pub copied : stmt.Code
copied = stmt.Block here (copy 1 2 1 (copy 3 4 0 (put 0 (core.Binary here int op.Add (load 1) (load 3)) stmt.End))) stmt.End
