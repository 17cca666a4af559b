-- `struct C { int x; void f() { x = 1; } };` and a top `C a[2]; sc_in<bool> c; void m() { for (int i = 0; i < 2; i++) a[i].f(); }`
-- whose constructor has `SC_METHOD(m); sensitive << c.pos();`: a counter chooses the object of a call.
use Rattle.std.specs.Prelude.{false, true, [], ◌∷◌, Some, None}
use Rattle.scc_bits_kinds.specs.declared.kind.Kind.TheVariants as kind
use Rattle.scc_bits_kinds.specs.declared.op.Op.TheVariants as op
use Rattle.scc_semantics.specs.Location as location
use Rattle.scc_elab_spec.specs.Term.{Term, Load, Binary, Left, Local, This, Index, Whole}
use Rattle.scc_elab_spec.specs.Term as term
use Rattle.scc_elab_spec.specs.Program.{Number, OfClass, Input, Direct, End, Assign, Call, If, Loop, Block, Exit, Process, Sensitive, Plain}
use Rattle.scc_elab_spec.specs.Design as design
use Rattle.scc_elab_spec.specs.Design.{Design}
use Rattle.scc_elab_spec.specs.Worked.{here, int, member, number}

abbrev pub i : Term
i = Load here int (Local here 0)

abbrev pub next : Term
next = Binary here int op.Add i (number 1)

abbrev pub counted : Plain
counted = record {
  top = 1;
  functions =
      record { name = 90; place = here; class = Some 0; params = 0; locals = []; result = None; inits = End; body = Assign here (term.Member (This here) 0) Whole (number 1) End }
      ∷ record {
        name = 91;
        place = here;
        class = Some 1;
        params = 0;
        locals = member 96 (Number int) ∷ [];
        result = None;
        inits = End;
        body = Block here (Assign here (Local here 0) Whole (number 0) (Loop here (Some (record { counter = 0; start = number 0; compare = op.Lt; bound = number 2; step_op = op.Add; step = number 1 }))
            (If here (Binary here kind.Bool op.Lt i (number 2)) End (Exit here 0 End) (Block here (Call here 0 0 (Some (Index (term.Member (This here) 0) i)) [] End) (Assign here (Local here 0) Whole next End))) End)) End;
      } ∷ record { name = 97; place = here; class = Some 1; params = 0; locals = []; result = None; inits = End; body = Process here false 1 None (Sensitive here (record { place = here; signal = Some (term.Member (This here) 1); rising = Some true } ∷ []) End) } ∷ [];
  classes =
      record { name = 92; place = here; is_module = false; members = member 95 (Number int) ∷ []; constructor = None }
      ∷ record {
        name = 93;
        place = here;
        is_module = true;
        members = record { name = 94; place = here; shape = record { base = OfClass 0; reach = Direct; vector = false; sizes = 2 ∷ [] } } ∷ member 98 (Input kind.Bool) ∷ [];
        constructor = Some 2;
      } ∷ [];
}

abbrev pub counting : Design
counting = record {
  objects =
      record { path = []; place = here; node = design.Module 1 }
      ∷ record { path = location.Member 94 ∷ location.Element 0 ∷ []; place = here; node = design.Module 0 }
      ∷ record { path = location.Member 94 ∷ location.Element 0 ∷ location.Member 95 ∷ []; place = here; node = design.Variable int 0 }
      ∷ record { path = location.Member 94 ∷ location.Element 1 ∷ []; place = here; node = design.Module 0 }
      ∷ record { path = location.Member 94 ∷ location.Element 1 ∷ location.Member 95 ∷ []; place = here; node = design.Variable int 0 }
      ∷ record { path = location.Member 98 ∷ []; place = here; node = design.Port kind.Bool false 5 } ∷ [];
  processes = record { object = 0; function = 1; place = here; is_thread = false; senses = []; edge = Some (record { root = 5; rising = true }); reset = None } ∷ [];
  targets = [];
  vectors = [];
}
