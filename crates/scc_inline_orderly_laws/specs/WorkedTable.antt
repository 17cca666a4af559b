-- `struct C { int x; void f() { x = 1; } };` and a top `C a[2]; int t[2]; C* b[2]; sc_in<bool> c; void m() { for (int i = 0; i < 2; i++) a[t[i]].f(); }` whose constructor has
-- `t[0] = 1; b[1] = new C; SC_METHOD(m); sensitive << c.pos();`: by a table a counter chooses the object of a call, and of another array one pointer alone leads to an object.
use Rattle.std.specs.Prelude.{false, true, [], ◌∷◌, Some, None}
use Rattle.scc_bits_kinds.specs.declared.kind.Kind.TheVariants as kind
use Rattle.scc_bits_kinds.specs.declared.op.Op.TheVariants as op
use Rattle.scc_elab_spec.specs.Term.{Load, Binary, Left, Local, This, Index, Whole}
use Rattle.scc_elab_spec.specs.Term as term
use Rattle.scc_elab_spec.specs.Program.{Number, OfClass, Input, Direct, Pointer, End, Assign, Call, If, Loop, Block, Exit, Make, Process, Sensitive, Plain}
use Rattle.scc_elab_spec.specs.Worked.{here, int, member, number}
use Rattle.scc_inline_orderly_laws.specs.Worked.{i, next}

abbrev pub entry : Left
entry = Index (term.Member (This here) 1) i

abbrev pub tabled : Plain
tabled = record {
  top = 1;
  functions =
      record { name = 90; place = here; class = Some 0; params = 0; locals = []; result = None; inits = End; body = Assign here (term.Member (This here) 0) Whole (number 1) End }
      ∷ record {
        name = 91;
        place = here;
        class = Some 1;
        params = 0;
        locals = member 96 (Number int) ∷ [];
        result = None;
        inits = End;
        body = Block here (Assign here (Local here 0) Whole (number 0) (Loop here (Some (record { counter = 0; start = number 0; compare = op.Lt; bound = number 2; step_op = op.Add; step = number 1 }))
            (If here (Binary here kind.Bool op.Lt i (number 2)) End (Exit here 0 End) (Block here (Call here 0 0 (Some (Index (term.Member (This here) 0) (Load here int entry))) [] End) (Assign here (Local here 0) Whole next End))) End)) End;
      } ∷ record {
        name = 97;
        place = here;
        class = Some 1;
        params = 0;
        locals = [];
        result = None;
        inits = End;
        body = Assign here (Index (term.Member (This here) 1) (number 0)) Whole (number 1)
            (Make here (Index (term.Member (This here) 2) (number 1)) (OfClass 0) [] (Process here false 1 None (Sensitive here (record { place = here; signal = Some (term.Member (This here) 3); rising = Some true } ∷ []) End)));
      } ∷ [];
  classes =
      record { name = 92; place = here; is_module = false; members = member 95 (Number int) ∷ []; constructor = None }
      ∷ record {
        name = 93;
        place = here;
        is_module = true;
        members = record { name = 94; place = here; shape = record { base = OfClass 0; reach = Direct; vector = false; sizes = 2 ∷ [] } }
            ∷ record { name = 100; place = here; shape = record { base = Number int; reach = Direct; vector = false; sizes = 2 ∷ [] } }
            ∷ record { name = 101; place = here; shape = record { base = OfClass 0; reach = Pointer; vector = false; sizes = 2 ∷ [] } } ∷ member 98 (Input kind.Bool) ∷ [];
        constructor = Some 2;
      } ∷ [];
}
