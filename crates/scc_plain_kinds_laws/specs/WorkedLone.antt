-- `struct C { int x; };` and a top `C* a[2]; int y; sc_in<bool> c; void m() { y = a[1]->x; }` whose constructor has `a[1] = new C; SC_METHOD(m); sensitive << c.pos();`: of
-- two elements of an array only one leads to an object.
use Rattle.std.specs.Prelude.{false, true, [], ◌∷◌, Some, None}
use Rattle.scc_bits_kinds.specs.declared.kind.Kind.TheVariants as kind
use Rattle.scc_elab_spec.specs.Term.{Left, Load, This, Follow, Index, Whole}
use Rattle.scc_elab_spec.specs.Term as term
use Rattle.scc_elab_spec.specs.Program.{Number, OfClass, Input, Pointer, End, Assign, Make, Process, Sensitive, Plain}
use Rattle.scc_elab_spec.specs.Worked.{here, int, member, number}

abbrev pub second : Left
second = Index (term.Member (This here) 0) (number 1)

abbrev pub lone : Plain
lone = record {
  top = 1;
  functions =
      record { name = 91; place = here; class = Some 1; params = 0; locals = []; result = None; inits = End; body = Assign here (term.Member (This here) 1) Whole (Load here int (term.Member (Follow here second) 0)) End }
      ∷ record {
        name = 93;
        place = here;
        class = Some 1;
        params = 0;
        locals = [];
        result = None;
        inits = End;
        body = Make here second (OfClass 0) [] (Process here false 0 None (Sensitive here (record { place = here; signal = Some (term.Member (This here) 2); rising = Some true } ∷ []) End));
      } ∷ [];
  classes =
      record { name = 92; place = here; is_module = false; members = member 95 (Number int) ∷ []; constructor = None }
      ∷ record {
        name = 93;
        place = here;
        is_module = true;
        members = record { name = 94; place = here; shape = record { base = OfClass 0; reach = Pointer; vector = false; sizes = 2 ∷ [] } } ∷ member 96 (Number int) ∷ member 98 (Input kind.Bool) ∷ [];
        constructor = Some 1;
      } ∷ [];
}
