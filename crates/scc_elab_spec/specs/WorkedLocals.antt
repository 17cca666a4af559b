-- `struct C { C(int* p) { *p = 5; } };` and a top `C* c; int n;` whose constructor is `T() { int k; c = new C(&k); n = k; }`: C's constructor writes a local
-- of the top's.
use Rattle.std.specs.Prelude.{true, false, [], ◌∷◌, Some, None}
use Rattle.scc_elab_spec.specs.Term.{Load, Local, Follow, Whole, Leads, Address}
use Rattle.scc_elab_spec.specs.Program.{Number, OfClass, End, Declare, Assign, Make, Function, Plain}
use Rattle.scc_elab_spec.specs.Worked.{here, int, member, number}
use Rattle.scc_elab_spec.specs.WorkedMade.{pointer, own}

abbrev pub writer : Function
writer = record { name = 50; place = here; class = Some 0; params = 1; locals = pointer 51 (Number int) ∷ []; result = None; inits = End; body = Assign here (Follow here (Local here 0)) Whole (number 5) End }

abbrev pub owner : Function
owner = record {
  name = 52;
  place = here;
  class = Some 1;
  params = 0;
  locals = member 53 (Number int) ∷ [];
  result = None;
  inits = End;
  body = Declare here 0 (Make here (own 0) (OfClass 0) (Leads (Address (Local here 0)) ∷ []) (Assign here (own 1) Whole (Load here int (Local here 0)) End));
}

abbrev pub to_locals : Plain
to_locals = record {
  top = 1;
  functions = writer ∷ owner ∷ [];
  classes =
      record { name = 54; place = here; is_module = false; members = []; constructor = Some 0 }
      ∷ record { name = 55; place = here; is_module = true; members = pointer 56 (OfClass 0) ∷ member 57 (Number int) ∷ []; constructor = Some 1 } ∷ [];
}
