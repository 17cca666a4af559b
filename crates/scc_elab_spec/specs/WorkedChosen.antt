-- `struct C { void f() {} };` and a top `C a[2]; int i; void m() { a[i].f(); i = 1; }`: an index that isn't static chooses the object of a call.
use Rattle.std.specs.Prelude.{true, false, [], ◌∷◌, Some, None}
use Rattle.scc_semantics.specs.Location as location
use Rattle.scc_elab_spec.specs.Term.{Load, This, Index, Whole}
use Rattle.scc_elab_spec.specs.Term as term
use Rattle.scc_elab_spec.specs.Program.{Number, OfClass, Direct, End, Assign, Call, Plain}
use Rattle.scc_elab_spec.specs.Design as design
use Rattle.scc_elab_spec.specs.Design.{Design}
use Rattle.scc_elab_spec.specs.Worked.{here, int, member, number}
use Rattle.scc_elab_spec.specs.WorkedMade.{own}
use Rattle.scc_elab_spec.specs.WorkedRefused.{at}

abbrev pub chosen : Plain
chosen = record {
  top = 1;
  functions =
      record { name = 90; place = here; class = Some 0; params = 0; locals = []; result = None; inits = End; body = End }
      ∷ record {
        name = 91;
        place = here;
        class = Some 1;
        params = 0;
        locals = [];
        result = None;
        inits = End;
        body = Call here 0 0 (Some (Index (term.Member (This (at 3)) 0) (Load here int (own 1)))) [] (Assign here (own 1) Whole (number 1) End);
      } ∷ [];
  classes =
      record { name = 92; place = here; is_module = false; members = []; constructor = None }
      ∷ record {
        name = 93;
        place = here;
        is_module = true;
        members = record { name = 94; place = here; shape = record { base = OfClass 0; reach = Direct; vector = false; sizes = 2 ∷ [] } } ∷ member 95 (Number int) ∷ [];
        constructor = None;
      } ∷ [];
}

abbrev pub choosing : Design
choosing = record {
  objects =
      record { path = []; place = here; node = design.Module 1 }
      ∷ record { path = location.Member 94 ∷ location.Element 0 ∷ []; place = here; node = design.Module 0 }
      ∷ record { path = location.Member 94 ∷ location.Element 1 ∷ []; place = here; node = design.Module 0 }
      ∷ record { path = location.Member 95 ∷ []; place = here; node = design.Variable int 0 } ∷ [];
  processes = record { object = 0; function = 1; place = here; is_thread = false; senses = []; edge = None; reset = None } ∷ [];
  targets = [];
  vectors = [];
}
