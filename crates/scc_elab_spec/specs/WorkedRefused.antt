-- What construction refuses of small programs: null that is followed, ports without a binding or with two, a top with a parameter. `struct C { int n; };` and a top `C* p; C* q; int x[1];` whose constructor is
-- `T() { x[i][q->n] = p->n; }`: the index of the bit comes first, also where i is past the end.
use Rattle.std.specs.Prelude.{ℕ, true, false, List, [], ◌∷◌, Some, None}
use Rattle.scc_base.specs.declared.refusal.Place.{Place}
use Rattle.scc_elab_spec.specs.Term.{Term, Left, Load, Follow, Index, OneBit}
use Rattle.scc_elab_spec.specs.Term as term
use Rattle.scc_elab_spec.specs.Program.{Base, Number, OfClass, Input, Signal, Direct, Member, Code, End, Assign, Bind, Wait, Function, Plain}
use Rattle.scc_elab_spec.specs.Worked.{here, int, member, number}
use Rattle.scc_elab_spec.specs.WorkedMade.{pointer, own}

abbrev pub at : ℕ → Place
at n = record { file = 0; at = n }

-- what the n of an object is to which a member leads, whose name stands at a place
abbrev pub behind : ℕ → ℕ → Term
behind m place = Load (at place) int (term.Member (Follow (at place) (own m)) 0)

abbrev pub bits : ℕ → Function
bits i = record { name = 60; place = here; class = Some 1; params = 0; locals = []; result = None; inits = End; body = Assign here (Index (own 2) (number i)) (OneBit (behind 1 3)) (behind 0 4) End }

abbrev pub array : Member
array = record { name = 61; place = here; shape = record { base = Number int; reach = Direct; vector = false; sizes = 1 ∷ [] } }

abbrev pub to_bits : ℕ → Plain
to_bits i = record {
  top = 1;
  functions = bits i ∷ [];
  classes =
      record { name = 62; place = here; is_module = false; members = member 63 (Number int) ∷ []; constructor = None }
      ∷ record { name = 64; place = here; is_module = true; members = pointer 65 (OfClass 0) ∷ pointer 66 (OfClass 0) ∷ array ∷ []; constructor = Some 0 } ∷ [];
}

abbrev pub member_at : ℕ → ℕ → Base → Member
member_at place n b = record { name = n; place = at place; shape = record { base = b; reach = Direct; vector = false; sizes = [] } }

abbrev pub constructor_of : List Member → Code → Function
constructor_of params body = record { name = 70; place = here; class = Some 0; params = 1; locals = params; result = None; inits = End; body = body }

abbrev pub without_params : Code → Function
without_params body = record { name = 70; place = here; class = Some 0; params = 0; locals = []; result = None; inits = End; body = body }

-- `SC_MODULE(M) { sc_in<int> a; };` and a top `M m; sc_signal<int> s;` whose constructor has such a body
abbrev pub with_port : Code → Plain
with_port body = record {
  top = 0;
  functions = without_params body ∷ [];
  classes =
      record { name = 71; place = here; is_module = true; members = member 72 (OfClass 1) ∷ member 73 (Signal int) ∷ []; constructor = Some 0 }
      ∷ record { name = 74; place = here; is_module = true; members = member_at 5 75 (Input int) ∷ []; constructor = None } ∷ [];
}

-- `m.a(s); m.a(s);`
abbrev pub port : Left
port = term.Member (own 0) 0

abbrev pub bound_twice : Code
bound_twice = Bind (at 6) port (Some (own 1)) (Bind (at 7) port (Some (own 1)) End)

-- `T(int k) { wait(); }`
abbrev pub with_param : Plain
with_param = record {
  top = 0;
  functions = constructor_of (member_at 8 76 (Number int) ∷ []) (Wait (at 9) 1 End) ∷ [];
  classes = record { name = 77; place = here; is_module = true; members = []; constructor = Some 0 } ∷ [];
}
