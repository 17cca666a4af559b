-- `struct C { int n; C(int k) : n(k) {} };` and a top `C* q; C r; int* z;` whose constructor is
-- `T() : r(3), z(&r.n) { for (int i = 0; i < 2; i++) *z = *z + i; q = new C(*z + 4); }`. A top with an array of two pointers to vectors; and one with a
-- pointer past the end of an array.
use Rattle.std.specs.Prelude.{ℕ, true, false, List, [], ◌∷◌, map, Option, Some, None}
use Rattle.scc_bits_kinds.specs.declared.op.Op.TheVariants as op
use Rattle.scc_bits_kinds.specs.declared.kind.Kind.TheVariants as kind
use Rattle.scc_core_spec.specs.Resolved.{Tried, Made}
use Rattle.scc_elab_spec.specs.Term.{Term, Left, Literal, Load, Binary, Local, This, Follow, Index, Whole, Value, Address}
use Rattle.scc_elab_spec.specs.Term as term
use Rattle.scc_elab_spec.specs.Program.{Base, Number, OfClass, Signal, Direct, Pointer, Member, End, Assign, Point, If, Loop, Block, Exit, Make, Function, Plain}
use Rattle.scc_elab_spec.specs.Design.{Design, Object, Node, Target}
use Rattle.scc_elab_spec.specs.Worked.{here, int, member, number}

abbrev pub pointer : ℕ → Base → Member
pointer n b = record { name = n; place = here; shape = record { base = b; reach = Pointer; vector = false; sizes = [] } }

abbrev pub own : ℕ → Left
own m = term.Member (This here) m

abbrev pub sum : Term → Term → Term
sum a b = Binary here int op.Add a b

abbrev pub counter : Term
counter = Load here int (Local here 0)

abbrev pub through : Left
through = Follow here (own 2)

abbrev pub inner : Function
inner = record {
  name = 30;
  place = here;
  class = Some 0;
  params = 1;
  locals = member 31 (Number int) ∷ [];
  result = None;
  inits = Assign here (own 0) Whole (Load here int (Local here 0)) End;
  body = End;
}

abbrev pub outer : Function
outer = record {
  name = 32;
  place = here;
  class = Some 1;
  params = 0;
  locals = member 33 (Number int) ∷ [];
  result = None;
  inits = Make here (own 1) (OfClass 0) (Value (number 3) ∷ []) (Point here (own 2) (Address (term.Member (own 1) 0)) End);
  body = Block here (Assign here (Local here 0) Whole (number 0) (Loop here None
      (If here (Binary here kind.Bool op.Lt counter (number 2)) End (Exit here 0 End) (Block here (Assign here through Whole (sum (Load here int through) counter) End)
      (Assign here (Local here 0) Whole (sum counter (number 1)) End))) End))
      (Make here (own 0) (OfClass 0) (Value (sum (Load here int through) (number 4)) ∷ []) End);
}

abbrev pub pointers : Plain
pointers = record {
  top = 1;
  functions = inner ∷ outer ∷ [];
  classes =
      record { name = 34; place = here; is_module = false; members = member 35 (Number int) ∷ []; constructor = Some 0 }
      ∷ record { name = 36; place = here; is_module = true; members = pointer 37 (OfClass 0) ∷ member 38 (OfClass 0) ∷ pointer 39 (Number int) ∷ []; constructor = Some 1 } ∷ [];
}

-- `sc_vector<sc_signal<int> >* v[2]; T() { v[0] = new sc_vector<sc_signal<int> >("a", 3); }`
abbrev pub to_vectors : Plain
to_vectors = record {
  top = 0;
  functions = record { name = 40; place = here; class = Some 0; params = 0; locals = []; result = None; inits = End; body = Make here (Index (own 0) (number 0)) (Signal int) (Value (number 3) ∷ []) End } ∷ [];
  classes = record {
    name = 41;
    place = here;
    is_module = true;
    members = record { name = 42; place = here; shape = record { base = Signal int; reach = Pointer; vector = true; sizes = 2 ∷ [] } } ∷ [];
    constructor = Some 0;
  } ∷ [];
}

-- the objects that are left, and their nodes
abbrev pub objects_of : Option (Tried Design) → List Object
objects_of (Some (Made d)) = d.objects
objects_of o = []

abbrev pub nodes_of : Option (Tried Design) → List Node
nodes_of o = map (λ o. o.node) (objects_of o)

abbrev pub targets_of : Option (Tried Design) → List Target
targets_of (Some (Made d)) = d.targets
targets_of o = []

-- `int a[1]; int* p; T() : p(&a[-1]) {}`
abbrev pub past_the_end : Plain
past_the_end = record {
  top = 0;
  functions = record { name = 43; place = here; class = Some 0; params = 0; locals = []; result = None; inits = Point here (own 1) (Address (Index (own 0) (number 4294967295))) End; body = End } ∷ [];
  classes = record {
    name = 44;
    place = here;
    is_module = true;
    members = record { name = 45; place = here; shape = record { base = Number int; reach = Direct; vector = false; sizes = 1 ∷ [] } } ∷ pointer 46 (Number int) ∷ [];
    constructor = Some 0;
  } ∷ [];
}
