-- Bodies worked by hand: the counting thread, a thread with three states of which one stands in a branch, kept and unkept locals, a tail that is copied, a loop
-- that runs once, a counted loop, pointers.
use Rattle.std.specs.Prelude.{ℕ, suc, Bool, true, false, List, [], ◌∷◌, Some, None}
use Rattle.scc_base.specs.declared.refusal.Place.{Place}
use Rattle.scc_bits_kinds.specs.declared.kind.Kind.{Kind}
use Rattle.scc_bits_kinds.specs.declared.kind.Kind.TheVariants as kind
use Rattle.scc_bits_kinds.specs.declared.op.Op.TheVariants as op
use Rattle.scc_semantics.specs.Location.{Part}
use Rattle.scc_semantics.specs.Location as location
use Rattle.scc_core_spec.specs.Term.{Term, Literal, Load, Read, Convert, Unary, Binary, Left, Pick, Whole, CellName}
use Rattle.scc_core_spec.specs.Term as term
use Rattle.scc_core_spec.specs.Code.{Code, End, Put, If, Block, Loop, Exit, Wait}
use Rattle.scc_core_spec.specs.Program.{Cell, Sort, Input, Output, Variable, Local, Pointer, Process}

abbrev pub here : Place
here = record { file = 0; at = 0 }

abbrev pub named : ℕ → CellName
named n = record { path = location.Member n ∷ []; own = None; indices = [] }

abbrev pub cell : ℕ → Kind → Sort → Cell
cell n k s = record { name = named n; kind = k; sort = s; place = here }

-- `sc_in<bool> clk, rst; sc_out<sc_uint<8> > q; sc_uint<8> n;`
abbrev pub count_cells : List Cell
count_cells = cell 0 kind.Bool Input ∷ cell 1 kind.Bool Input ∷ cell 2 (kind.Uint 8) Output ∷ cell 3 (kind.Uint 8) (Variable 0 false) ∷ []

abbrev pub put : ℕ → Term → Code → Code
put c e r = Put here (term.Cell here c) Whole e r

abbrev pub byte : ℕ → Term
byte w = Literal here (kind.Uint 8) w

abbrev pub load : ℕ → Term
load c = Load here (kind.Uint 8) (term.Cell here c)

abbrev pub yes : Term
yes = Literal here kind.Bool 1

-- `n + 1` in 8 bits
abbrev pub one_more : Term
one_more = Convert here (kind.Uint 8) (Binary here (kind.Native 64 false) op.Add (load 3) (byte 1))

-- `while (true) BODY`, before what follows
abbrev pub forever : Code → Code → Code
forever body rest = Block here (Loop here None (If here yes End (Exit here 0 End) (Block here body End)) End) rest

-- `n = 0; q.write(0); wait(); while (true) { n++; q.write(n); wait(); }`
abbrev pub count_body : Code
count_body = Block here (put 3 (byte 0) (put 2 (byte 0) (Wait here 0 1 (forever (put 3 one_more (put 2 (load 3) (Wait here 0 1 End))) End)))) End

-- `if (rst) wait(); n = 0; wait(); while (true) { q.write(n); n++; wait(); }`: three states
abbrev pub branch_body : Code
branch_body = Block here (If here (Read here kind.Bool (term.Cell here 1)) (Wait here 0 1 End) End (put 3 (byte 0) (Wait here 0 1 (forever (put 2 (load 3) (put 3 one_more (Wait here 0 1 End))) End)))) End

abbrev pub process : Bool → List ℕ → Code → Process
process thread senses body = record { is_thread = thread; name = named 9; place = here; senses = senses; edge = None; reset = None; body = body }

-- `q.write(0); wait(); while (true) { sc_uint<8> t = n; q.write(t); wait(); }`: t is a local, and doesn't live across a wait
abbrev pub local_cells : List Cell
local_cells = cell 1 kind.Bool Input ∷ cell 2 (kind.Uint 8) Output ∷ cell 3 (kind.Uint 8) (Variable 0 false)
    ∷ record { name = record { path = location.Member 9 ∷ []; own = Some (record { number = 0; identifier = 4 }); indices = [] }; kind = kind.Uint 8; sort = Local 0; place = here } ∷ []

abbrev pub local_body : Code
local_body = Block here (put 1 (byte 0) (Wait here 0 1 (forever (put 3 (load 2) (put 1 (load 3) (Wait here 0 1 End))) End))) End

-- `q.write(0); wait(); while (true) { sc_uint<8> t = n; wait(); q.write(t); wait(); }`: here t lives across the first wait of the loop
abbrev pub kept_body : Code
kept_body = Block here (put 1 (byte 0) (Wait here 0 1 (forever (put 3 (load 2) (Wait here 0 1 (put 1 (load 3) (Wait here 0 1 End)))) End))) End

-- `n = 0; while (true) { if (rst) wait(); q.write(n); n++; wait(); }`: the tail stands in the reset segment and behind both waits
abbrev pub tail_body : Code
tail_body = Block here (put 3 (byte 0) (forever (If here (Read here kind.Bool (term.Cell here 1)) (Wait here 0 1 End) End (put 2 (load 3) (put 3 one_more (Wait here 0 1 End)))) End)) End

-- `while (rst) { if (0) wait(); n = 0; break; } wait(); n = 0;`: no path comes to the end of the loop's body, nor to its wait
abbrev pub once_body : Code
once_body = Block here (Block here (Loop here None (If here (Read here kind.Bool (term.Cell here 1)) End (Exit here 0 End)
    (Block here (If here (Literal here kind.Bool 0) (Wait here 0 1 End) End (put 3 (byte 0) (Exit here 1 End))) End)) End) (Wait here 0 1 (put 3 (byte 0) End))) End

abbrev pub once_live : Code
once_live = Block here (Block here (If here (Read here kind.Bool (term.Cell here 1)) End (Exit here 0 End) (Block here (put 3 (byte 0) (Exit here 1 End)) End)) (Wait here 0 1 (put 3 (byte 0) End))) End

-- `for (int i = 0; i <= 7; i++) { if (a.read()[i]) break; n = n + 1; }` with i in cell 4, in a body of its own
abbrev pub int : Kind
int = kind.Native 32 true

abbrev pub turn_cells : List Cell
turn_cells = cell 0 kind.Bool Input ∷ cell 1 (kind.Uint 8) Input ∷ cell 2 (kind.Uint 8) Output ∷ cell 3 (kind.Uint 8) (Variable 0 false)
    ∷ record { name = record { path = location.Member 9 ∷ []; own = Some (record { number = 0; identifier = 4 }); indices = [] }; kind = int; sort = Local 0; place = here } ∷ []

abbrev pub counter : Term
counter = Load here int (term.Cell here 4)

abbrev pub number : ℕ → Term
number w = Literal here int w

abbrev pub leaves_at : Term → Code
leaves_at i = If here (term.Bit here (Read here (kind.Uint 8) (term.Cell here 1)) i) (Exit here 1 End) End (put 3 one_more End)

abbrev pub turn_body : ℕ → Code
turn_body last = Block here (Block here (put 4 (number 0) (Loop here
    (Some (record { cell = 4; start = number 0; compare = op.Le; bound = number last; step_op = op.Add; step = number 1 }))
    (If here (Binary here kind.Bool op.Le counter (number last)) End (Exit here 0 End) (Block here (leaves_at counter) (put 4 (Binary here int op.Add counter (number 1)) End))) End)) End) End

abbrev pub turn_written : ℕ → Code → Code
turn_written w rest = Block here (leaves_at (number w)) (put 4 (number (suc w)) rest)

-- `struct C { int n; }; C* c; C* d;` where c leads to an object and d is null: `c->n = 1` and `d->n = 1`
abbrev pub pointer_cells : List Cell
pointer_cells = cell 5 kind.Bool (Pointer (Some (location.Member 5 ∷ []))) ∷ cell 6 kind.Bool (Pointer None)
    ∷ record { name = record { path = location.Member 5 ∷ location.Member 7 ∷ []; own = None; indices = [] }; kind = int; sort = Variable 0 false; place = here } ∷ []

-- the bit of a variable of an object that an index chooses, at 1, under an index that follows null, at 2: `p[i].n[d->n]` for an i in cell 2
abbrev pub spot : ℕ → Place
spot n = record { file = 0; at = n }

abbrev pub bit_behind_null : Term
bit_behind_null = term.Bit (spot 1) (Load (spot 1) int (term.Member (term.Index (term.Prefix (spot 1) (named 8)) 4 (Load here int (term.Cell here 2))) 7))
    (Load (spot 2) int (term.Member (term.Follow (spot 2) false (term.Cell (spot 2) 1)) 7))

abbrev pub through : ℕ → Code
through c = Put here (term.Member (term.Follow here false (term.Cell here c)) 7) Whole (number 1) End
