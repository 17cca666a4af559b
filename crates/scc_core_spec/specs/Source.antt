-- A core as a design: its bodies as bodies of the machine, its cells as things at locations (IEEE 1666-2011, 4.1, 5.2, 6.4, 6.8, 6.12). A location comes
-- from a cell's name, so the numbers of cells don't show.
use Rattle.std.specs.Prelude.{ℕ, suc, Bool, true, false, not, ◌&&◌, List, [], ◌∷◌, map, filter_map, Option, Some, None, option_map, option_and_then, slice_get, unwrap_or, find, is_some, if◌then◌else◌}
use Rattle.scc_semantics.specs.Location.{Location, Root, Part, Top, Element, same, same_path}
use Rattle.scc_semantics.specs.Places as design
use Rattle.scc_semantics.specs.Places.{Thing}
use Rattle.scc_semantics.specs.Expressions as body
use Rattle.scc_semantics.specs.Expressions.{Expr}
use Rattle.scc_semantics.specs.Body.{Body}
use Rattle.scc_semantics.specs.Body as machine
use Rattle.scc_semantics.specs.Design as running
use Rattle.scc_semantics.specs.Design.{Design, TopPort}
use Rattle.scc_core_spec.specs.Term.{Term, Literal, Load, Read, Convert, Unary, Binary, Choose, Bit, Range, Join, Left, Cell, Prefix, Null, Follow, Member, Index, Pick, Whole, OneBit, Bits, CellName, Own}
use Rattle.scc_core_spec.specs.Code.{Code, Pointed, Declared, Assigned, End, Put, Aim, If, Block, Loop, Exit, Wait}
use Rattle.scc_core_spec.specs.Program.{Program, Process, Sort, Input, Output, Signal, Variable, Local, Pointer, Port, Edge, Reset, is_pointer, is_input, is_output}
use Rattle.scc_core_spec.specs.Program as program
use Rattle.scc_core_spec.specs.Static.{Cells, fixed_word}

-- which location stands for a process's local of that number
abbrev pub Home : Type 0
Home = ℕ → ℕ → Root

abbrev pub at_top : List Part → Location
at_top path = record { root = Top; path = path }

-- the location of a name that stands in the body of process i
abbrev pub location_in : Home → ℕ → Option Own → CellName → Location
location_in home i None n = at_top n.path
location_in home i (Some o) n = record { root = home i o.number; path = map Element n.indices }

abbrev pub location_of : Home → ℕ → CellName → Location
location_of home i n = location_in home i n.own n

module _ (home : Home) (cs : Cells) (i : ℕ) where
  abbrev pub cell_left : Option program.Cell → body.Left
  cell_left None = body.Null
  cell_left (Some c) = body.At (location_of home i c.name)

  abbrev mutual
    pub expr_of : Term → Expr
    expr_of (Literal p k w) = body.Literal k w
    expr_of (Load p k l) = body.Load k (left_of l)
    expr_of (Read p k l) = body.Read k (left_of l)
    expr_of (Convert p k e) = body.Convert k (expr_of e)
    expr_of (Unary p k o a) = body.Unary o (expr_of a)
    expr_of (Binary p k o a b) = body.Binary o (expr_of a) (expr_of b)
    expr_of (Choose p k t a b) = body.Choose k (expr_of t) (expr_of a) (expr_of b)
    expr_of (Bit p a e) = body.Bit (expr_of a) (expr_of e)
    expr_of (Range p k a h l) = body.Range k (expr_of a) h l
    expr_of (Join p k a b) = body.Join k (expr_of a) (expr_of b)

    pub left_of : Left → body.Left
    left_of (Cell p n) = cell_left (slice_get cs n)
    left_of (Prefix p n) = body.At (location_of home i n)
    left_of (Null p) = body.Null
    left_of (Follow p soft l) = body.Follow (left_of l)
    left_of (Member l n) = body.Field (left_of l) n
    left_of (Index l size e) = body.Indexed (left_of l) (expr_of e)

  abbrev pub pick_of : Pick → body.Pick
  pick_of Whole = body.Whole
  pick_of (OneBit e) = body.OneBit (expr_of e)
  pick_of (Bits h l) = body.Bits h l

  abbrev pub aimed : Pointed → body.Left → Body → Body
  aimed (Declared n) t r = machine.Point true (cell_left (slice_get cs n)) (body.Address t) r
  aimed (Assigned l) t r = machine.Point false (left_of l) (body.Address t) r

  abbrev pub body_of : Code → Body
  body_of End = machine.End
  body_of (Put p l k e r) = machine.Assign (left_of l) (pick_of k) (expr_of e) (body_of r)
  body_of (Aim p to t r) = aimed to (left_of t) (body_of r)
  body_of (If p t a b r) = machine.If (expr_of t) (body_of a) (body_of b) (body_of r)
  body_of (Block p b r) = machine.Block (body_of b) (body_of r)
  body_of (Loop p c b r) = machine.Loop (body_of b) (body_of r)
  body_of (Exit p n r) = machine.Exit n (body_of r)
  body_of (Wait p l n r) = machine.Wait l n (body_of r)

-- the process whose name a local's name begins with
abbrev pub process_named : ℕ → List Part → List Process → ℕ
process_named i path [] = i
process_named i path (q ∷ qs) = if same_path path q.name.path then i else process_named (suc i) path qs

module _ (home : Home) (p : Program) where
  abbrev pub cell_location : program.Cell → Location
  cell_location c = location_of home (process_named 0 c.name.path p.processes) c.name

  abbrev pub thing_of : program.Cell → Sort → Option Thing
  thing_of c Input = Some (design.Signal c.kind)
  thing_of c Output = Some (design.Signal c.kind)
  thing_of c Signal = Some (design.Signal c.kind)
  thing_of c (Variable w f) = Some (design.Number c.kind)
  thing_of c (Local i) = Some (design.Number c.kind)
  thing_of c (Pointer t) = None
  thing_of c (Port root) = Some (design.Port c.kind (at_top root))

  abbrev pub cell_there : Bool → Location → Option program.Cell
  cell_there pointer l = find (λ c. same (cell_location c) l && (if pointer then is_pointer c.sort else not (is_pointer c.sort))) p.cells

  abbrev pub target_there : Option program.Cell → Option Location
  target_there None = None
  target_there (Some c) = target_by c.sort
    where
      target_by : Sort → Option Location
      target_by (Pointer t) = option_map at_top t
      target_by _ = None

  abbrev pub edge_at : Edge → design.Edge
  edge_at e = record { clock = unwrap_or (option_map cell_location (slice_get p.cells e.cell)) (at_top []); rising = e.rising }

  abbrev pub reset_at : Reset → design.Reset
  reset_at r = record { root = unwrap_or (option_map cell_location (slice_get p.cells r.cell)) (at_top []); level = r.level; asynchronous = r.asynchronous }

  abbrev pub senses_at : List ℕ → List Location
  senses_at ns = filter_map (λ n. option_map cell_location (slice_get p.cells n)) ns

  abbrev pub sort_of : Process → Bool → Option Edge → design.Sort
  sort_of q true (Some e) = design.Thread (edge_at e) (option_map reset_at q.reset)
  sort_of q false (Some e) = design.Clocked (edge_at e)
  sort_of q b None = design.Combinational (senses_at q.senses)

  abbrev pub processes_from : ℕ → List Process → List running.Process
  processes_from i [] = []
  processes_from i (q ∷ qs) = record { object = at_top []; sort = sort_of q q.is_thread q.edge; body = body_of home p.cells i q.body } ∷ processes_from (suc i) qs

  abbrev pub port_of : program.Cell → Option TopPort
  port_of c = if is_input c.sort then Some (record { location = cell_location c; direction = running.Input })
      else (if is_output c.sort then Some (record { location = cell_location c; direction = running.Output }) else None)

  -- the design that a core is; what no process writes is said of it, as it is read off the resolved core
  abbrev pub source_of : (Location → Option ℕ) → Design
  source_of constant = record {
    places = record { things = λ l. option_and_then (λ c. thing_of c c.sort) (cell_there false l); pointers = λ l. is_some (cell_there true l) };
    functions = λ f. machine.End;
    ports = filter_map port_of p.cells;
    fixed = λ l. option_and_then (λ c. fixed_word c.sort) (cell_there false l);
    constant = constant;
    targets = λ l. target_there (cell_there true l);
    processes = processes_from 0 p.processes;
  }
