-- What the module of a core is made of. This project's own.
-- Its blocks in order with the processes to which they belong, the clocks and resets of those at edges, what each mentions, its registers, and how many statements
-- it has.
use Rattle.std.specs.Prelude.{◌≡◌, ◌⊎◌, ◌<◌, ◌≤◌, ◌^◌, ◌*◌, ◌+◌, ◌-◌, ℕ, max, Bool, true, false, not, ◌&&◌, List, [], ◌∷◌, ◌++◌, map, filter, flat_map, length, sum, Some, slice_get, codes, decimal, is_some}
use Rattle.std.specs.List.{range_with_len}
use Rattle.scc_svtree.specs.declared.module.SvModule.{SvModule}
use Rattle.scc_svtree.specs.declared.module.SvVar.{SvVar}
use Rattle.scc_svtree.specs.declared.module.SvBlock.{SvBlock}
use Rattle.scc_svtree.specs.Code as emitted
use Rattle.scc_svtree.specs.Sound.{block_names}
use Rattle.scc_blocks_spec.specs.Renamed.{BlockCode, Comb, Edge, block_code}
use Rattle.scc_blocks_spec.specs.Matches.{block_view, registers, name_at, width_of_var, is_port}
use Rattle.scc_core_spec.specs.Program.{Program, Process, Cell, is_output}
use Rattle.scc_core_spec.specs.Static.{Cells}
use Rattle.scc_core_spec.specs.Uses.{among, has_sort, width_at}
use Rattle.scc_core_spec.specs.Clashes.{live_acts, names_of}
use Rattle.scc_core_spec.specs.Constants.{name_text, written}
use Rattle.scc_core_spec.specs.Feeding.{IsOrder, of_process}
use Rattle.scc_core_spec.specs.Rules.{reset_cells}
use Rattle.scc_core_spec.specs.Segments.{counts}
use Rattle.scc_core_spec.specs.Sizes.{live_body, states, measure}
use Rattle.scc_blocks_spec.specs.Edged.{own_view}
use Rattle.scc_blocks_spec.specs.Names.{is_register, state_name, counter_name, has_state, has_counter}

-- what a block stands for: the outputs that are constant, a process, or the edge of a clocked one
pub data Owner : Type 0 where
  Constants : Owner
  Acts : (process : ℕ) → Owner
  AtEdge : (process : ℕ) → Owner

abbrev pub is_constant_output : Program → ℕ → Bool
is_constant_output p c = has_sort is_output p.cells c && not (among c (written p))

abbrev pub constant_outputs : Program → List ℕ
constant_outputs p = filter (is_constant_output p) (range_with_len 0 (length p.cells))

abbrev pub if_some : List ℕ → List Owner
if_some [] = []
if_some (c ∷ cs) = Constants ∷ []

abbrev pub clocked : Program → List ℕ
clocked p = filter (of_process false (λ q. is_some q.edge) p) (range_with_len 0 (length p.processes))

-- the constant outputs, the combinational methods in their order, then each clocked process with its edge
abbrev pub owners : Program → (order : List ℕ) → List Owner
owners p order = if_some (constant_outputs p) ++ (map Acts order ++ flat_map (λ i. Acts i ∷ AtEdge i ∷ []) (clocked p))

abbrev pub Belongs : Owner → BlockCode → Type 0
Belongs (AtEdge i) (Edge rising clock reset sets) = Unit {0}
Belongs (AtEdge i) (Comb c) = ⊥
Belongs o (Comb c) = Unit {0}
Belongs o (Edge rising clock reset sets) = ⊥

-- what a process's live part names, and its reset
abbrev pub cells_named : Cells → Process → List ℕ
cells_named cs q = reset_cells q.reset ++ flat_map (names_of cs) (live_acts cs q)

abbrev pub next_name : List ℕ → List ℕ
next_name name = name ++ codes "$$n"

-- a variable of a process's own: its state, its counter, the number of the block that it leaves, or a temporary
abbrev pub temporary_name : (ℕ → List ℕ) → Process → ℕ → List ℕ
temporary_name text q k = name_text text q.name ++ (codes "$" ++ (decimal k ++ codes "$index"))

pub data IsOwn (text : ℕ → List ℕ) (q : Process) : List ℕ → Type 0 where
  state : IsOwn text q (state_name text q)
  counter : IsOwn text q (counter_name text q)
  leaving : IsOwn text q (name_text text q.name ++ codes "$$exit")
  temporary : (k : ℕ) → IsOwn text q (temporary_name text q k)

-- the name of one of these cells
pub record IsNameOf (text : ℕ → List ℕ) (cs : Cells) (cells : List ℕ) (name : List ℕ) : Type 0 where
  pub cell : ℕ
  pub here : Cell
  pub stands : slice_get cs cell ≡ Some here
  pub among_them : among cell cells ≡ true
  pub is_name : name ≡ name_text text here.name

-- a variable of a process: a location's that it names, or one of its own
pub data IsOfProcess (text : ℕ → List ℕ) (cs : Cells) (q : Process) : List ℕ → Type 0 where
  named : {name : List ℕ} → IsNameOf text cs (cells_named cs q) name → IsOfProcess text cs q name
  own : {name : List ℕ} → IsOwn text q name → IsOfProcess text cs q name

-- what a process's blocks may mention beside ports
pub data MayMention (text : ℕ → List ℕ) (cs : Cells) (q : Process) : List ℕ → Type 0 where
  itself : {name : List ℕ} → IsOfProcess text cs q name → MayMention text cs q name
  next : {name : List ℕ} → IsOfProcess text cs q name → MayMention text cs q (next_name name)

abbrev pub MayStand : (ℕ → List ℕ) → Program → SvVar → Owner → Type 0
MayStand text p x Constants = IsNameOf text p.cells (constant_outputs p) x.name
MayStand text p x (Acts i) = (is_port x.dir ≡ true) ⊎ ((q : Process) × (slice_get p.processes i ≡ Some q) × MayMention text p.cells q x.name)
MayStand text p x (AtEdge i) = (is_port x.dir ≡ true) ⊎ ((q : Process) × (slice_get p.processes i ≡ Some q) × MayMention text p.cells q x.name)

-- The blocks stand in that order, a block at an edge has its own process's clock, edge and asynchronous reset, and each mentions no more than that.
pub record InOrder (text : ℕ → List ℕ) (p : Program) (m : SvModule) : Type 0 where
  pub order : List ℕ
  pub ordered : IsOrder p order
  pub as_many : length m.blocks ≡ length (owners p order)
  pub belong : (k : ℕ) (o : Owner) (b : SvBlock) → slice_get (owners p order) k ≡ Some o → slice_get m.blocks k ≡ Some b → Belongs o (block_code b)
  pub edges : (k i : ℕ) (q : Process) (b : SvBlock) → slice_get (owners p order) k ≡ Some (AtEdge i) → slice_get p.processes i ≡ Some q → slice_get m.blocks k ≡ Some b
      → block_view m b ≡ own_view text p.cells q
  pub mention : (k v : ℕ) (o : Owner) (b : SvBlock) (x : SvVar) → slice_get (owners p order) k ≡ Some o → slice_get m.blocks k ≡ Some b
      → slice_get m.vars v ≡ Some x → block_names b v ≡ true → MayStand text p x o

-- a register of that name and width
pub record HasRegister (m : SvModule) (name : List ℕ) (width : ℕ) : Type 0 where
  pub variable : ℕ
  pub is_set : among variable (registers m) ≡ true
  pub is_named : name_at m variable ≡ name
  pub is_wide : width_of_var m variable ≡ width

-- the fewest bits that hold a number above 0
abbrev pub IsFewest : ℕ → ℕ → Type 0
IsFewest n width = (n < 2 ^ width) × (2 ^ width ≤ 2 * n)

abbrev pub greatest : List ℕ → ℕ
greatest [] = 0
greatest (n ∷ ns) = max n (greatest ns)

-- The registers are those of cells, the states and the counters, and no others.
pub record HasRegisters (text : ℕ → List ℕ) (p : Program) (m : SvModule) : Type 0 where
  pub cells : (c : ℕ) (x : Cell) → slice_get p.cells c ≡ Some x → is_register p c ≡ true → HasRegister m (name_text text x.name) (width_at p.cells c)
  pub states : (i : ℕ) (q : Process) → slice_get p.processes i ≡ Some q → q.is_thread ≡ true → has_state p.cells q ≡ true
      → (w : ℕ) × IsFewest (states p.cells q.body - 1) w × HasRegister m (state_name text q) w
  pub counters : (i : ℕ) (q : Process) → slice_get p.processes i ≡ Some q → q.is_thread ≡ true → has_counter p.cells q ≡ true
      → (w : ℕ) × IsFewest (greatest (counts (live_body p.cells q.body)) - 1) w × HasRegister m (counter_name text q) w
  pub as_many : length (registers m) ≡ length (filter (is_register p) (range_with_len 0 (length p.cells)))
      + (length (filter (λ q. q.is_thread && has_state p.cells q) p.processes) + length (filter (λ q. q.is_thread && has_counter p.cells q) p.processes))

-- statements at every depth, an arm of a `case` being none
abbrev mutual
  pub statements : emitted.Code → ℕ
  statements emitted.End = 0
  statements (emitted.Assign l e r) = 1 + statements r
  statements (emitted.If c a b r) = 1 + (statements a + (statements b + statements r))
  statements (emitted.Case e arms r) = 1 + (statements_in arms + statements r)

  pub statements_in : emitted.Arms → ℕ
  statements_in emitted.None = 0
  statements_in (emitted.Arm w label body more) = statements body + statements_in more

abbrev pub block_statements : BlockCode → ℕ
block_statements (Comb c) = statements c
block_statements (Edge rising clock reset sets) = 0

-- at most eight for each unit of the core's measure, and one for each variable
abbrev pub IsBounded : Program → SvModule → Type 0
IsBounded p m = sum (map (λ b. block_statements (block_code b)) m.blocks) ≤ 8 * measure p + length m.vars
