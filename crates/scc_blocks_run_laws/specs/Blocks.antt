-- The relation of a core and its module: a block for each process, a block at an edge for each clocked one, the outputs that are constant, and where each
-- variable's word comes from. This project's own.
use Rattle.std.specs.Prelude.{◌≡◌, ◌⊎◌, ℕ, zero, suc, ◌+◌, ◌*◌, ◌<◌, ◌^◌, nat_eq, cond, Bool, true, false, List, [], ◌∷◌, Option, Some, None, slice_get, length}
use Rattle.scc_svtree.specs.declared.module.SvModule.{SvModule}
use Rattle.scc_svtree.specs.declared.module.SvBlock.TheVariants as block
use Rattle.scc_svtree.specs.declared.module.SvSet.{SvSet}
use Rattle.scc_svtree.specs.declared.module.SvReset.{SvReset}
use Rattle.scc_svtree.specs.declared.stmt.SvStmt.{SvStmt}
use Rattle.scc_svtree.specs.declared.expr.VarId.{VarId}
use Rattle.scc_svtree.specs.Term as emitted
use Rattle.scc_svtree.specs.Code as emitted_code
use Rattle.scc_svtree.specs.Mentions.{mentions}
use Rattle.scc_svtree.specs.Steps.{input_at, is_clock, loaded, or_old}
use Rattle.scc_svtree.specs.Variables.{width_at as width_of_variable}
use Rattle.scc_blocks_spec.specs.Renamed.{code_as}
use Rattle.scc_core_spec.specs.Program.{Program, Process, Edge, Reset, is_combinational, is_root, is_held}
use Rattle.scc_core_spec.specs.Static.{Cells}
use Rattle.scc_core_spec.specs.Kept.{written_by}
use Rattle.scc_core_spec.specs.Segments.{counts}
use Rattle.scc_core_spec.specs.Sizes.{live_body}
use Rattle.scc_core_spec.specs.Uses.{among, has_sort, width_at}
use Rattle.scc_blocks_spec.specs.Acting.{latest}
use Rattle.scc_blocks_spec.specs.Effect.{Place}
use Rattle.scc_blocks_spec.specs.Names.{is_register}
use Rattle.scc_blocks_spec.specs.Tied.{Registers}
use Rattle.scc_blocks_spec.specs.Turns.{Regs, Left, constant_at, found, ran_segment, segment_at}
use Rattle.scc_blocks_spec.specs.Shown.{View, Constant, Read, Driven, Delayed, Plain, Next, mine, view_of, sight_of, IsSmall, state_number, next_state_number, counter_number, next_counter_number}
use Rattle.scc_blocks_run_laws.specs.Pieces.{First, Wide, firsts_code, first_at, is_source, variable, IsBody}

-- ---- registers that are proper

-- a wait of the thread, with fewer edges left than it counts
abbrev pub IsPlaceOf : Cells → Process → Place → Type 0
IsPlaceOf cs q place = (count : ℕ) × (slice_get (counts (live_body cs q.body)) place.number ≡ Some count) × (place.left < count)

-- Words fit, those of what has a variable and of what is held; what no process writes holds its constant, and threads stand behind waits of theirs.
pub record IsProper (p : Program) (r : Registers) (g : Regs) : Type 0 where
  pub fits : (c v : ℕ) → r.variable c ≡ Some v → g.word c < 2 ^ width_at p.cells c
  pub held : (c : ℕ) → has_sort is_held p.cells c ≡ true → g.word c < 2 ^ width_at p.cells c
  pub constants : (c w : ℕ) → has_sort is_root p.cells c ≡ true → constant_at p c ≡ Some w → g.word c ≡ w
  pub places : (i : ℕ) (q : Process) (place : Place) → slice_get p.processes i ≡ Some q → g.place i ≡ Some place → IsPlaceOf p.cells q place

-- ---- the block of a process

abbrev pub if_wide : ℕ → ℕ → Option ℕ
if_wide zero v = None
if_wide (suc w) v = Some v

-- How the numbers of the lowering are placed in the module: those that are declared, each with its variable, and what the block assigns first.
pub record Numbering : Type 0 where
  pub id : ℕ → ℕ
  pub declared : ℕ → Bool
  pub width : ℕ → ℕ
  pub firsts : List First

-- a cell's own variable, which the block's first assignments leave
abbrev pub IsHere : Registers → Numbering → (width c v : ℕ) → Type 0
IsHere r n w c v = (n.declared v ≡ true) × (r.variable c ≡ Some (n.id v)) × (n.width v ≡ w)

abbrev pub Stays : Numbering → ℕ → Type 0
Stays n v = first_at n.firsts v ≡ None

-- a next value, which is first the word of its register
abbrev pub Copies : Numbering → (width next now : ℕ) → Type 0
Copies n w v u = (n.declared v ≡ true) × (first_at n.firsts v ≡ Some (Some u)) × (n.width v ≡ w)

abbrev pub HasVariables : Registers → Numbering → ℕ → View → ℕ → Type 0
HasVariables r n w (Constant word) c = Unit {0}
HasVariables r n w Read c = IsHere r n w c (2 * c) × Stays n (2 * c)
HasVariables r n w Driven c = IsHere r n w c (2 * c)
HasVariables r n w Delayed c = IsHere r n w c (2 * c) × Stays n (2 * c) × Copies n w (2 * c + 1) (2 * c)
HasVariables r n w Plain c = n.declared (2 * c) ≡ true → first_at n.firsts (2 * c) ≡ Some None
HasVariables r n w Next c = IsHere r n w c (2 * c) × Stays n (2 * c) × Copies n w (2 * c + 1) (2 * c)

-- a thread's state or counter, where it has one
abbrev pub HasOwn : Numbering → (width now next : ℕ) → Type 0
HasOwn n zero v u = Unit {0}
HasOwn n (suc w) v u = (n.declared v ≡ true) × (n.width v ≡ suc w) × Stays n v × Copies n (suc w) u v

-- The block of a process: first assignments, then what the process does, with the variables of the module.
pub record IsBlock (p : Program) (r : Registers) (m : SvModule) (i : ℕ) (q : Process) (code : emitted_code.Code) : Type 0 where
  pub wide : Wide
  pub numbers : Numbering
  pub body : emitted_code.Code
  pub is_code : code ≡ code_as numbers.id (firsts_code numbers.width numbers.firsts body)
  pub is_body : IsBody (sight_of p i q) numbers.width wide q body
  pub injective : (u v : ℕ) → numbers.declared u ≡ true → numbers.declared v ≡ true → numbers.id u ≡ numbers.id v → u ≡ v
  pub widths : (v : ℕ) → numbers.declared v ≡ true → width_of_variable m.vars (numbers.id v) ≡ numbers.width v
  pub mentioned : (v : ℕ) → mentions (firsts_code numbers.width numbers.firsts body) v ≡ true → numbers.declared v ≡ true
  -- no first assignment changes what another one takes
  pub sources : (u : ℕ) → is_source numbers.firsts u ≡ true → first_at numbers.firsts u ≡ None
  pub cells : (c : ℕ) → mine p q c ≡ true → HasVariables r numbers (width_at p.cells c) (view_of p i q c) c
  pub small : IsSmall (sight_of p i q)
  pub leaving : numbers.declared (2 * length p.cells) ≡ true → first_at numbers.firsts (2 * length p.cells) ≡ Some None
  pub state : HasOwn numbers wide.state state_number next_state_number
  pub counter : HasOwn numbers wide.counter counter_number next_counter_number
  pub is_state : r.state i ≡ if_wide wide.state (numbers.id state_number)
  pub is_counter : r.counter i ≡ if_wide wide.counter (numbers.id counter_number)

-- ---- the block at its edge

-- the right side for a variable
abbrev pub set_term : List SvSet → ℕ → Option emitted.Term
set_term [] v = None
set_term (s ∷ ss) v = cond (nat_eq s.target.0 v) (Some (emitted.term_of s.value)) (set_term ss v)

abbrev pub SetsCell : Numbering → List SvSet → View → ℕ → Type 0
SetsCell n sets Delayed c = set_term sets (n.id (2 * c)) ≡ Some (variable (n.id (2 * c + 1)))
SetsCell n sets Next c = set_term sets (n.id (2 * c)) ≡ Some (variable (n.id (2 * c + 1)))
SetsCell n sets v c = Unit {0}

abbrev pub SetsOwn : Numbering → List SvSet → (width now next : ℕ) → Type 0
SetsOwn n sets zero v u = Unit {0}
SetsOwn n sets (suc w) v u = set_term sets (n.id v) ≡ Some (variable (n.id u))

abbrev pub LoadsCell : Regs → Left → Numbering → SvReset → View → ℕ → Type 0
LoadsCell g l n s Delayed c = or_old (loaded s.values (n.id (2 * c))) (g.word c) ≡ latest l.acting c
LoadsCell g l n s Next c = or_old (loaded s.values (n.id (2 * c))) (g.word c) ≡ latest l.acting c
LoadsCell g l n s v c = Unit {0}

abbrev pub LoadsOwn : Numbering → SvReset → (width now number : ℕ) → Type 0
LoadsOwn n s zero v number = Unit {0}
LoadsOwn n s (suc w) v number = loaded s.values (n.id v) ≡ Some number

-- A reset's branch loads what the reset segment leaves.
pub record Loads (p : Program) (r : Registers) (i : ℕ) (q : Process) (w : Wide) (n : Numbering) (s : SvReset) : Type 0 where
  pub cells : (g : Regs) (l : Left) (c : ℕ) → IsProper p r g → ran_segment p.cells (segment_at p.cells q 0) (found p i q g) ≡ Some l → mine p q c ≡ true → LoadsCell g l n s (view_of p i q c) c
  pub state : (g : Regs) (l : Left) (place : Place) → IsProper p r g → ran_segment p.cells (segment_at p.cells q 0) (found p i q g) ≡ Some l → l.place ≡ Some place
      → LoadsOwn n s w.state state_number place.number
  pub counter : (g : Regs) (l : Left) (place : Place) → IsProper p r g → ran_segment p.cells (segment_at p.cells q 0) (found p i q g) ≡ Some l → l.place ≡ Some place
      → LoadsOwn n s w.counter counter_number place.left

-- a thread's asynchronous reset stands beside the clock
pub record IsBranch (p : Program) (r : Registers) (i : ℕ) (q : Process) (w : Wide) (n : Numbering) (o : Reset) (reset : Option SvReset) : Type 0 where
  pub branch : SvReset
  pub stands : reset ≡ Some branch
  pub signal : r.variable o.cell ≡ Some branch.signal.0
  pub one_bit : width_at p.cells o.cell ≡ 1
  pub level : branch.rising ≡ o.level
  pub loads : Loads p r i q w n branch

abbrev pub BranchIf : Program → Registers → ℕ → Process → Wide → Numbering → Reset → Option SvReset → Bool → Type 0
BranchIf p r i q w n o reset true = IsBranch p r i q w n o reset
BranchIf p r i q w n o reset false = reset ≡ None

abbrev pub BranchBy : Program → Registers → ℕ → Process → Wide → Numbering → Bool → Option Reset → Option SvReset → Type 0
BranchBy p r i q w n true (Some o) reset = BranchIf p r i q w n o reset o.asynchronous
BranchBy p r i q w n true None reset = reset ≡ None
BranchBy p r i q w n false o reset = reset ≡ None

pub record IsEdge (p : Program) (r : Registers) (m : SvModule) (clock_variable : ℕ → ℕ) (i : ℕ) (q : Process) (e : Edge) (w : Wide) (n : Numbering) : Type 0 where
  pub at : ℕ
  pub rising : Bool
  pub clock : VarId
  pub reset : Option SvReset
  pub sets : List SvSet
  pub stands : slice_get m.blocks at ≡ Some (block.Edge rising clock reset sets)
  pub is_clock : clock.0 ≡ clock_variable e.cell
  pub sets_cells : (c : ℕ) → mine p q c ≡ true → SetsCell n sets (view_of p i q c) c
  pub sets_state : SetsOwn n sets w.state state_number next_state_number
  pub sets_counter : SetsOwn n sets w.counter counter_number next_counter_number
  pub branch : BranchBy p r i q w n q.is_thread q.reset reset

-- ---- the module

abbrev pub NoWriter : Program → ℕ → Type 0
NoWriter p c = (j : ℕ) (q : Process) → slice_get p.processes j ≡ Some q → among c (written_by p.cells q) ≡ false

abbrev pub OnlyWriter : Program → ℕ → ℕ → Type 0
OnlyWriter p i c = (j : ℕ) (q : Process) → slice_get p.processes j ≡ Some q → among c (written_by p.cells q) ≡ true → j ≡ i

-- a combinational block that does nothing but set first words
pub record SetsZero (m : SvModule) (v : ℕ) : Type 0 where
  pub at : ℕ
  pub stmts : List SvStmt
  pub stands : slice_get m.blocks at ≡ Some (block.Comb stmts)
  pub firsts : List First
  pub is_code : emitted_code.code_of stmts ≡ firsts_code (width_of_variable m.vars) firsts emitted_code.End
  pub is_zero : first_at firsts v ≡ Some None

-- Where the word of a cell's variable comes from: an input that is no clock, an output that no process writes, a combinational method, a register.
pub data Origin (p : Program) (m : SvModule) (c v : ℕ) : Type 0 where
  given : input_at m.vars v ≡ true → is_clock m.blocks v ≡ false → NoWriter p c → Origin p m c v
  constant : has_sort is_root p.cells c ≡ true → constant_at p c ≡ Some 0 → SetsZero m v → NoWriter p c → Origin p m c v
  driven : (i : ℕ) (q : Process) → slice_get p.processes i ≡ Some q → is_combinational q ≡ true → mine p q c ≡ true → view_of p i q c ≡ Driven → OnlyWriter p i c → Origin p m c v
  register : (i : ℕ) (q : Process) (e : Edge) → slice_get p.processes i ≡ Some q → q.edge ≡ Some e → mine p q c ≡ true → (view_of p i q c ≡ Delayed) ⊎ (view_of p i q c ≡ Next)
      → is_register p c ≡ true → OnlyWriter p i c → Origin p m c v

-- the block of a process, and where it stands, with that at its edge
pub record Acting (p : Program) (r : Registers) (m : SvModule) (clock_variable : ℕ → ℕ) (i : ℕ) (q : Process) : Type 0 where
  pub at : ℕ
  pub stmts : List SvStmt
  pub stands : slice_get m.blocks at ≡ Some (block.Comb stmts)
  pub is_block : IsBlock p r m i q (emitted_code.code_of stmts)
  pub edge : (e : Edge) → q.edge ≡ Some e → IsEdge p r m clock_variable i q e is_block.wide is_block.numbers

pub record Built (p : Program) (r : Registers) (m : SvModule) : Type 0 where
  pub clock_variable : ℕ → ℕ
  pub acts : (i : ℕ) (q : Process) → slice_get p.processes i ≡ Some q → Acting p r m clock_variable i q
  pub origins : (c v : ℕ) → r.variable c ≡ Some v → Origin p m c v
  -- each process is a combinational method or has an edge
  pub sorts : (i : ℕ) (q : Process) → slice_get p.processes i ≡ Some q → q.edge ≡ None → is_combinational q ≡ true
