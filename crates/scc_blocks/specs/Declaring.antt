-- The variables of a module, and the numbers that cells, next values and what processes have of their own have among them. This project's own.
use Rattle.std.specs.Prelude.{◌≡◌, ℕ, zero, suc, ◌<◌, Bool, true, false, decimal, length, option_map, option_and_then, ◌+◌, List, [], ◌∷◌, ◌++◌, codes, flat_map, slice_get, Option, Some, None}
use Rattle.scc_bits_kinds.specs.Kinds.{width_of}
use Rattle.scc_core.specs.declared.program.Cell.{Cell}
use Rattle.scc_core.specs.declared.program.CellSort.{CellSort}
use Rattle.scc_core.specs.declared.program.CoreProcess.{CoreProcess}
use Rattle.scc_core.specs.declared.program.CellSort.TheVariants as sort
use Rattle.scc_svtree.specs.declared.module.SvVar.{SvVar}
use Rattle.scc_svtree.specs.declared.module.Dir.{Dir}
use Rattle.scc_svtree.specs.declared.module.Dir.TheVariants as dir
use Rattle.scc_lower.specs.Names.{name_of}
use Rattle.scc_blocks.specs.declared.assigned.Assigned.{Assigned}
use Rattle.scc_blocks.specs.declared.thread.Widths.{Widths}
use Rattle.scc_blocks.specs.declared.declare.Declared.{Declared}
use Rattle.scc_blocks.specs.declared.declare.Own.{Own}
use Rattle.scc_blocks.specs.declared.declare.Pair.{Pair}

-- the cells of a core
abbrev pub Cells : Type 0
Cells = List Cell

-- ---- ports

-- a cell's variable
abbrev pub variable_of : List (List ℕ) → Cell → Dir → SvVar
variable_of names c d = record { name = name_of names c.name; width = width_of c.kind; dir = d }

-- that of its next value
abbrev pub next_variable_of : List (List ℕ) → Cell → SvVar
next_variable_of names c = record { name = name_of names c.name ++ codes "$$n"; width = width_of c.kind; dir = dir.Inner }

abbrev pub direction_of : CellSort → Option Dir
direction_of sort.Input = Some dir.Input
direction_of sort.Output = Some dir.Output
direction_of _ = None

abbrev pub port_by : List (List ℕ) → Cell → Option Dir → List SvVar
port_by names c (Some d) = variable_of names c d ∷ []
port_by names c None = []

-- the port of an input or output of the top
abbrev pub port_of : List (List ℕ) → Cell → List SvVar
port_of names c = port_by names c (direction_of c.sort)

-- the ports of a core's cells, in their order
abbrev pub ports_of : List (List ℕ) → List Cell → List SvVar
ports_of names = flat_map (port_of names)

abbrev pub AreInner : List SvVar → Type 0
AreInner [] = Unit {0}
AreInner (v ∷ vs) = (v.dir ≡ dir.Inner) × AreInner vs

-- the ports stand first, and no other variable is one
abbrev pub StandFirst : List (List ℕ) → List Cell → List SvVar → Type 0
StandFirst names cs vars = (inner : List SvVar) × (vars ≡ ports_of names cs ++ inner) × AreInner inner

-- ---- numbers

-- the name and the width of a variable
pub record Want : Type 0 where
  pub name : List ℕ
  pub width : ℕ

abbrev pub want_of : SvVar → Want
want_of v = record { name = v.name; width = v.width }

-- a cell's variable, and that of its next value
abbrev pub now_of : List (List ℕ) → Cell → Want
now_of names c = record { name = name_of names c.name; width = width_of c.kind }

abbrev pub next_of : List (List ℕ) → Cell → Want
next_of names c = record { name = name_of names c.name ++ codes "$$n"; width = width_of c.kind }

-- what stands at the numbers of the lowering: of cell c at 2c, of its next value at 2c + 1
abbrev pub wants_of : List (List ℕ) → List Cell → List Want
wants_of names [] = []
wants_of names (c ∷ cs) = now_of names c ∷ next_of names c ∷ wants_of names cs

abbrev pub undeclared : ℕ
undeclared = 4294967295

abbrev pub IsDeclared : ℕ → Type 0
IsDeclared n = n ≡ undeclared → ⊥

-- a variable of that name and width has that number
abbrev pub Stands : List SvVar → Want → ℕ → Type 0
Stands vars w n = (v : SvVar) × (slice_get vars n ≡ Some v) × (want_of v ≡ w)

-- each number that is declared is that of what is wanted there
abbrev pub AreNumbered : List Want → List SvVar → List ℕ → Type 0
AreNumbered ws vars numbers = (k n : ℕ) → slice_get numbers k ≡ Some n → IsDeclared n → (w : Want) × (slice_get ws k ≡ Some w) × Stands vars w n

-- what is declared stays so
abbrev pub StayDeclared : List ℕ → List ℕ → Type 0
StayDeclared old new = (k n : ℕ) → slice_get old k ≡ Some n → IsDeclared n → (m : ℕ) × (slice_get new k ≡ Some m) × IsDeclared m

-- Further variables stand behind those that stood there, and cells' numbers are those of what is wanted, if they were.
pub record Adds (ws : List Want) (vs : List SvVar) (old new : Declared) : Type 0 where
  pub grown : new.vars ≡ old.vars ++ vs
  pub numbered : AreNumbered ws old.vars old.cells.items → AreNumbered ws new.vars new.cells.items
  pub stay : StayDeclared old.cells.items new.cells.items

-- the same, of inner variables
abbrev pub AddsInner : List Want → Declared → Declared → Type 0
AddsInner ws old new = (vs : List SvVar) × AreInner vs × Adds ws vs old new

-- at whatever is wanted at that number
abbrev pub AddsAt : ℕ → SvVar → Declared → Declared → Type 0
AddsAt lowered v old new = (ws : List Want) → slice_get ws lowered ≡ Some (want_of v) → Adds ws (v ∷ []) old new

-- among whatever cells this one stands at that place
abbrev pub AddsPort : List (List ℕ) → Cell → ℕ → Declared → Declared → Type 0
AddsPort names c at old new = (cs : List Cell) → slice_get cs at ≡ Some c → Adds (wants_of names cs) (port_of names c) old new

abbrev pub AddsCell : List (List ℕ) → Cell → ℕ → Declared → Declared → Type 0
AddsCell names c at old new = (cs : List Cell) → slice_get cs at ≡ Some c → AddsInner (wants_of names cs) old new

abbrev pub AddsAny : Declared → Declared → Type 0
AddsAny old new = (ws : List Want) → AddsInner ws old new

-- ---- what a process has of its own

abbrev pub want : List ℕ → ℕ → Want
want name width = record { name = name; width = width }

-- a declared number of such a variable, or none
abbrev pub HasIf : Bool → List SvVar → Want → ℕ → Type 0
HasIf true vars w n = IsDeclared n × Stands vars w n
HasIf false vars w n = n ≡ undeclared

-- the name of a process with an end
abbrev pub own_name : List (List ℕ) → CoreProcess → List ℕ → List ℕ
own_name names q end = name_of names q.name ++ end

abbrev pub temporary_name : List (List ℕ) → CoreProcess → ℕ → List ℕ
temporary_name names q k = own_name names q (codes "$") ++ (decimal k ++ codes "$index")

-- a register of the process and its next value, where it has a width
abbrev pub IsPair : List SvVar → List ℕ → ℕ → Pair → Type 0
IsPair vars name zero p = (p.now ≡ undeclared) × (p.next ≡ undeclared)
IsPair vars name (suc w) p = HasIf true vars (want name (suc w)) p.now × HasIf true vars (want (name ++ codes "$$n") (suc w)) p.next

-- a temporary of that place has its own name and width, where it is assigned
abbrev pub IsTemporary : List (List ℕ) → CoreProcess → ℕ → List ℕ → List Bool → List SvVar → (place n : ℕ) → Type 0
IsTemporary names q first widths assigned vars i n = (w : ℕ) × (b : Bool) × (slice_get widths i ≡ Some w) × (slice_get assigned i ≡ Some b) × HasIf b vars (want (temporary_name names q (first + i)) w) n

abbrev pub AreTemporaries : List (List ℕ) → CoreProcess → ℕ → List ℕ → List Bool → List SvVar → List ℕ → Type 0
AreTemporaries names q first widths assigned vars ids = (i n : ℕ) → slice_get ids i ≡ Some n → IsTemporary names q first widths assigned vars i n

-- the number of a local in its process
abbrev pub local_at : List Cell → ℕ → Option ℕ
local_at cs at = option_and_then (λ c. option_map (λ l. l.0) c.name.local) (slice_get cs at)

abbrev pub IsBefore : ℕ → Option ℕ → Type 0
IsBefore n (Some k) = k < n
IsBefore n None = ⊥

abbrev pub AreBefore : List Cell → List ℕ → ℕ → Type 0
AreBefore cs locals n = (i at : ℕ) → slice_get locals i ≡ Some at → IsBefore n (local_at cs at)

-- The numbers of a process's own variables are those of variables of their names and widths; temporaries are numbered behind its locals.
pub record IsOwn (names : List (List ℕ)) (cs : List Cell) (q : CoreProcess) (a : Assigned) (widths : List ℕ) (exit_width : ℕ) (w : Widths) (locals : List ℕ) (vars : List SvVar) (o : Own) : Type 0 where
  pub first : ℕ
  pub behind : AreBefore cs locals first
  pub exit : ℕ
  pub temporaries : List ℕ
  pub state : Pair
  pub counter : Pair
  pub next : o.next.items ≡ exit ∷ temporaries
  pub last : o.last.items ≡ state.now ∷ state.next ∷ counter.now ∷ counter.next ∷ []
  pub is_exit : HasIf a.exit vars (want (own_name names q (codes "$$exit")) exit_width) exit
  pub are_temporaries : AreTemporaries names q first widths a.temporaries.items vars temporaries
  pub as_many : length temporaries ≡ length widths
  pub is_state : IsPair vars (own_name names q (codes "$$state")) w.state state
  pub is_counter : IsPair vars (own_name names q (codes "$$wait")) w.counter counter

-- a further process has its own, and the others keep theirs
abbrev pub AddsOwn : List (List ℕ) → List Cell → CoreProcess → Assigned → List ℕ → ℕ → Widths → List ℕ → Declared → Declared → Type 0
AddsOwn names cs q a widths exit_width w locals old new = (o : Own) × (new.own.items ≡ old.own.items ++ o ∷ []) × IsOwn names cs q a widths exit_width w locals new.vars o

-- ---- nothing yet

abbrev pub AreUndeclared : List ℕ → Type 0
AreUndeclared numbers = (k n : ℕ) → slice_get numbers k ≡ Some n → n ≡ undeclared

pub record IsFresh (d : Declared) : Type 0 where
  pub vars : d.vars ≡ []
  pub own : d.own.items ≡ []
  pub cells : (ws : List Want) → AreNumbered ws d.vars d.cells.items
