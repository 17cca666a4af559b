-- A core: its cells and processes (IEEE 1666-2011, 5.2 processes, 6.4 signals, 5.12, 6.8 and 6.12 ports).
use Rattle.std.specs.Prelude.{ℕ, Bool, true, false, ◌||◌, Option, None, List}
use Rattle.scc_base.specs.declared.refusal.Place.{Place}
use Rattle.scc_bits_kinds.specs.declared.kind.Kind.{Kind}
use Rattle.scc_semantics.specs.Location.{Part}
use Rattle.scc_core_spec.specs.Term.{CellName}
use Rattle.scc_core_spec.specs.Code.{Code}

pub data Sort : Type 0 where
  -- an input and an output of the top, and a signal
  Input : Sort
  Output : Sort
  Signal : Sort
  -- a variable: what construction left in it, and whether no process can change it
  Variable : (word : ℕ) (fixed : Bool) → Sort
  -- a local of the process of that number
  Local : (process : ℕ) → Sort
  -- a pointer or reference and where construction left it; None for null, and for a local one
  Pointer : (target : Option (List Part)) → Sort
  -- a port below the top, and the path of its root
  Port : (root : List Part) → Sort

-- what is read or written as a whole
pub record Cell : Type 0 where
  pub name : CellName
  pub kind : Kind
  pub sort : Sort
  pub place : Place

pub record Edge : Type 0 where
  pub cell : ℕ
  pub rising : Bool

pub record Reset : Type 0 where
  pub cell : ℕ
  pub level : Bool
  pub asynchronous : Bool

pub record Process : Type 0 where
  pub is_thread : Bool
  -- the path of its module, and the name of its function
  pub name : CellName
  pub place : Place
  -- the roots in its sensitivity, without edges
  pub senses : List ℕ
  pub edge : Option Edge
  pub reset : Option Reset
  pub body : Code

-- a vector and the number of its elements
pub record Vector : Type 0 where
  pub path : List Part
  pub size : ℕ

pub record Program : Type 0 where
  pub top : ℕ
  -- the objects in construction order, then the locals of each process as they are numbered
  pub cells : List Cell
  pub vectors : List Vector
  -- in construction order
  pub processes : List Process

-- a method whose sensitivity is levels
abbrev pub is_combinational_by : Bool → Option Edge → Bool
is_combinational_by false None = true
is_combinational_by _ _ = false

abbrev pub is_combinational : Process → Bool
is_combinational p = is_combinational_by p.is_thread p.edge

abbrev pub is_pointer : Sort → Bool
is_pointer (Pointer t) = true
is_pointer _ = false

-- a signal, or a port of the top
abbrev pub is_root : Sort → Bool
is_root Input = true
is_root Output = true
is_root Signal = true
is_root _ = false

abbrev pub is_variable : Sort → Bool
is_variable (Variable w f) = true
is_variable _ = false

abbrev pub is_local : Sort → Bool
is_local (Local i) = true
is_local _ = false

-- a variable or a local: a number that a process reads and writes at once
abbrev pub is_number : Sort → Bool
is_number s = is_variable s || is_local s

-- what holds a word of its own: a root, a variable or a local
abbrev pub is_held : Sort → Bool
is_held s = is_root s || is_number s

abbrev pub is_input : Sort → Bool
is_input Input = true
is_input _ = false

abbrev pub is_output : Sort → Bool
is_output Output = true
is_output _ = false
