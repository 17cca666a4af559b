-- What a design has at its locations, and how a process runs (IEEE 1666-2011, 5.2 modules and processes, 6.4 signals).
use Rattle.std.specs.Prelude.{List, Bool, Option}
use Rattle.scc_bits_kinds.specs.declared.kind.Kind.{Kind}
use Rattle.scc_semantics.specs.Location.{Location}

-- What stands at a location: a variable, parameter, local or result that holds a number, a signal or port of the top, or a port
-- below the top, which stands for the signal or port of the top at the end of its bindings.
pub data Thing : Type 0 where
  Number : (kind : Kind) → Thing
  Signal : (kind : Kind) → Thing
  Port : (kind : Kind) (root : Location) → Thing

-- The things and the pointers of a design. A pointer may stand where a number does, since what `new` makes has the path of the
-- pointer that it is assigned to. Every local of every chain of calls counts.
pub record Places : Type 0 where
  pub things : Location → Option Thing
  pub pointers : Location → Bool

-- an edge of a clock, which is a port of the top
pub record Edge : Type 0 where
  pub clock : Location
  pub rising : Bool

-- a reset by declaration: the signal and the level at which it is active
pub record Reset : Type 0 where
  pub root : Location
  pub level : Bool
  pub asynchronous : Bool

-- how a process runs: a method at levels of signals, a method at an edge, a thread at an edge
pub data Sort : Type 0 where
  Combinational : (senses : List Location) → Sort
  Clocked : (edge : Edge) → Sort
  Thread : (edge : Edge) (reset : Option Reset) → Sort
