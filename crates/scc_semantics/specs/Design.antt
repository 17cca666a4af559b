-- Designs: what stands at their locations, the ports of the top, and the processes (IEEE 1666-2011, 4.1 and 5.2).
use Rattle.std.specs.Prelude.{ℕ, Bool, true, false, not, List, [], ◌∷◌, map, filter, Option}
use Rattle.std.specs.List.{list_any}
use Rattle.scc_semantics.specs.Location.{Location, same}
use Rattle.scc_semantics.specs.Places.{Places, Edge, Sort, Combinational, Clocked, Thread}
use Rattle.scc_semantics.specs.Body.{Body}

pub record Process : Type 0 where
  pub object : Location
  pub sort : Sort
  pub body : Body

pub data Direction : Type 0 where
  Input : Direction
  Output : Direction

-- a port of the top
pub record TopPort : Type 0 where
  pub location : Location
  pub direction : Direction

pub record Design : Type 0 where
  pub places : Places
  -- the statements of each function, by its number
  pub functions : ℕ → Body
  -- in declaration order
  pub ports : List TopPort
  -- what a variable holds for good that no process can change; None for all others
  pub fixed : Location → Option ℕ
  -- what a variable, signal or output that no process writes holds for good; None for all others
  pub constant : Location → Option ℕ
  -- what construction left in each pointer, None for null; a local one holds null
  pub targets : Location → Option Location
  -- in construction order
  pub processes : List Process

abbrev pub edge_of : Sort → List Edge
edge_of (Combinational senses) = []
edge_of (Clocked edge) = edge ∷ []
edge_of (Thread edge reset) = edge ∷ []

abbrev pub has_clock : Location → Sort → Bool
has_clock l s = list_any (λ e. same l e.clock) (edge_of s)

-- some process has its edge there
abbrev pub is_clock : Design → Location → Bool
is_clock d l = list_any (λ p. has_clock l p.sort) d.processes

abbrev pub is_input : Direction → Bool
is_input Input = true
is_input Output = false

abbrev pub locations : List TopPort → List Location
locations ps = map (λ p. p.location) ps

-- the clocks, the inputs without the clocks, and the outputs, each in declaration order
abbrev pub clocks : Design → List Location
clocks d = filter (is_clock d) (locations d.ports)

abbrev pub inputs : Design → List Location
inputs d = filter (λ l. not (is_clock d l)) (locations (filter (λ p. is_input p.direction) d.ports))

abbrev pub outputs : Design → List Location
outputs d = locations (filter (λ p. not (is_input p.direction)) d.ports)
