-- A module that matches a design: its ports are the top's in their order, its registers and clocks those of the clocked processes (IEEE 1800-2017, 23.2.2,
-- 9.2.2.4; the names are this project's own).
use Rattle.std.specs.Prelude.{◌≡◌, ◌⊎◌, ℕ, nat_eq, Bool, true, false, List, [], ◌∷◌, map, filter, flat_map, take, length, Option, Some, None, option_map, slice_get, unwrap_or, bytes_eq, if◌then◌else◌, IsPermutation}
use Rattle.std.specs.List.{list_any}
use Rattle.scc_bits_kinds.specs.Kinds.{width_of}
use Rattle.scc_semantics.specs.Location.{Location}
use Rattle.scc_semantics.specs.Places.{Thing, Number, Signal, Port, Edge, Reset, Sort, Combinational, Clocked, Thread}
use Rattle.scc_semantics.specs.Design.{Design, TopPort, is_input}
use Rattle.scc_svtree.specs.declared.module.SvModule.{SvModule}
use Rattle.scc_svtree.specs.declared.module.SvVar.{SvVar}
use Rattle.scc_svtree.specs.declared.module.Dir.{Dir}
use Rattle.scc_svtree.specs.declared.module.Dir.TheVariants as dir
use Rattle.scc_svtree.specs.declared.module.SvBlock.{SvBlock}
use Rattle.scc_svtree.specs.declared.module.SvBlock.TheVariants as block

abbrev pub thing_width : Option Thing → ℕ
thing_width (Some (Number k)) = width_of k
thing_width (Some (Signal k)) = width_of k
thing_width (Some (Port k root)) = width_of k
thing_width None = 0

-- a port as both sides have it: an input where `input` is true, an output where it is false; None of a variable that is no port
pub record PortView : Type 0 where
  pub name : List ℕ
  pub width : ℕ
  pub input : Option Bool

abbrev pub port_view : (Location → List ℕ) → Design → TopPort → PortView
port_view text d p = record { name = text p.location; width = thing_width (d.places.things p.location); input = Some (is_input p.direction) }

abbrev pub is_port : Dir → Bool
is_port dir.Inner = false
is_port _ = true

abbrev pub way_of : Dir → Option Bool
way_of dir.Input = Some true
way_of dir.Output = Some false
way_of dir.Inner = None

abbrev pub var_view : SvVar → PortView
var_view v = record { name = v.name; width = v.width; input = way_of v.dir }

abbrev pub name_at : SvModule → ℕ → List ℕ
name_at m v = unwrap_or (option_map (λ x. x.name) (slice_get m.vars v)) []

abbrev pub width_of_var : SvModule → ℕ → ℕ
width_of_var m v = unwrap_or (option_map (λ x. x.width) (slice_get m.vars v)) 0

-- the variables that blocks set at an edge, by their numbers
abbrev pub set_by : SvBlock → List ℕ
set_by (block.Comb ss) = []
set_by (block.Edge rising clock reset sets) = map (λ s. s.target.0) sets

abbrev pub registers : SvModule → List ℕ
registers m = flat_map set_by m.blocks

-- the register that has a location's name
abbrev pub register_of : (Location → List ℕ) → SvModule → Location → List ℕ
register_of text m l = filter (λ v. bytes_eq (name_at m v) (text l)) (registers m)

abbrev pub first : List ℕ → Option ℕ
first [] = None
first (v ∷ vs) = Some v

-- a block at an edge as both sides have it: the clock's name and its edge, and an asynchronous reset's name, with whether it acts at the rising edge
pub record EdgeView : Type 0 where
  pub clock : List ℕ
  pub rising : Bool
  pub reset : Option (List ℕ × Bool)

abbrev pub block_view : SvModule → SvBlock → List EdgeView
block_view m (block.Comb ss) = []
block_view m (block.Edge rising clock reset sets) =
    record { clock = name_at m clock.0; rising = rising; reset = option_map (λ r. (name_at m r.signal.0, r.rising)) reset } ∷ []

abbrev pub block_views : SvModule → List EdgeView
block_views m = flat_map (block_view m) m.blocks

-- only an asynchronous reset stands beside the clock; one that is active at 1 acts at the rising edge
abbrev pub reset_view : (Location → List ℕ) → Option Reset → Option (List ℕ × Bool)
reset_view text None = None
reset_view text (Some r) = if r.asynchronous then Some (text r.root, r.level) else None

abbrev pub edge_view : (Location → List ℕ) → Edge → Option Reset → EdgeView
edge_view text e r = record { clock = text e.clock; rising = e.rising; reset = reset_view text r }

abbrev pub process_view : (Location → List ℕ) → Sort → List EdgeView
process_view text (Combinational senses) = []
process_view text (Clocked e) = edge_view text e None ∷ []
process_view text (Thread e r) = edge_view text e r ∷ []

abbrev pub process_views : (Location → List ℕ) → Design → List EdgeView
process_views text d = flat_map (λ p. process_view text p.sort) d.processes

-- `own` has the names of threads' states and counters; `kept` the locations that registers may stand for: what clocked processes write and keep. The ports are a front part of the
-- variables.
pub record Matches (text : Location → List ℕ) (own : List ℕ → Bool) (kept : Location → Bool) (d : Design) (m : SvModule) (top : List ℕ) : Type 0 where
  pub name : m.name ≡ top
  pub ports : map var_view (take (length d.ports) m.vars) ≡ map (port_view text d) d.ports
  pub inner : (v : ℕ) (x : SvVar) → slice_get m.vars v ≡ Some x → is_port x.dir ≡ true → slice_get (take (length d.ports) m.vars) v ≡ Some x
  -- the blocks at edges are those of the processes, in some order: each process has one, with its clock and edge, and its asynchronous reset, if it has one
  pub edges : IsPermutation (process_views text d) (block_views m)
  -- each register is a state, a counter, or a location's, with its width
  pub registers : (v : ℕ) → list_any (nat_eq v) (registers m) ≡ true
      → (own (name_at m v) ≡ true) ⊎ ((l : Location) × (kept l ≡ true) × (name_at m v ≡ text l) × (width_of_var m v ≡ thing_width (d.places.things l)))
