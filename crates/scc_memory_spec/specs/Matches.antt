-- A module with memories that matches a design, and shows what it shows: as any module does, with the elements of memories among its registers (IEEE 1800-2017,
-- 23.2.2, 9.2.2.4; the names are this project's own).
use Rattle.std.specs.Prelude.{◌≡◌, ◌⊎◌, ◌<◌, ℕ, nat_eq, Bool, true, List, [], ◌∷◌, map, flat_map, take, length, Some, option_map, slice_get, IsPermutation}
use Rattle.std.specs.List.{list_any}
use Rattle.scc_semantics.specs.Location.{Location}
use Rattle.scc_semantics.specs.Design.{Design}
use Rattle.scc_semantics.specs.Statement.{ShowsTheSame}
use Rattle.scc_svtree.specs.declared.module.SvVar.{SvVar}
use Rattle.scc_blocks_spec.specs.Matches.{EdgeView, is_port, port_view, process_views, thing_width, var_view}
use Rattle.scc_memory_spec.specs.Array.{element_name, width_of}
use Rattle.scc_memory_spec.specs.Taken.{name_at}
use Rattle.scc_memory_spec.specs.Memory.{MemModule, MemBlock, Comb, Edge, Memory, Valuation}
use Rattle.scc_memory_spec.specs.Steps.{Runs, register, set_by}

abbrev pub block_view : MemModule → MemBlock → List EdgeView
block_view m (Comb c) = []
block_view m (Edge rising clock reset sets memories) =
    record { clock = name_at m.vars clock; rising = rising; reset = option_map (λ r. (name_at m.vars r.signal, r.rising)) reset } ∷ []

abbrev pub block_views : MemModule → List EdgeView
block_views m = flat_map (block_view m) m.blocks

abbrev pub registers : MemModule → List ℕ
registers m = flat_map set_by m.blocks

-- a register that has this name and width
abbrev pub IsKeptAs : (Location → List ℕ) → (Location → Bool) → Design → List ℕ → ℕ → Type 0
IsKeptAs text kept d name width = (l : Location) × (kept l ≡ true) × (name ≡ text l) × (width ≡ thing_width (d.places.things l))

-- `own` and `kept` as for a module without memories. Each element of a memory is a register.
pub record MemoryMatches (text : Location → List ℕ) (own : List ℕ → Bool) (kept : Location → Bool) (d : Design) (m : MemModule) (top : List ℕ) : Type 0 where
  pub name : m.name ≡ top
  pub ports : map var_view (take (length d.ports) m.vars) ≡ map (port_view text d) d.ports
  pub inner : (v : ℕ) (x : SvVar) → slice_get m.vars v ≡ Some x → is_port x.dir ≡ true → slice_get (take (length d.ports) m.vars) v ≡ Some x
  pub edges : IsPermutation (process_views text d) (block_views m)
  pub registers : (v : ℕ) → list_any (nat_eq v) (registers m) ≡ true
      → (own (name_at m.vars v) ≡ true) ⊎ IsKeptAs text kept d (name_at m.vars v) (width_of m.vars v)
  pub elements : (k i : ℕ) (b : Memory) → slice_get m.memories k ≡ Some b → i < b.size → IsKeptAs text kept d (element_name b.name i) b.width

-- The module with memories matches the design, and shows what it shows.
pub record MemoryShows (text : Location → List ℕ) (own : List ℕ → Bool) (kept : Location → Bool) (d : Design) (top : List ℕ) (m : MemModule) : Type 0 where
  pub matches : MemoryMatches text own kept d m top
  pub shows : ShowsTheSame Valuation (register text m) (Runs text d m) d
