-- What is known of cells before a run, and what stands at elements behind a front part of a name: that of a fixed cell, and 0 past an end.
-- This project's own rule.
use Rattle.std.specs.Prelude.{ℕ, Bool, true, false, ◌&&◌, ◌||◌, nat_eq, nat_lt, List, [], ◌∷◌, map, slice_get, Option, Some, None, option_map, option_and_then}
use Rattle.scc_base.specs.declared.names.Name.{Name}
use Rattle.scc_bits_kinds.specs.declared.kind.Kind.{Kind}
use Rattle.scc_bits.specs.Value.{Number}
use Rattle.scc_core.specs.declared.places.NameStep.{NameStep}
use Rattle.scc_core.specs.declared.places.NameStep.TheVariants as step
use Rattle.scc_core.specs.declared.program.Cell.{Cell}
use Rattle.scc_core.specs.declared.program.CellName.{CellName}
use Rattle.scc_core.specs.declared.program.CellSort.{CellSort}
use Rattle.scc_core.specs.declared.program.CellSort.TheVariants as sort
use Rattle.scc_core.specs.Numbers.{valued, small}

-- a part of a location: a member, or an element of so many with its index
pub data Part : Type 0 where
  Member : Name → Part
  Element : (size : ℕ) → Option Number → Part

-- the step of a part, or that of the first element
abbrev pub step_at : Bool → Part → Option NameStep
step_at first (Member n) = Some (step.Member n)
step_at true (Element size i) = Some (step.Index 0)
step_at false (Element size i) = option_map step.Index (option_and_then small i)

-- whether an index is below a size; 2^32 - 1 stands for a size that isn't known
abbrev pub is_below : ℕ → Option ℕ → Bool
is_below size None = false
is_below size (Some i) = nat_eq size 4294967295 || nat_lt i size

-- whether all indices are inside; none where one isn't static
abbrev pub inside : List Part → Option Bool
inside [] = Some true
inside (Member n ∷ ps) = inside ps
inside (Element size i ∷ ps) = option_and_then (λ v. option_map (λ b. is_below size (small v) && b) (inside ps)) i

-- what construction left in a cell, where no process can change it
abbrev pub left_in : Kind → CellSort → Option Number
left_in k (sort.Variable value true) = valued k value.bits
left_in k _ = None

abbrev pub fixed_cell : Cell → Option Number
fixed_cell c = left_in c.kind c.sort

unfoldable pub fixed : List Cell → ℕ → Option Number
fixed cells n = option_and_then fixed_cell (slice_get cells n)

-- what is known: the numbers of cells, those of fixed cells, and where a cell stands
pub record Facts : Type 0 where
  pub held : ℕ → Option Number
  pub fixed_at : ℕ → Option Number
  pub place : List (Option NameStep) → CellName → Option ℕ

-- the cell of a name and its parts, or that of the first elements
abbrev pub found : Facts → Bool → List Part → CellName → Option ℕ
found g first ps name = g.place (map (step_at first) ps) name

-- past an end stands 0
abbrev pub past : Facts → List Part → CellName → Option Number
past g ps name = option_and_then (λ v. valued v.kind 0) (option_and_then g.fixed_at (found g true ps name))

abbrev pub at_cell : Facts → List Part → CellName → Option ℕ → Option Number
at_cell g ps name None = past g ps name
at_cell g ps name (Some cell) = g.fixed_at cell

abbrev pub at_element : Facts → List Part → CellName → Bool → Option Number
at_element g ps name true = at_cell g ps name (found g false ps name)
at_element g ps name false = past g ps name

abbrev pub element : Facts → List Part → CellName → Option Number
element g ps name = option_and_then (at_element g ps name) (inside ps)

abbrev pub whole_cell : Facts → ℕ → List Part → Option Number
whole_cell g n [] = g.held n
whole_cell g n (p ∷ ps) = None
