-- Tables of names: a tree of steps in which each front part of a name has a number, and what stands under whole names.
use Rattle.std.specs.Prelude.{◌≡◌, ℕ, ◌+◌, ◌<◌, Bool, true, false, not, ◌&&◌, nat_eq, if◌then◌else◌, List, [], ◌∷◌, ◌++◌, length, map, slice_get, Option, Some, None, option_and_then}
use Rattle.scc_base.specs.declared.names.Name.{Name}
use Rattle.scc_base.specs.declared.path.PathPart.{PathPart}
use Rattle.scc_core.specs.declared.places.Branch.{Branch}
use Rattle.scc_core.specs.declared.places.Named.{Named}
use Rattle.scc_core.specs.declared.places.NameStep.{NameStep}
use Rattle.scc_core.specs.declared.places.NameStep.TheVariants as step
use Rattle.scc_core.specs.declared.places.Places.{Places}
use Rattle.scc_core.specs.declared.places.Spot.{Spot}
use Rattle.scc_core.specs.declared.program.Cell.{Cell}
use Rattle.scc_core.specs.declared.program.CellName.{CellName}
use Rattle.scc_core.specs.declared.program.VectorSize2.{VectorSize2}
use Rattle.scc_core.specs.Names.{is_pointer, same_step, step_of, walk}

-- ---- names as steps

abbrev pub own_steps : Option (ℕ × Name) → List ℕ → List NameStep
own_steps None indices = []
own_steps (Some l) indices = step.Local l.0 ∷ map step.Index indices

-- the steps of a cell's name; indices stand behind a local alone
abbrev pub steps_of : CellName → List NameStep
steps_of n = map step_of n.path ++ own_steps n.local n.indices

abbrev pub same_list : List NameStep → List NameStep → Bool
same_list [] [] = true
same_list (a ∷ xs) (b ∷ ys) = same_step a b && same_list xs ys
same_list _ _ = false

abbrev pub is_same : Bool → Bool → Bool
is_same true b = b
is_same false b = not b

-- a cell that is a pointer, or one that is none, has a whole name
abbrev pub has_name : Bool → List NameStep → Cell → Bool
has_name pointer ss c = is_same pointer (is_pointer c.sort) && same_list ss (steps_of c.name)

-- the first such cell, counted from n on
abbrev pub first_cell : Bool → List NameStep → ℕ → List Cell → Option ℕ
first_cell pointer ss n [] = None
first_cell pointer ss n (c ∷ cs) = if has_name pointer ss c then Some n else first_cell pointer ss (n + 1) cs

-- the size of the first vector at a path
abbrev pub first_size : List NameStep → List VectorSize2 → Option ℕ
first_size ss [] = None
first_size ss (v ∷ vs) = if same_list ss (map step_of v.path) then Some v.size else first_size ss vs

-- ---- the table

abbrev pub top : Spot
top = record { 0 = 0 }

abbrev pub known : List NameStep → List (Option NameStep)
known ss = map (λ s. Some s) ss

-- Each branch leads to the next number, from a front part that was there before.
abbrev pub Grown : ℕ → List (Branch × ℕ) → Type 0
Grown n [] = Unit {0}
Grown n (e ∷ es) = (e.1 ≡ n) × (e.0.from < n) × Grown (n + 1) es

pub record IsTree (p : Places) : Type 0 where
  pub branches : Grown 1 p.branches.entries
  pub spots : length p.named.items ≡ length p.branches.entries + 1

-- steps from the top lead to the front part of that number
abbrev pub Reaches : Places → List NameStep → ℕ → Type 0
Reaches p ss n = walk p top (known ss) ≡ Some (record { 0 = n })

-- what stands under a whole name
abbrev pub under : (Named → Option ℕ) → Places → List NameStep → Option ℕ
under f p ss = option_and_then (λ at. option_and_then f (slice_get p.named.items at.0)) (walk p top (known ss))

abbrev pub cell_in : Named → Option ℕ
cell_in n = n.cell

abbrev pub pointer_in : Named → Option ℕ
pointer_in n = n.pointer

abbrev pub size_in : Named → Option ℕ
size_in n = n.vector

abbrev pub nothing : Named
nothing = record { cell = None; pointer = None; vector = None }

-- a new front part, which one more branch leads to
pub record Grows (p q : Places) (from : ℕ) (s : NameStep) : Type 0 where
  pub entries : q.branches.entries ≡ p.branches.entries ++ (record { from = from; step = s }, length p.named.items) ∷ []
  pub named : q.named.items ≡ p.named.items ++ nothing ∷ []

-- more front parts, and nothing more under names
pub record Extends (p q : Places) : Type 0 where
  pub tree : IsTree q
  pub kept : (ss : List NameStep) (n : ℕ) → Reaches p ss n → Reaches q ss n
  pub cells : (ss : List NameStep) → under cell_in q ss ≡ under cell_in p ss
  pub pointers : (ss : List NameStep) → under pointer_in q ss ≡ under pointer_in p ss
  pub sizes : (ss : List NameStep) → under size_in q ss ≡ under size_in p ss

-- with these steps leading to the front part of that number
pub record Entered (p q : Places) (ss : List NameStep) (n : ℕ) : Type 0 where
  pub extends : Extends p q
  pub reaches : Reaches q ss n

abbrev pub or_else : Option ℕ → Option ℕ → Option ℕ
or_else (Some n) o = Some n
or_else None o = o

abbrev pub when : Bool → ℕ → Option ℕ
when true n = Some n
when false n = None

-- what stands first stays
abbrev pub with_cell : Named → ℕ → Bool → Named
with_cell n number true = record { cell = n.cell; pointer = or_else n.pointer (Some number); vector = n.vector }
with_cell n number false = record { cell = or_else n.cell (Some number); pointer = n.pointer; vector = n.vector }

abbrev pub with_size : Named → ℕ → Named
with_size n size = record { cell = n.cell; pointer = n.pointer; vector = or_else n.vector (Some size) }

-- one front part is changed
pub record Changes (p q : Places) (at : ℕ) (f : Named → Named) : Type 0 where
  pub branches : q.branches.entries ≡ p.branches.entries
  pub spots : length q.named.items ≡ length p.named.items
  pub there : (n : Named) → slice_get p.named.items at ≡ Some n → slice_get q.named.items at ≡ Some (f n)
  pub others : (i : ℕ) → nat_eq i at ≡ false → slice_get q.named.items i ≡ slice_get p.named.items i

-- a cell stands under its name, if none did
pub record Adds (p q : Places) (name : List NameStep) (number : ℕ) (pointer : Bool) : Type 0 where
  pub tree : IsTree q
  pub cells : (ss : List NameStep) → under cell_in q ss ≡ or_else (under cell_in p ss) (when (not pointer && same_list ss name) number)
  pub pointers : (ss : List NameStep) → under pointer_in q ss ≡ or_else (under pointer_in p ss) (when (pointer && same_list ss name) number)
  pub sizes : (ss : List NameStep) → under size_in q ss ≡ under size_in p ss

-- the same for a vector's size
pub record AddsVector (p q : Places) (path : List NameStep) (size : ℕ) : Type 0 where
  pub tree : IsTree q
  pub cells : (ss : List NameStep) → under cell_in q ss ≡ under cell_in p ss
  pub pointers : (ss : List NameStep) → under pointer_in q ss ≡ under pointer_in p ss
  pub sizes : (ss : List NameStep) → under size_in q ss ≡ or_else (under size_in p ss) (when (same_list ss path) size)

-- Under each whole name stands the first cell that has it and is no pointer, the first pointer, and the first vector's size.
pub record IsTable (p : Places) (cells : List Cell) (vectors : List VectorSize2) : Type 0 where
  pub tree : IsTree p
  pub cells_by : (ss : List NameStep) → under cell_in p ss ≡ first_cell false ss 0 cells
  pub pointers_by : (ss : List NameStep) → under pointer_in p ss ≡ first_cell true ss 0 cells
  pub sizes_by : (ss : List NameStep) → under size_in p ss ≡ first_size ss vectors
