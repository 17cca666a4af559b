-- The names of cells in the emitted text, and which of them can stand in one core.
use Rattle.std.specs.Prelude.{◌≡◌, ℕ, List, [], ◌∷◌, ◌++◌, map, Option, Some, None, ◌⊎◌}
use Rattle.scc_base.specs.declared.names.Name.{Name}
use Rattle.scc_base.specs.declared.path.PathPart.{PathPart}
use Rattle.scc_base.specs.declared.path.PathPart.TheVariants.{Member, Index}
use Rattle.scc_core.specs.declared.program.CellName.{CellName}
use Rattle.scc_lower_spec.specs.Parts.{joined, AreParts}

-- of a local its number in its process and its identifier
abbrev pub local_parts : Option (ℕ × Name) → List PathPart
local_parts None = []
local_parts (Some l) = Index l.0 ∷ Member l.1 ∷ []

-- the parts of a name: those of the path, then those of a local, then its indices
abbrev pub parts_of : CellName → List PathPart
parts_of n = (n.path ++ local_parts n.local) ++ map Index n.indices

-- the text of a cell's name
abbrev pub name_of : List (List ℕ) → CellName → List ℕ
name_of names n = joined names (parts_of n)

-- a name whose members are identifiers
abbrev pub IsName : List (List ℕ) → CellName → Type 0
IsName names n = AreParts names (parts_of n)

-- the one path begins with the other
abbrev pub IsBelow : List PathPart → List PathPart → Type 0
IsBelow outer inner = (more : List PathPart) × (inner ≡ outer ++ more)

-- Two names that can stand in one core: of objects, of locals of one process, of locals of two, of a local and an object.
-- The path of a process is its module's with the function's name. No class has a member and a function of one name, and no
-- function is twice a process of one object: nothing else stands at such a path or below it.
abbrev pub Pair : CellName → CellName → Option (ℕ × Name) → Option (ℕ × Name) → Type 0
Pair m n None None = (m.indices ≡ []) × (n.indices ≡ [])
Pair m n (Some k) None = (n.indices ≡ []) × (IsBelow m.path n.path → ⊥)
Pair m n None (Some l) = (m.indices ≡ []) × (IsBelow n.path m.path → ⊥)
Pair m n (Some k) (Some l) = (m.path ≡ n.path) ⊎ ((IsBelow m.path n.path → ⊥) × (IsBelow n.path m.path → ⊥))

abbrev pub Together : CellName → CellName → Type 0
Together m n = Pair m n m.local n.local
