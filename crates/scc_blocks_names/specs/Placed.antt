-- Where the names of a core's cells and processes stand: objects below objects, locals below processes. This project's own.
use Rattle.std.specs.Prelude.{◌≡◌, ◌⊎◌, ℕ, Bool, true, false, List, [], ◌∷◌, ◌++◌, map, Option, Some, None, slice_get}
use Rattle.scc_base.specs.Names.{AllDiffer}
use Rattle.scc_base.specs.declared.path.PathPart.{PathPart}
use Rattle.scc_base.specs.declared.path.PathPart.TheVariants as piece
use Rattle.scc_semantics.specs.Location.{Part, Member, Element}
use Rattle.scc_core_spec.specs.Term.{CellName, Own}
use Rattle.scc_core_spec.specs.Program.{Program, Process, Cell, is_pointer}
use Rattle.scc_lower_spec.specs.Parts.{AreParts}

-- the steps of a name: those of its path, then a local's number and identifier, then its indices
abbrev pub own_places : Option Own → List Part
own_places None = []
own_places (Some o) = Element o.number ∷ Member o.identifier ∷ []

abbrev pub places_of : CellName → List Part
places_of n = n.path ++ (own_places n.own ++ map Element n.indices)

abbrev pub piece_of : Part → PathPart
piece_of (Member n) = piece.Member (record { 0 = n })
piece_of (Element i) = piece.Index i

-- its members are identifiers that the table of names has, its indices have 32 bits
abbrev pub IsSpelled : List (List ℕ) → CellName → Type 0
IsSpelled names n = AreParts names (map piece_of (places_of n))

-- The objects of a design, as far as names tell of them: whether the object at a path has a member of a name, and whether a function of a name is one
-- of its processes.
pub record Objects : Type 0 where
  pub has : List Part → ℕ → Bool
  pub runs : List Part → ℕ → Bool

-- no object has a member and a process of one name
abbrev pub AreApart : Objects → Type 0
AreApart d = (path : List Part) (n : ℕ) → d.has path n ≡ true → d.runs path n ≡ true → ⊥

-- each member on the path is one of the object in which it stands
abbrev pub Stands : Objects → List Part → Type 0
Stands d path = (front : List Part) (n : ℕ) (back : List Part) → path ≡ front ++ Member n ∷ back → d.has front n ≡ true

-- the path of a process: its object's, and its function
pub record IsProcess (d : Objects) (path : List Part) : Type 0 where
  pub object : List Part
  pub function : ℕ
  pub is : path ≡ object ++ Member function ∷ []
  pub stands : Stands d object
  pub runs : d.runs object function ≡ true

-- the name of an object or of a process, or that of a local below one
abbrev pub PlacedBy : Objects → CellName → Option Own → Type 0
PlacedBy d n None = (n.indices ≡ []) × (Stands d n.path ⊎ IsProcess d n.path)
PlacedBy d n (Some o) = IsProcess d n.path

abbrev pub IsPlaced : Objects → CellName → Type 0
IsPlaced d n = PlacedBy d n n.own

abbrev pub IsName : List (List ℕ) → Objects → CellName → Type 0
IsName names d n = IsSpelled names n × IsPlaced d n

-- and one that is a process's
pub record IsProcessName (names : List (List ℕ)) (d : Objects) (n : CellName) : Type 0 where
  pub spelled : IsSpelled names n
  pub own : n.own ≡ None
  pub indices : n.indices ≡ []
  pub process : IsProcess d n.path

-- the local of that number of the process
pub record IsLocalOf (q n : CellName) (number : ℕ) : Type 0 where
  pub path : n.path ≡ q.path
  pub own : Own
  pub is_own : n.own ≡ Some own
  pub is_number : own.number ≡ number

-- The cells of a core that are no pointers, and its processes, have such names, each its own.
pub record AreNamed (names : List (List ℕ)) (d : Objects) (p : Program) : Type 0 where
  pub table : AllDiffer names
  pub apart : AreApart d
  pub cells : (c : ℕ) (x : Cell) → slice_get p.cells c ≡ Some x → is_pointer x.sort ≡ false → IsName names d x.name
  pub cells_differ : (b c : ℕ) (x y : Cell) → slice_get p.cells b ≡ Some x → slice_get p.cells c ≡ Some y → is_pointer x.sort ≡ false → is_pointer y.sort ≡ false → x.name ≡ y.name → b ≡ c
  pub processes : (i : ℕ) (q : Process) → slice_get p.processes i ≡ Some q → IsProcessName names d q.name
  pub processes_differ : (i j : ℕ) (q r : Process) → slice_get p.processes i ≡ Some q → slice_get p.processes j ≡ Some r → q.name ≡ r.name → i ≡ j
