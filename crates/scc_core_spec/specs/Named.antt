-- Names by patterns: which cells a location may name, whatever its indices that are not static are. This project's own.
use Rattle.std.specs.Prelude.{ℕ, ◌+◌, ◌*◌, Bool, true, false, not, ◌&&◌, nat_eq, nat_lt, List, [], ◌∷◌, ◌++◌, map, Option, Some, None, if◌then◌else◌}
use Rattle.scc_semantics.specs.Location.{Part}
use Rattle.scc_semantics.specs.Location as location
use Rattle.scc_core_spec.specs.Term.{CellName, Own}
use Rattle.scc_core_spec.specs.Program.{Cell, is_pointer}

pub data Step : Type 0 where
  Named : (name : ℕ) → Step
  At : (index : ℕ) → Step
  -- the local of that number, behind the name of its process
  Ours : (number : ℕ) → Step
  -- an index that isn't static, of so many elements
  Open : (size : ℕ) → Step

abbrev pub part_step : Part → Step
part_step (location.Member name) = Named name
part_step (location.Element i) = At i

abbrev pub own_steps : Option Own → List ℕ → List Step
own_steps None indices = []
own_steps (Some o) indices = Ours o.number ∷ map At indices

-- the steps of a name
abbrev pub steps_of : CellName → List Step
steps_of n = map part_step n.path ++ own_steps n.own n.indices

-- a path from the top
abbrev pub path_steps : List Part → List Step
path_steps path = map part_step path

-- a name completes a pattern
abbrev pub fits : List Step → List Step → Bool
fits [] [] = true
fits (Named n ∷ p) (Named m ∷ q) = nat_eq n m && fits p q
fits (At i ∷ p) (At j ∷ q) = nat_eq i j && fits p q
fits (Ours n ∷ p) (Ours m ∷ q) = nat_eq n m && fits p q
fits (Open size ∷ p) (At j ∷ q) = nat_lt j size && fits p q
fits _ _ = false

abbrev pub is_open : List Step → Bool
is_open [] = false
is_open (Open size ∷ p) = true
is_open (s ∷ p) = is_open p

-- a member behind an index that isn't static: an object is chosen
abbrev pub chooses_object : List Step → Bool
chooses_object [] = false
chooses_object (Open size ∷ p) = chooses_behind p
  where
    chooses_behind : List Step → Bool
    chooses_behind [] = false
    chooses_behind (Named n ∷ p) = true
    chooses_behind (s ∷ p) = chooses_behind p
chooses_object (s ∷ p) = chooses_object p

-- how many indices are open, and over how many elements they range together
abbrev pub open_count : List Step → ℕ
open_count [] = 0
open_count (Open size ∷ p) = 1 + open_count p
open_count (s ∷ p) = open_count p

abbrev pub open_product : List Step → ℕ
open_product [] = 1
open_product (Open size ∷ p) = size * open_product p
open_product (s ∷ p) = open_product p

-- the elements of an array under open indices, 0 where no index is open
abbrev pub elements : List Step → ℕ
elements p = if is_open p then open_product p else 0

-- a cell that is no pointer, or one that is
abbrev pub names_cell : Bool → List Step → Cell → Bool
names_cell pointer p c = fits p (steps_of c.name) && (if pointer then is_pointer c.sort else not (is_pointer c.sort))

-- the first cell of a name, counted from n on: names of cells that are no pointers differ
abbrev pub cell_at : Bool → ℕ → List Step → List Cell → Option ℕ
cell_at pointer n p [] = None
cell_at pointer n p (c ∷ cs) = if names_cell pointer p c then Some n else cell_at pointer (n + 1) p cs

-- all cells whose names complete a pattern, by their numbers
abbrev pub cells_at : ℕ → List Step → List Cell → List ℕ
cells_at n p [] = []
cells_at n p (c ∷ cs) = if names_cell false p c then n ∷ cells_at (n + 1) p cs else cells_at (n + 1) p cs
