-- What no process writes is constant: a variable holds what construction left, a signal or output 0. And the text of a name in emitted text. This
-- project's own.
use Rattle.std.specs.Prelude.{ℕ, ◌+◌, Bool, true, false, not, ◌&&◌, List, [], ◌∷◌, ◌++◌, flat_map, decimal, Option, Some, None, if◌then◌else◌}
use Rattle.scc_semantics.specs.Location.{Location, Part, Member, Element, same}
use Rattle.scc_core_spec.specs.Term.{CellName, Own}
use Rattle.scc_core_spec.specs.Program.{Program, Process, Sort, Input, Output, Signal, Variable, is_pointer}
use Rattle.scc_core_spec.specs.Program as program
use Rattle.scc_core_spec.specs.Uses.{among}
use Rattle.scc_core_spec.specs.Kept.{written_by}
use Rattle.scc_core_spec.specs.Source.{Home, cell_location}

-- what some process of a resolved core writes
abbrev pub written : Program → List ℕ
written p = flat_map (written_by p.cells) p.processes

abbrev pub unwritten_word : Sort → Option ℕ
unwritten_word (Variable w f) = Some w
unwritten_word Signal = Some 0
unwritten_word Output = Some 0
unwritten_word _ = None

abbrev pub constant_if : Bool → Sort → Option ℕ
constant_if true s = None
constant_if false s = unwritten_word s

-- a pointer may stand where a number does
abbrev pub constant_from : Home → Program → ℕ → List program.Cell → Location → Option ℕ
constant_from home p n [] l = None
constant_from home p n (c ∷ cs) l = if same (cell_location home p c) l && not (is_pointer c.sort) then constant_if (among n (written p)) c.sort else constant_from home p (n + 1) cs l

-- of a resolved core
abbrev pub constants_of : Home → Program → Location → Option ℕ
constants_of home p l = constant_from home p 0 p.cells l

-- the text of a name: its parts joined by `$` (36), indices in decimal digits; `text` has the bytes of each name
abbrev pub part_text : (ℕ → List ℕ) → Part → List ℕ
part_text text (Member n) = text n
part_text text (Element i) = decimal i

abbrev pub path_text : (ℕ → List ℕ) → List Part → List ℕ
path_text text [] = []
path_text text (s ∷ []) = part_text text s
path_text text (s ∷ t ∷ more) = part_text text s ++ (36 ∷ path_text text (t ∷ more))

abbrev pub own_text : (ℕ → List ℕ) → Option Own → List ℕ
own_text text None = []
own_text text (Some o) = 36 ∷ (decimal o.number ++ (36 ∷ text o.identifier))

-- a local is its process's name, its number, its identifier and its indices
abbrev pub name_text : (ℕ → List ℕ) → CellName → List ℕ
name_text text n = path_text text n.path ++ (own_text text n.own ++ flat_map (λ i. 36 ∷ decimal i) n.indices)
