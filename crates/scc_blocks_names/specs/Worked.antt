-- A core with one variable, one process and one local, which is named as the variable. This project's own.
use Rattle.std.specs.Prelude.{ℕ, Bool, true, false, ◌&&◌, nat_eq, List, [], ◌∷◌, Some, None, codes}
use Rattle.scc_bits_kinds.specs.declared.kind.Kind.TheVariants as kind
use Rattle.scc_semantics.specs.Location.{Part, Member}
use Rattle.scc_core_spec.specs.Code.{End}
use Rattle.scc_core_spec.specs.Term.{CellName}
use Rattle.scc_core_spec.specs.Program.{Program, Process, Cell, Variable, Local}
use Rattle.scc_core_spec.specs.Worked.{here, named}
use Rattle.scc_blocks_names.specs.Placed.{Objects}

abbrev pub two_names : List (List ℕ)
two_names = codes "n" ∷ codes "run" ∷ []

abbrev pub local_name : CellName
local_name = record { path = Member 1 ∷ []; own = Some (record { number = 0; identifier = 0 }); indices = [] }

abbrev pub variable : Cell
variable = record { name = named 0; kind = kind.Bool; sort = Variable 0 false; place = here }

abbrev pub local : Cell
local = record { name = local_name; kind = kind.Bool; sort = Local 0; place = here }

abbrev pub process : Process
process = record { is_thread = false; name = named 1; place = here; senses = []; edge = None; reset = None; body = End }

abbrev pub small : Program
small = record { top = 1; cells = variable ∷ local ∷ []; vectors = []; processes = process ∷ [] }

abbrev pub is_top : List Part → Bool
is_top [] = true
is_top (p ∷ ps) = false

-- the top has the member `n` and the process `run`
abbrev pub small_objects : Objects
small_objects = record { has = λ path n. is_top path && nat_eq n 0; runs = λ path n. is_top path && nat_eq n 1 }
