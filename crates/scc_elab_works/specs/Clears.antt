-- What a declaration without initialiser leaves, location by location. This project's own.
use Rattle.std.specs.Prelude.{ℕ, Bool, ◌&&◌, List, []}
use Rattle.scc_semantics.specs.Location.{Location, Local, same_root}
use Rattle.scc_elab_spec.specs.Worth.{is_inside}

-- whether a location is an element of a local variable that is declared with these sizes
abbrev pub is_element : (object local : ℕ) → List ℕ → Location → Bool
is_element o n sizes l = same_root (Local o [] n) l.root && is_inside sizes l.path
