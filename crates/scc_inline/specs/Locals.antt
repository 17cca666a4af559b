-- The cells of a process's locals and results. This project's own.
use Rattle.std.specs.Prelude.{◌≡◌, ℕ, suc, List, [], ◌∷◌, ◌++◌, map, Some, None, if◌then◌else◌}
use Rattle.scc_base.specs.declared.refusal.Place.{Place}
use Rattle.scc_bits_kinds.specs.declared.kind.Kind.{Kind}
use Rattle.scc_core.specs.declared.program.Cell.{Cell}
use Rattle.scc_core.specs.declared.program.CellName.{CellName}
use Rattle.scc_core.specs.declared.program.CellSort.{CellSort}
use Rattle.scc_base.specs.declared.names.Name.{Name}
use Rattle.scc_core_view.specs.Programs.{cell_of, path_of}
use Rattle.scc_elab_spec.specs.Program.{Member, Reach}
use Rattle.scc_elab_spec.specs.Types.{is_direct}
use Rattle.scc_core_spec.specs.Program as prog
use Rattle.scc_inline_spec.specs.Inlined.{own_cell}
use Rattle.scc_inline.specs.declared.scope.Growing.{Growing}

abbrev pub cell_with : CellName → Kind → CellSort → Place → Cell
cell_with n k s p = record { name = n; kind = k; sort = s; place = p }

abbrev pub is_named : Growing → ℕ → Name → List ℕ → CellName → Type 0
is_named g number ident indices n = n ≡ record { path = g.process; local = Some (number, ident); indices = indices }

-- one cell more, in the same process
pub record IsAdded (old new : Growing) (c : Cell) : Type 0 where
  pub cells : new.cells ≡ old.cells ++ c ∷ []
  pub process : new.process ≡ old.process
  pub number : new.number ≡ old.number
  pub next : new.next ≡ old.next

-- cells of a local more, of these elements
pub record AreAdded (old new : Growing) (n : ℕ) (m : Member) (elements : List (List ℕ)) : Type 0 where
  pub cells : map cell_of new.cells ≡ map cell_of old.cells ++ map (own_cell (path_of old.process) old.number n m) elements
  pub process : new.process ≡ old.process
  pub number : new.number ≡ old.number
  pub next : new.next ≡ old.next

abbrev pub own_sort : Growing → Reach → prog.Sort
own_sort g r = if is_direct r then prog.Local g.number else prog.Pointer None

-- one local or result more, with the cells of its elements
pub record IsOneMore (old new : Growing) (m : Member) (elements : List (List ℕ)) : Type 0 where
  pub cells : map cell_of new.cells ≡ map cell_of old.cells ++ map (own_cell (path_of old.process) old.number old.next m) elements
  pub process : new.process ≡ old.process
  pub number : new.number ≡ old.number
  pub next : new.next ≡ suc old.next
