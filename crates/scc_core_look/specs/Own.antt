-- Cells that a table of names has under their own names. This project's own.
use Rattle.std.specs.Prelude.{ℕ, ◌+◌, Bool, true, false, not, ◌&&◌, nat_eq, List, [], ◌∷◌, Option, Some, None, option_and_then, is_some}
use Rattle.scc_core.specs.declared.places.Places.{Places}
use Rattle.scc_core.specs.declared.program.Cell.{Cell}
use Rattle.scc_core.specs.declared.program.CellName.{CellName}
use Rattle.scc_core.specs.Names.{cell_at, is_pointer, name_spot, pointer_at}
use Rattle.scc_core_spec.specs.Fit.{is_nil}

-- indices stand behind a local alone
abbrev pub is_name : CellName → Bool
is_name n = if_local n.local
  where
    if_local : {A : Type 0} → Option A → Bool
    if_local None = is_nil n.indices
    if_local (Some l) = true

abbrev pub is_it : ℕ → Option ℕ → Bool
is_it n None = false
is_it n (Some m) = nat_eq m n

-- a cell that is no pointer stands under its own name
abbrev pub is_own : Places → ℕ → Cell → Bool
is_own p n c = not (is_pointer c.sort) && (is_name c.name && is_it n (option_and_then (cell_at p) (name_spot p c.name)))

-- so do all, counted from a number on
abbrev pub are_own : Places → ℕ → List Cell → Bool
are_own p n [] = true
are_own p n (c ∷ cs) = is_own p n c && are_own p (n + 1) cs

-- neither a cell nor a pointer has a name
abbrev pub is_unnamed : Places → CellName → Bool
is_unnamed p n = not (is_some (option_and_then (cell_at p) (name_spot p n))) && not (is_some (option_and_then (pointer_at p) (name_spot p n)))
