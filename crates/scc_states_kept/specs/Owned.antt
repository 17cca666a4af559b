-- The cells that a thread may keep, by what its statements read and write. This project's own.
use Rattle.std.specs.Prelude.{ℕ, Bool, ◌||◌, ◌&&◌}
use Rattle.std.specs.List.{list_any}
use Rattle.scc_core_spec.specs.Code.{Code}
use Rattle.scc_core_spec.specs.Kept.{is_local_of}
use Rattle.scc_core_spec.specs.Program.{is_variable}
use Rattle.scc_core_spec.specs.Static.{Cells}
use Rattle.scc_core_spec.specs.Uses.{Act, acts, among, has_sort, writes_of}
use Rattle.scc_states_kept.specs.Needs.{reads_cell}

-- a local of the thread of that number, or a variable
abbrev pub is_number : Cells → ℕ → ℕ → Bool
is_number cs i x = has_sort (is_local_of i) cs x || has_sort is_variable cs x

-- a statement reads a local of the thread, or writes one or a variable
abbrev pub owns : Cells → ℕ → ℕ → Act → Bool
owns cs i x a = (has_sort (is_local_of i) cs x && reads_cell cs x a.reads) || (is_number cs i x && among x (writes_of cs a))

abbrev pub owned : Cells → ℕ → ℕ → Code → Bool
owned cs i x c = list_any (owns cs i x) (acts c)
