-- Which combinational method feeds which, by lists of what is read and written. This project's own.
use Rattle.std.specs.Prelude.{ℕ, Bool, ◌&&◌, List, [], flat_map, if◌then◌else◌, slice_get, unwrap_or}
use Rattle.std.specs.List.{list_any}
use Rattle.scc_core_spec.specs.Feeding.{is_method}
use Rattle.scc_core_spec.specs.Program.{Program, is_root}
use Rattle.scc_core_spec.specs.Uses.{among, has_sort}
use Rattle.scc_rules_laws.specs.Found.{all_put}
use Rattle.scc_rules_laws.specs.Seen.{Seen}

abbrev pub read_cells : Seen → List ℕ
read_cells s = if s.write then [] else s.cells

abbrev pub all_read : List Seen → List ℕ
all_read ss = flat_map read_cells ss

abbrev pub list_at : List (List Seen) → ℕ → List Seen
list_at thin i = unwrap_or (slice_get thin i) []

-- i writes a root that j reads, both being combinational methods
abbrev pub feeds_by : Program → List (List Seen) → ℕ → ℕ → Bool
feeds_by p thin i j = is_method p i && (is_method p j && list_any (λ x. has_sort is_root p.cells x && among x (all_read (list_at thin j))) (all_put (list_at thin i)))
