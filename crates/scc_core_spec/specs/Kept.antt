-- Kept cells: what lives across a wait. This project's own: they alone are registers of a thread.
use Rattle.std.specs.Prelude.{◌≡◌, ◌⊎◌, ℕ, Bool, true, false, ◌&&◌, ◌||◌, nat_eq, List, [], ◌∷◌, flat_map, filter, length}
use Rattle.std.specs.List.{list_any, range_with_len}
use Rattle.scc_base.specs.declared.refusal.Place.{Place}
use Rattle.scc_core_spec.specs.Program.{Sort, Local, Process, is_variable}
use Rattle.scc_core_spec.specs.Static.{Cells}
use Rattle.scc_core_spec.specs.Segments.{Segment, all_segments, segment_code}
use Rattle.scc_core_spec.specs.Sizes.{live_body}
use Rattle.scc_core_spec.specs.Live.{live}
use Rattle.scc_core_spec.specs.Uses.{acts, writes_of, among, has_sort}
use Rattle.scc_core_spec.specs.Paths.{Early}
use Rattle.scc_core_spec.specs.Flow.{flow}

-- the roots, variables and locals that a process writes
abbrev pub written_by : Cells → Process → List ℕ
written_by cs p = flat_map (writes_of cs) (acts (live cs p.body))

abbrev pub is_local_of : ℕ → Sort → Bool
is_local_of i (Local j) = nat_eq i j
is_local_of i _ = false

-- a number local of the thread of that number, or a variable that it writes
abbrev pub is_own : Cells → ℕ → Process → ℕ → Bool
is_own cs i p x = has_sort (is_local_of i) cs x || (has_sort is_variable cs x && among x (written_by cs p))

abbrev pub OneOf : {A : Type 0} → A → List A → Type 0
OneOf x [] = ⊥
OneOf x (y ∷ ys) = (x ≡ y) ⊎ OneOf x ys

-- Some segment of the thread, the reset segment included, has a path from its beginning that reads the cell before a whole
-- assignment to it.
abbrev pub IsKept : Cells → ℕ → Process → ℕ → Type 0
IsKept cs i p x = (is_own cs i p x ≡ true) × (s : Segment) × OneOf s (all_segments (live_body cs p.body)) × (at : Place) × Early cs (segment_code s) x at

abbrev pub has_any : {A : Type 0} → List A → Bool
has_any [] = false
has_any (x ∷ xs) = true

-- the same by the walk with sets of cells
abbrev pub is_kept : Cells → ℕ → Process → ℕ → Bool
is_kept cs i p x = is_own cs i p x && list_any (λ s. has_any (flow cs (segment_code s) (nat_eq x)).early) (all_segments (live_body cs p.body))

-- the kept cells, ascending
abbrev pub kept : Cells → ℕ → Process → List ℕ
kept cs i p = filter (is_kept cs i p) (range_with_len 0 (length cs))

pub record TellsKept (cs : Cells) (i : ℕ) (p : Process) (x : ℕ) : Type 0 where
  pub seen : IsKept cs i p x → is_kept cs i p x ≡ true
  pub only : is_kept cs i p x ≡ true → IsKept cs i p x
