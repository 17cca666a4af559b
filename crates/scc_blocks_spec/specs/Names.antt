-- Which locations are registers, and the names of emitted text: those of locations, and a thread's own. This project's own.
use Rattle.std.specs.Prelude.{ℕ, suc, Bool, true, false, not, ◌&&◌, ◌||◌, List, [], ◌∷◌, ◌++◌, filter, length, Option, Some, None, option_map, option_and_then, slice_get, unwrap_or, is_some, bytes_eq, codes, if◌then◌else◌}
use Rattle.std.specs.List.{list_any, range_with_len}
use Rattle.scc_semantics.specs.Location.{Location, same}
use Rattle.scc_core_spec.specs.Program.{Program, Process, Cell, is_root, is_variable, is_pointer}
use Rattle.scc_core_spec.specs.Static.{Cells}
use Rattle.scc_core_spec.specs.Kept.{written_by, is_kept}
use Rattle.scc_core_spec.specs.Uses.{has_sort, among}
use Rattle.scc_core_spec.specs.Source.{Home, cell_location}
use Rattle.scc_core_spec.specs.Constants.{name_text}
use Rattle.scc_core_spec.specs.Segments.{counts}
use Rattle.scc_core_spec.specs.Sizes.{live_body, states}

-- A clocked process keeps the roots that it writes; a method also the variables that it writes, a thread what lives across a wait, be it a local that only
-- statements write to which no path comes.
abbrev pub keeps : Cells → ℕ → Process → ℕ → Bool
keeps cs i q c = is_some q.edge && ((has_sort is_root cs c && among c (written_by cs q))
    || (if q.is_thread then is_kept cs i q c else has_sort is_variable cs c && among c (written_by cs q)))

abbrev pub kept_from : Cells → ℕ → List Process → ℕ → Bool
kept_from cs i [] c = false
kept_from cs i (q ∷ qs) c = keeps cs i q c || kept_from cs (suc i) qs c

-- whether a cell is a register
abbrev pub is_register : Program → ℕ → Bool
is_register p c = kept_from p.cells 0 p.processes c

-- the registers, ascending
abbrev pub registers : Program → List ℕ
registers p = filter (is_register p) (range_with_len 0 (length p.cells))

-- a root or a register: it holds a word from step to step
abbrev pub holds_word : Program → ℕ → Bool
holds_word p c = has_sort is_root p.cells c || is_register p c

module _ (home : Home) (p : Program) where
  abbrev pub cell_numbered : Location → ℕ → List Cell → Option ℕ
  cell_numbered l n [] = None
  cell_numbered l n (c ∷ cs) = if same (cell_location home p c) l && not (is_pointer c.sort) then Some n else cell_numbered l (suc n) cs

  -- the cell that stands at a location
  abbrev pub cell_at : Location → Option ℕ
  cell_at l = cell_numbered l 0 p.cells

  -- the locations that registers stand for
  abbrev pub is_kept_at : Location → Bool
  is_kept_at l = unwrap_or (option_map (is_register p) (cell_at l)) false

  -- the name of a location, by the bytes of each name
  abbrev pub location_text : (ℕ → List ℕ) → Location → List ℕ
  location_text text l = unwrap_or (option_map (λ c. name_text text c.name) (option_and_then (slice_get p.cells) (cell_at l))) []

abbrev pub state_name : (ℕ → List ℕ) → Process → List ℕ
state_name text q = name_text text q.name ++ codes "$$state"

abbrev pub counter_name : (ℕ → List ℕ) → Process → List ℕ
counter_name text q = name_text text q.name ++ codes "$$wait"

-- a thread has a state where it has more waits than one, and a counter where some wait is for more edges than one
abbrev pub has_state : Cells → Process → Bool
has_state cs q = by_number (states cs q.body)
  where
    by_number : ℕ → Bool
    by_number (suc (suc n)) = true
    by_number n = false

abbrev pub has_counter : Cells → Process → Bool
has_counter cs q = list_any is_more (counts (live_body cs q.body))
  where
    is_more : ℕ → Bool
    is_more (suc (suc n)) = true
    is_more n = false

abbrev pub own_of : (ℕ → List ℕ) → Cells → Process → List (List ℕ)
own_of text cs q = if q.is_thread then (if has_state cs q then state_name text q ∷ [] else []) ++ (if has_counter cs q then counter_name text q ∷ [] else []) else []

abbrev pub own_from : (ℕ → List ℕ) → Cells → List Process → List (List ℕ)
own_from text cs [] = []
own_from text cs (q ∷ qs) = own_of text cs q ++ own_from text cs qs

-- the names that threads' states and counters have
abbrev pub is_own : (ℕ → List ℕ) → Program → List ℕ → Bool
is_own text p name = list_any (bytes_eq name) (own_from text p.cells p.processes)
