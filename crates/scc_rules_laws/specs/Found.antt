-- The rules on what is read and written, by such lists. This project's own.
use Rattle.std.specs.Prelude.{ℕ, Bool, true, false, ◌&&◌, ◌||◌, not, nat_eq, if◌then◌else◌, List, [], ◌∷◌, ◌++◌, filter, flat_map, Option, Some, None, option_map}
use Rattle.std.specs.List.{list_any}
use Rattle.scc_base.specs.declared.refusal.Place.{Place}
use Rattle.scc_base.specs.declared.refusal.Refusal.{Refusal}
use Rattle.scc_base.specs.declared.code.Code.{Code as Reason}
use Rattle.scc_base.specs.declared.code.Code.TheVariants as reason
use Rattle.scc_core_spec.specs.First.{first_of, or_else, when, refused, refused_beside}
use Rattle.scc_core_spec.specs.Flow.{flow, every}
use Rattle.scc_core_spec.specs.Live.{live}
use Rattle.scc_core_spec.specs.Program.{Process, is_root, is_variable, is_combinational}
use Rattle.scc_core_spec.specs.Rules.{reset_cells}
use Rattle.scc_core_spec.specs.Static.{Cells}
use Rattle.scc_core_spec.specs.Uses.{among, has_sort}
use Rattle.scc_rules_laws.specs.Seen.{Seen}

abbrev pub only : {A : Type 0} → Bool → Option A → Option A
only true o = o
only false o = None

-- what is found along two lists
abbrev pub first_along : {A B C : Type 0} → (A → B → Option C) → List A → List B → Option C
first_along f [] ys = None
first_along f (x ∷ xs) [] = None
first_along f (x ∷ xs) (y ∷ ys) = or_else (f x y) (first_along f xs ys)

-- a read of a cell that passes a test, at the read; a write of one, at the statement
abbrev pub read_found : Reason → (ℕ → Bool) → Seen → Option Refusal
read_found code test s = only (not s.write) (when (list_any test s.cells) (refused code s.place))

abbrev pub put_found : Reason → (ℕ → Bool) → Seen → Option Refusal
put_found code test s = only s.write (when (list_any test s.cells) (refused code s.statement))

-- E408 of one process, where cells that pass the test are clocks
abbrev pub clock_used : (ℕ → Bool) → Process → List Seen → Option Refusal
clock_used test q ss = or_else (when (list_any test (reset_cells q.reset ++ q.senses)) (refused reason.ClockAsData q.place)) (first_of (read_found reason.ClockAsData test) ss)

-- E503 of one process
abbrev pub is_unlisted : Cells → List ℕ → ℕ → Bool
is_unlisted cs senses n = has_sort is_root cs n && not (among n senses)

abbrev pub unlisted_read : Cells → Process → List Seen → Option Refusal
unlisted_read cs q ss = only (is_combinational q) (first_of (read_found reason.MissingSensitivity (is_unlisted cs q.senses)) ss)

-- E504 of one process
abbrev pub is_missed : Cells → Process → ℕ → Bool
is_missed cs q n = has_sort is_root cs n && (flow cs (live cs q.body) every).fall n

abbrev pub missed_put : Cells → Process → List Seen → Option Refusal
missed_put cs q ss = only (is_combinational q) (first_of (put_found reason.Latch (is_missed cs q)) ss)

-- ---- E501

-- the first statement of earlier processes that writes one of these roots
abbrev pub writes_one : Cells → List ℕ → Seen → Option Place
writes_one cs xs t = only t.write (when (list_any (λ x. has_sort is_root cs x && among x t.cells) xs) t.statement)

abbrev pub first_writer : Cells → List (List Seen) → List ℕ → Option Place
first_writer cs before xs = first_of (first_of (writes_one cs xs)) before

abbrev pub second_writer : Cells → List (List Seen) → Seen → Option Refusal
second_writer cs before s = only s.write (option_map (refused_beside reason.TwoWriters s.statement) (first_writer cs before s.cells))

abbrev pub two_in : Cells → List (List Seen) → List (List Seen) → Option Refusal
two_in cs before [] = None
two_in cs before (later ∷ rest) = or_else (first_of (second_writer cs before) later) (two_in cs (before ++ later ∷ []) rest)

-- ---- E502

abbrev pub put_cells : Seen → List ℕ
put_cells s = if s.write then s.cells else []

abbrev pub all_put : List Seen → List ℕ
all_put ss = flat_map put_cells ss

-- the first statement of earlier processes that names one of these variables, where one of the two processes writes it
abbrev pub names_one : Cells → (own theirs xs : List ℕ) → Seen → Option Place
names_one cs own theirs xs t = when (list_any (λ x. has_sort is_variable cs x && (among x t.cells && (among x own || among x theirs))) xs) t.statement

abbrev pub first_sharer : Cells → List ℕ → List (List Seen) → List ℕ → Option Place
first_sharer cs own before xs = first_of (λ earlier. first_of (names_one cs own (all_put earlier) xs) earlier) before

-- what the statement names of which the next ones are
abbrev pub same_statement : ℕ → List Seen → List ℕ
same_statement n ss = flat_map (λ s. s.cells) (filter (λ s. nat_eq s.number n) ss)

-- what one location shares, and then all that its statement names from there on
abbrev pub sharing_by : Option Place → Option Refusal → Option Refusal
sharing_by None o = None
sharing_by (Some at) o = o

abbrev pub sharing : Cells → List ℕ → List (List Seen) → Seen → List Seen → Option Refusal
sharing cs own before s rest = sharing_by (first_sharer cs own before s.cells)
    (option_map (refused_beside reason.SharedVariable s.statement) (first_sharer cs own before (s.cells ++ same_statement s.number rest)))

abbrev pub shared_from : Cells → List ℕ → List (List Seen) → List Seen → Option Refusal
shared_from cs own before [] = None
shared_from cs own before (s ∷ rest) = or_else (sharing cs own before s rest) (shared_from cs own before rest)

abbrev pub shared_in : Cells → List (List Seen) → List (List Seen) → Option Refusal
shared_in cs before [] = None
shared_in cs before (later ∷ rest) = or_else (shared_from cs (all_put later) before later) (shared_in cs (before ++ later ∷ []) rest)
