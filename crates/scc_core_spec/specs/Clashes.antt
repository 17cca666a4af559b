-- Two processes that meet in one root or variable. IEEE 1666-2011, 6.4.4 has one writer of a signal; that variables are not shared is
-- this project's own.
use Rattle.std.specs.Prelude.{ℕ, Bool, ◌&&◌, ◌||◌, List, [], ◌∷◌, ◌++◌, map, flat_map, Option, None}
use Rattle.std.specs.List.{list_any}
use Rattle.scc_base.specs.declared.refusal.Refusal.{Refusal}
use Rattle.scc_base.specs.declared.code.Code.{Code as Reason}
use Rattle.scc_base.specs.declared.code.Code.TheVariants as reason
use Rattle.scc_core_spec.specs.Program.{Process, Program, is_root, is_variable}
use Rattle.scc_core_spec.specs.Static.{Cells}
use Rattle.scc_core_spec.specs.Live.{live}
use Rattle.scc_core_spec.specs.Uses.{Act, acts, reads_of, writes_of, among, has_sort}
use Rattle.scc_core_spec.specs.First.{or_else, first_of, when, refused_beside}

-- the statements of a process's live part
abbrev pub live_acts : Cells → Process → List Act
live_acts cs p = acts (live cs p.body)

abbrev pub all_writes : Cells → List Act → List ℕ
all_writes cs said = flat_map (writes_of cs) said

abbrev pub names_of : Cells → Act → List ℕ
names_of cs a = reads_of cs a ++ writes_of cs a

-- By what a statement of a later process and one of an earlier process conflict: whether so a cell does, given the processes' statements.
abbrev pub Conflict : Type 0
Conflict = Cells → (later earlier : List Act) → (a b : Act) → Bool

-- one root that both write
abbrev pub both_write : Conflict
both_write cs later earlier a b = list_any (λ x. has_sort is_root cs x && among x (writes_of cs b)) (writes_of cs a)

-- one variable that both name, where one of the processes writes it
abbrev pub both_name : Conflict
both_name cs later earlier a b =
    list_any (λ x. has_sort is_variable cs x && (among x (names_of cs b) && (among x (all_writes cs later) || among x (all_writes cs earlier)))) (names_of cs a)

-- The earliest process with which a statement conflicts, and there its first statement. As the conflict of `both_name` asks for the statement itself, it is the first
-- that names such a variable.
abbrev pub clash_of : Reason → Conflict → Cells → List Act → List (List Act) → Act → Option Refusal
clash_of code conflict cs later before a =
    first_of (λ earlier. first_of (λ b. when (conflict cs later earlier a b) (refused_beside code a.place b.place)) earlier) before

-- the first statement, process by process, that conflicts with an earlier process
abbrev pub first_clash : Reason → Conflict → Cells → List (List Act) → List (List Act) → Option Refusal
first_clash code conflict cs before [] = None
first_clash code conflict cs before (later ∷ rest) =
    or_else (first_of (clash_of code conflict cs later before) later) (first_clash code conflict cs (before ++ later ∷ []) rest)

abbrev pub two_writers : Program → Option Refusal
two_writers p = first_clash reason.TwoWriters both_write p.cells [] (map (live_acts p.cells) p.processes)

abbrev pub shared_variable : Program → Option Refusal
shared_variable p = first_clash reason.SharedVariable both_name p.cells [] (map (live_acts p.cells) p.processes)
