-- The rules of processes, code by code in the order of their numbers, within a code process by process and statement by statement.
-- What they read and write is taken from live parts, E507 and E513 from whole bodies. This project's own.
use Rattle.std.specs.Prelude.{ℕ, Bool, ◌&&◌, ◌||◌, not, nat_eq, List, [], ◌∷◌, ◌++◌, flat_map, Option, Some, None, if◌then◌else◌}
use Rattle.std.specs.List.{list_any}
use Rattle.scc_base.specs.declared.refusal.Place.{Place}
use Rattle.scc_base.specs.declared.refusal.Refusal.{Refusal}
use Rattle.scc_base.specs.declared.code.Code.{Code as Reason}
use Rattle.scc_base.specs.declared.code.Code.TheVariants as reason
use Rattle.scc_core_spec.specs.Term.{place_at}
use Rattle.scc_core_spec.specs.Code.{Code, End, Put, Aim, If, Block, Loop, Exit, Wait}
use Rattle.scc_core_spec.specs.Program.{Process, Program, Edge, Reset, is_root, is_variable, is_local, is_combinational}
use Rattle.scc_core_spec.specs.Static.{Cells}
use Rattle.scc_core_spec.specs.Live.{alive, live}
use Rattle.scc_core_spec.specs.Uses.{Use, Act, loads, inside, picked, cells_of, is_single, writes_of, among, has_sort}
use Rattle.scc_core_spec.specs.Flow.{flow, every, idle_loops}
use Rattle.scc_core_spec.specs.Kept.{written_by}
use Rattle.scc_core_spec.specs.Feeding.{methods, feeds, reaches_in, of_process}
use Rattle.scc_core_spec.specs.First.{or_else, first_some, first_of, when, refused, refused_beside}
use Rattle.scc_core_spec.specs.Clashes.{live_acts, two_writers, shared_variable}

abbrev pub each : Program → (Process → Option Refusal) → Option Refusal
each p f = first_of f p.processes

-- E408: a clock is a reset or a level of a sensitivity, at the process; or it is read, at the read (C++ has no such rule; a clock of emitted text
-- is read by no expression)
abbrev pub edge_cells : Option Edge → List ℕ
edge_cells None = []
edge_cells (Some e) = e.cell ∷ []

abbrev pub reset_cells : Option Reset → List ℕ
reset_cells None = []
reset_cells (Some r) = r.cell ∷ []

abbrev pub clocks : Program → List ℕ
clocks p = flat_map (λ q. edge_cells q.edge) p.processes

abbrev pub first_read : Reason → (ℕ → Bool) → Cells → List Act → Option Refusal
first_read code test cs said = first_of (λ u. when (list_any test (cells_of cs u.left)) (refused code u.place)) (flat_map (λ a. a.reads) said)

abbrev pub clock_as_data : Program → Option Refusal
clock_as_data p = each p (λ q. or_else
    (when (list_any (λ n. among n (clocks p)) (reset_cells q.reset ++ q.senses)) (refused reason.ClockAsData q.place))
    (first_read reason.ClockAsData (λ n. among n (clocks p)) p.cells (live_acts p.cells q)))

-- E503: a combinational method reads a root that isn't in its sensitivity
abbrev pub missing_sensitivity : Program → Option Refusal
missing_sensitivity p = each p (λ q. if is_combinational q
    then first_read reason.MissingSensitivity (λ n. has_sort is_root p.cells n && not (among n q.senses)) p.cells (live_acts p.cells q) else None)

-- E504: a path through a combinational method doesn't write a root that it writes, at its first write of such a root
abbrev pub latch : Program → Option Refusal
latch p = each p (λ q. let missed = (flow p.cells (live p.cells q.body) every).fall in if is_combinational q
    then first_of (λ a. when (list_any (λ n. has_sort is_root p.cells n && missed n) (writes_of p.cells a)) (refused reason.Latch a.place)) (live_acts p.cells q) else None)

-- E505: at the first method on a cycle; other: the first that reads what it writes and stands on a cycle with it
abbrev pub place_in : Program → ℕ → List Place
place_in p i = of_process [] (λ q. q.place ∷ []) p i

abbrev pub comb_loop : Program → Option Refusal
comb_loop p = first_of (λ i. if reaches_in p i i
    then first_of (λ j. if feeds p i j && (nat_eq j i || reaches_in p j i)
    then first_of (λ a. first_of (λ b. Some (refused_beside reason.CombLoop a b)) (place_in p j)) (place_in p i) else None) (methods p) else None) (methods p)

-- E506: a combinational method reads a variable that some process writes, or any method a local, before it was written whole
abbrev pub some_write : Program → List ℕ
some_write p = flat_map (written_by p.cells) p.processes

abbrev pub watched : Program → Process → ℕ → Bool
watched p q n = has_sort is_local p.cells n || (is_combinational q && (has_sort is_variable p.cells n && among n (some_write p)))

abbrev pub comb_state : Program → Option Refusal
comb_state p = each p (λ q. if q.is_thread then None
    else first_of (λ m. Some (refused reason.CombState m.0)) (flow p.cells (live p.cells q.body) (watched p q)).early)

-- E507: a wait in a method
abbrev pub waits : Code → List Place
waits End = []
waits (Put p l k e r) = waits r
waits (Aim p to t r) = waits r
waits (If p t a b r) = waits a ++ (waits b ++ waits r)
waits (Block p b r) = waits b ++ waits r
waits (Loop p n b r) = waits b ++ waits r
waits (Exit p n r) = waits r
waits (Wait p l n r) = p ∷ waits r

abbrev pub wait_in_method : Program → Option Refusal
wait_in_method p = each p (λ q. if q.is_thread then None else first_of (λ at. Some (refused reason.WaitInMethod at)) (waits q.body))

-- E509: some path comes to the end of a loop's body without a wait
abbrev pub loop_may_not_wait : Program → Option Refusal
loop_may_not_wait p = each p (λ q. first_of (λ at. Some (refused reason.LoopMayNotWait at)) (idle_loops (live p.cells q.body)))

-- E510: some path of a thread comes to the end of its function, at the process
abbrev pub end_reached : Program → Option Refusal
end_reached p = each p (λ q. when (q.is_thread && (alive p.cells q.body).ends) (refused reason.EndReached q.place))

-- E513: an index that isn't static chooses a signal or port, on the left side after its own indices
abbrev pub chosen_root : Cells → Use → Option Refusal
chosen_root cs u = when (not (is_single cs u.left) && list_any (has_sort is_root cs) (cells_of cs u.left)) (refused reason.SignalIndex u.place)

-- of an assignment the reads are those of the left side's indices, then those of the value
abbrev pub own_uses : Code → List Use
own_uses End = []
own_uses (Put p l k e r) = inside l ++ (picked k ++ (record { place = place_at l; left = l } ∷ (loads e ++ own_uses r)))
own_uses (Aim p to t r) = inside t ++ own_uses r
own_uses (If p t a b r) = loads t ++ (own_uses a ++ (own_uses b ++ own_uses r))
own_uses (Block p b r) = own_uses b ++ own_uses r
own_uses (Loop p n b r) = own_uses b ++ own_uses r
own_uses (Exit p n r) = own_uses r
own_uses (Wait p l n r) = own_uses r

abbrev pub signal_index : Program → Option Refusal
signal_index p = each p (λ q. first_of (chosen_root p.cells) (own_uses q.body))

-- the first rule that is broken
abbrev pub first_rule : Program → Option Refusal
first_rule p = first_some (clock_as_data p ∷ two_writers p ∷ shared_variable p ∷ missing_sensitivity p ∷ latch p ∷ comb_loop p ∷ comb_state p
    ∷ wait_in_method p ∷ loop_may_not_wait p ∷ end_reached p ∷ signal_index p ∷ [])
