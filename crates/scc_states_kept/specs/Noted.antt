-- The cells of a thread, noted from what its statements read and write. This project's own.
use Rattle.std.specs.Prelude.{◌≡◌, ℕ, Bool, true, false, nat_eq, List, map, length, filter, slice_get, Option, Some, None}
use Rattle.std.specs.List.{range_with_len}
use Rattle.scc_base.specs.declared.refusal.Place.{Place}
use Rattle.scc_core.specs.declared.expr.CoreExpr.{CoreExpr}
use Rattle.scc_core.specs.declared.expr.CoreLeft.{CoreLeft}
use Rattle.scc_core.specs.declared.program.Cell.{Cell}
use Rattle.scc_core.specs.declared.statics.Known.{Known}
use Rattle.scc_core_flow.specs.Live.{Each}
use Rattle.scc_core_spec.specs.Code.{Code}
use Rattle.scc_core_spec.specs.Program.{Sort, Variable, Local}
use Rattle.scc_core_spec.specs.Static.{Cells}
use Rattle.scc_core_spec.specs.Uses.{Act, among, loads}
use Rattle.scc_core_view.specs.Programs.{cell_of, sort_of}
use Rattle.scc_core_view.specs.Terms.{taken_of, term_of}
use Rattle.scc_states_kept.specs.declared.own.Own.{Own}
use Rattle.scc_states_kept.specs.Owned.{is_number, owned, owns}
use Rattle.scc_states_kept.specs.Slots.{put_reads}
use Rattle.scc_states_kept.specs.Walks.{TellsAct, TellsCode}

-- the cells that are known, as the definitions have them
abbrev pub cells_here : Known → Cells
cells_here known = map cell_of known.cells.now

-- a cell of this sort is the thread's own where it is read, or written
abbrev pub owned_sort : ℕ → Bool → Sort → Bool
owned_sort i w (Local j) = nat_eq i j
owned_sort i w (Variable word fixed) = w
owned_sort i w _ = false

abbrev pub owns_cell : ℕ → Bool → Option Cell → Bool
owns_cell i w None = false
owns_cell i w (Some c) = owned_sort i w (sort_of c.sort)

abbrev pub owns_at : Known → ℕ → Bool → ℕ → Bool
owns_at known i w x = owns_cell i w (slice_get known.cells.now x)

-- just the cells for which f is true are among these
pub record Notes (ks : List ℕ) (f : ℕ → Bool) : Type 0 where
  pub told : (x : ℕ) → among x ks ≡ f x

-- an assignment and a test by themselves
abbrev pub Spot : Type 0
Spot = Place

abbrev pub put_of : Spot → CoreLeft → CoreExpr → Act
put_of p l e = record { place = p; reads = put_reads l e; writes = Some ((taken_of l).left, (taken_of l).pick) }

abbrev pub test_of : Spot → CoreExpr → Act
test_of p t = record { place = p; reads = loads (term_of t); writes = None }

-- what is known of the thread of that number: of the cells that may be its own it tells what the definitions do
abbrev pub asks : Known → ℕ → ℕ → Bool
asks known i = is_number (cells_here known) i

abbrev pub TellsOne : Known → ℕ → Act → Type 0
TellsOne known i a = TellsAct known (cells_here known) (asks known i) a

abbrev pub TellsHere : Known → ℕ → Code → Type 0
TellsHere known i c = TellsCode known (cells_here known) (asks known i) c

abbrev pub owns_one : Known → ℕ → Act → ℕ → Bool
owns_one known i a x = owns (cells_here known) i x a

abbrev pub owns_any : Known → ℕ → Code → ℕ → Bool
owns_any known i c x = owned (cells_here known) i x c

-- the thread's own cells, ascending
abbrev pub own_list : Cells → ℕ → Code → List ℕ
own_list cs i c = filter (λ x. owned cs i x c) (range_with_len 0 (length cs))

-- Those cells, by what is known.
pub record IsOwn (known : Known) (i : ℕ) (c : Code) (own : Own) : Type 0 where
  pub same : own.known ≡ known
  pub cells : own.cells.keys ≡ own_list (cells_here known) i c
