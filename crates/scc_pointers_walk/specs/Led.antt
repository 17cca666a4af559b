-- What the code knows at a statement, as the definitions have it, and answers that are theirs. This project's own.
use Rattle.std.specs.Prelude.{◌≡◌, ℕ, nat_eq, List, [], map, Option, Some, None, option_map, slice_get, Result, Ok, Err}
use Rattle.std.specs.HashMap.{get_by}
use Rattle.scc_base.specs.declared.refusal.Place.{Place}
use Rattle.scc_base.specs.declared.refusal.Stop.{Stop}
use Rattle.scc_base.specs.declared.refusal.Stop.TheVariants as stop
use Rattle.scc_base.specs.declared.path.PathPart.{PathPart}
use Rattle.scc_core.specs.declared.expr.CoreBase.{roll-CoreBase}
use Rattle.scc_core.specs.declared.expr.CoreBase.TheOpen as tree
use Rattle.scc_core.specs.declared.expr.CoreLeft.{CoreLeft}
use Rattle.scc_core.specs.declared.program.Cell.{Cell as Held}
use Rattle.scc_core.specs.declared.program.CellSort.{CellSort}
use Rattle.scc_core.specs.declared.program.CellSort.TheVariants as sort
use Rattle.scc_core_spec.specs.Term.{Left}
use Rattle.scc_core_spec.specs.Resolved.{Leads, Tried, Made, Stopped}
use Rattle.scc_core_view.specs.Programs.{cell_of, vector_of}
use Rattle.scc_core_view.specs.Terms.{taken_of}
use Rattle.scc_pointers_spec.specs.Freed.{filled}
use Rattle.scc_pointers_walk.specs.declared.held.Resolver.{Resolver}

-- the answer is what the definition makes, or its refusal; or memory is wanted
abbrev pub Gives : {X Y : Type 0} → (X → Y) → Result X Stop → Tried Y → Type 0
Gives view (Ok x) t = t ≡ Made (view x)
Gives view (Err (stop.Refused r)) t = t ≡ Stopped r
Gives view (Err stop.NoMemory) t = Unit {0}

abbrev pub left_of : CoreLeft → Left
left_of l = (taken_of l).left

-- where a pointer leads, None for null
abbrev pub target_of : Option CoreLeft → Option Left
target_of o = option_map left_of o

-- where local pointers lead that were declared
abbrev pub local_of : Resolver → ℕ → Option (Option Left)
local_of r n = option_map target_of (get_by (nat_eq n) r.held)

abbrev pub leads_of : Resolver → Leads
leads_of r = record { cells = map cell_of r.known.cells.now; vectors = map vector_of r.vectors.now; local = local_of r }

-- what is known where pointers are looked at: a local one leads to null before its declaration
abbrev pub looks_of : Resolver → Leads
looks_of r = filled (leads_of r)

-- ---- the same as trees

abbrev pub at_place : Place → CoreLeft → CoreLeft
at_place p l = record { place = p; base = l.base; parts = l.parts; pick = l.pick }

abbrev pub of_path : Place → List PathPart → CoreLeft
of_path p path = record { place = p; base = roll-CoreBase (tree.Prefix (record { path = path; local = None; indices = [] })); parts = []; pick = None }

abbrev pub left_in : Place → CellSort → Option CoreLeft
left_in p (sort.Pointer (Some path)) = Some (of_path p path)
left_in p _ = None

abbrev pub left_at : Place → Option Held → Option CoreLeft
left_at p None = None
left_at p (Some c) = left_in p c.sort

abbrev pub held_or : Resolver → Place → ℕ → Option (Option CoreLeft) → Option CoreLeft
held_or r p n (Some t) = option_map (at_place p) t
held_or r p n None = left_at p (slice_get r.known.cells.now n)

-- where the pointer of a cell leads
abbrev pub led_in : Resolver → Place → ℕ → Option CoreLeft
led_in r p n = held_or r p n (get_by (nat_eq n) r.held)
