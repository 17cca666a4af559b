-- Resolved cores: names tell cells and processes apart, and each body fits. This project's own.
use Rattle.std.specs.Prelude.{◌≡◌, ◌^◌, Bool, true, false, not, ◌&&◌, ◌||◌, nat_lt, List, [], ◌∷◌, Option, Some, None, option_and_then, slice_get, is_some}
use Rattle.std.specs.List.{list_all, list_any}
use Rattle.scc_bits_kinds.specs.declared.kind.Kind.{Kind}
use Rattle.scc_bits_kinds.specs.Kinds.{width_of}
use Rattle.scc_semantics.specs.Location.{Part, same_path}
use Rattle.scc_core_spec.specs.Term.{CellName, Own}
use Rattle.scc_core_spec.specs.Program.{Program, Process, Cell, Edge, Reset, Sort, Variable, Local, Port, is_pointer, is_root, is_input, is_local}
use Rattle.scc_core_spec.specs.Named.{steps_of, path_steps, fits, cell_at}
use Rattle.scc_core_spec.specs.Static.{Cells}
use Rattle.scc_core_spec.specs.Uses.{has_sort}
use Rattle.scc_core_spec.specs.Constants.{written}
use Rattle.scc_core_spec.specs.Exits.{exits_within}
use Rattle.scc_core_spec.specs.Fit.{same_kind, is_nil, fit_code}

-- processes differ in their names, and so do cells
abbrev pub processes_apart : List Process → Bool
processes_apart [] = true
processes_apart (q ∷ qs) = list_all (λ r. not (same_path q.name.path r.name.path)) qs && processes_apart qs

abbrev pub cells_apart : Cells → Bool
cells_apart [] = true
cells_apart (c ∷ cs) = list_all (λ d. not (fits (steps_of c.name) (steps_of d.name))) cs && cells_apart cs

-- a process of that path
abbrev pub has_path : List Part → Option Process → Bool
has_path path None = false
has_path path (Some q) = same_path path q.name.path

-- a local stands behind the name of its process, and nothing else does
abbrev pub own_is : List Process → Sort → List Part → Bool
own_is ps (Local j) path = has_path path (slice_get ps j)
own_is ps s path = false

abbrev pub name_is : List Process → Sort → CellName → Bool
name_is ps s n = named_by n.own
  where
    named_by : Option Own → Bool
    named_by None = is_nil n.indices && not (is_local s)
    named_by (Some o) = own_is ps s n.path

abbrev pub root_is : Kind → Option Cell → Bool
root_is k None = false
root_is k (Some c) = is_root c.sort && same_kind k c.kind

-- a port below the top stands for a signal or port of the top of its kind, and a variable begins with a word of its kind
abbrev pub sort_is : Cells → Kind → Sort → Bool
sort_is cs k (Port path) = root_is k (option_and_then (slice_get cs) (cell_at false 0 (path_steps path) cs))
sort_is cs k (Variable w f) = nat_lt w (2 ^ width_of k)
sort_is cs k s = true

-- no pointer is left
abbrev pub fit_cell : List Process → Cells → Cell → Bool
fit_cell ps cs c = not (is_pointer c.sort) && (name_is ps c.sort c.name && sort_is cs c.kind c.sort)

-- clocks and resets are signals or ports of the top, and a method has no reset
abbrev pub fit_edge : Cells → Option Edge → Bool
fit_edge cs None = true
fit_edge cs (Some e) = has_sort is_root cs e.cell

abbrev pub fit_reset : Cells → Bool → Option Reset → Bool
fit_reset cs thread None = true
fit_reset cs thread (Some r) = thread && has_sort is_root cs r.cell

-- a thread has a clock
abbrev pub fit_process : Cells → Process → Bool
fit_process cs q = (not q.is_thread || is_some q.edge) && (fit_edge cs q.edge && (fit_reset cs q.is_thread q.reset && (exits_within 0 q.body && fit_code cs q q.body)))

-- no process writes an input of the top, nor a port that stands for one
abbrev pub keeps_inputs : Program → Bool
keeps_inputs p = not (list_any (has_sort is_input p.cells) (written p))

abbrev pub is_resolved : Program → Bool
is_resolved p = processes_apart p.processes && (cells_apart p.cells && (list_all (fit_cell p.processes p.cells) p.cells && (list_all (fit_process p.cells) p.processes && keeps_inputs p)))

abbrev pub IsResolved : Program → Type 0
IsResolved p = is_resolved p ≡ true
