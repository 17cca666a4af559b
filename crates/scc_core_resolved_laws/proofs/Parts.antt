-- The tests of a resolved core.
use Rattle.std.proofs.Common.{◌≡◌, ℕ, Bool, true, ◌&&◌, Some}
use Rattle.std.specs.Prelude.{slice_get, not, ◌||◌, is_some}
use Rattle.std.specs.List.{list_all}
use Rattle.scc_core_spec.specs.Program.{Program, Process, Cell}
use Rattle.scc_states_laws.specs.Alike.{IsFitCode}
use Rattle.scc_core_spec.specs.Exits.{exits_within}
use Rattle.scc_core_spec.specs.Fit.{fit_code}
use Rattle.scc_core_spec.specs.IsResolved.{IsResolved, processes_apart, cells_apart, fit_cell, fit_edge, fit_reset, fit_process, keeps_inputs}
use Rattle.scc_core_resolved_laws.proofs.Bools.{and-first, and-second, all-at}
use Rattle.scc_core_resolved_laws.proofs.Fitting.{code-fits}

module _ (p : Program) (r : IsResolved p) where
  pub processes-apart : processes_apart p.processes ≡ true
  processes-apart = and-first (processes_apart p.processes) (cells_apart p.cells && (list_all (fit_cell p.processes p.cells) p.cells && (list_all (fit_process p.cells) p.processes && keeps_inputs p))) r

  more : (cells_apart p.cells && (list_all (fit_cell p.processes p.cells) p.cells && (list_all (fit_process p.cells) p.processes && keeps_inputs p))) ≡ true
  more = and-second (processes_apart p.processes) (cells_apart p.cells && (list_all (fit_cell p.processes p.cells) p.cells && (list_all (fit_process p.cells) p.processes && keeps_inputs p))) r

  pub cells-apart : cells_apart p.cells ≡ true
  cells-apart = and-first (cells_apart p.cells) (list_all (fit_cell p.processes p.cells) p.cells && (list_all (fit_process p.cells) p.processes && keeps_inputs p)) more

  rest : (list_all (fit_cell p.processes p.cells) p.cells && (list_all (fit_process p.cells) p.processes && keeps_inputs p)) ≡ true
  rest = and-second (cells_apart p.cells) (list_all (fit_cell p.processes p.cells) p.cells && (list_all (fit_process p.cells) p.processes && keeps_inputs p)) more

  pub cell-fits : (n : ℕ) (x : Cell) → slice_get p.cells n ≡ Some x → fit_cell p.processes p.cells x ≡ true
  cell-fits n x g = all-at (fit_cell p.processes p.cells) p.cells n x (and-first (list_all (fit_cell p.processes p.cells) p.cells) (list_all (fit_process p.cells) p.processes && keeps_inputs p) rest) g

  pub process-fits : (i : ℕ) (q : Process) → slice_get p.processes i ≡ Some q → fit_process p.cells q ≡ true
  process-fits i q g = all-at (fit_process p.cells) p.processes i q (and-first (list_all (fit_process p.cells) p.processes) (keeps_inputs p) (and-second (list_all (fit_cell p.processes p.cells) p.cells) (list_all (fit_process p.cells) p.processes && keeps_inputs p) rest)) g

  pub inputs-kept : keeps_inputs p ≡ true
  inputs-kept = and-second (list_all (fit_process p.cells) p.processes) (keeps_inputs p) (and-second (list_all (fit_cell p.processes p.cells) p.cells) (list_all (fit_process p.cells) p.processes && keeps_inputs p) rest)

  module _ (i : ℕ) (q : Process) (g : slice_get p.processes i ≡ Some q) where
    abbrev Clocked : Bool
    Clocked = not q.is_thread || is_some q.edge

    abbrev Body : Bool
    Body = exits_within 0 q.body && fit_code p.cells q q.body

    after-clock : (fit_edge p.cells q.edge && (fit_reset p.cells q.is_thread q.reset && Body)) ≡ true
    after-clock = and-second Clocked (fit_edge p.cells q.edge && (fit_reset p.cells q.is_thread q.reset && Body)) (process-fits i q g)

    after-edge : (fit_reset p.cells q.is_thread q.reset && Body) ≡ true
    after-edge = and-second (fit_edge p.cells q.edge) (fit_reset p.cells q.is_thread q.reset && Body) after-clock

    pub body-fits : Body ≡ true
    body-fits = and-second (fit_reset p.cells q.is_thread q.reset) Body after-edge

    pub code-fit : fit_code p.cells q q.body ≡ true
    code-fit = and-second (exits_within 0 q.body) (fit_code p.cells q q.body) body-fits

    pub has-clock : (not q.is_thread || is_some q.edge) ≡ true
    has-clock = and-first Clocked (fit_edge p.cells q.edge && (fit_reset p.cells q.is_thread q.reset && Body)) (process-fits i q g)

    pub edge-fits : fit_edge p.cells q.edge ≡ true
    edge-fits = and-first (fit_edge p.cells q.edge) (fit_reset p.cells q.is_thread q.reset && Body) after-clock

    pub reset-fits : fit_reset p.cells q.is_thread q.reset ≡ true
    reset-fits = and-first (fit_reset p.cells q.is_thread q.reset) Body after-edge

pub exits : (p : Program) (i : ℕ) (q : Process) → IsResolved p → slice_get p.processes i ≡ Some q → exits_within 0 q.body ≡ true
exits p i q r g = and-first (exits_within 0 q.body) (fit_code p.cells q q.body) (body-fits p r i q g)

pub fits : (p : Program) (i : ℕ) (q : Process) → IsResolved p → slice_get p.processes i ≡ Some q → IsFitCode q p.cells q.body
fits p i q r g = code-fits p.cells q (cells-apart p r) q.body (code-fit p r i q g)
