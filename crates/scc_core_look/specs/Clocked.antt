-- What is asked of a process of a core without pointers but for its expressions and names. This project's own.
use Rattle.std.specs.Prelude.{◌≡◌, Bool, true, ◌&&◌, ◌||◌, not, is_some}
use Rattle.scc_core_spec.specs.Exits.{exits_within}
use Rattle.scc_core_spec.specs.IsResolved.{fit_edge, fit_reset}
use Rattle.scc_core_spec.specs.Program.{Process}
use Rattle.scc_core_spec.specs.Static.{Cells}

-- a thread has a clock; clocks and resets are signals or ports of the top, and a method has no reset; exits leave blocks around them
abbrev pub is_clocked : Cells → Process → Bool
is_clocked cs q = (not q.is_thread || is_some q.edge) && (fit_edge cs q.edge && (fit_reset cs q.is_thread q.reset && exits_within 0 q.body))

abbrev pub IsClocked : Cells → Process → Type 0
IsClocked cs q = is_clocked cs q ≡ true
