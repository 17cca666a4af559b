-- What is left to ask of a core whose pointers are resolved. This project's own.
use Rattle.std.specs.Prelude.{Bool, ◌&&◌}
use Rattle.std.specs.List.{list_all}
use Rattle.scc_core_spec.specs.Fit.{fit_code}
use Rattle.scc_core_spec.specs.IsResolved.{keeps_inputs}
use Rattle.scc_core_spec.specs.Program.{Program}

-- its statements fit, and none writes an input of the top
abbrev pub statements_fit : Program → Bool
statements_fit p = list_all (λ q. fit_code p.cells q q.body) p.processes && keeps_inputs p
