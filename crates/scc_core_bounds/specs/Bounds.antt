-- The bound on the steps of a process, as far as a number of 64 bits goes. This project's own.
use Rattle.std.specs.Prelude.{ℕ, ◌+◌, ◌*◌, ◌-◌, ◌^◌, min, max, Bool, true, false, ◌||◌}
use Rattle.scc_core.specs.declared.program.CoreProcess.{CoreProcess}
use Rattle.scc_core_spec.specs.Code.{Code, size, holds_wait}
use Rattle.scc_core_spec.specs.Sizes.{loops_deep, bound}
use Rattle.scc_core_view.specs.Codes.{code_of}
use Rattle.scc_core_bounds.specs.declared.sizes.Size.{Size}

-- the greatest number of 64 bits
abbrev pub most : ℕ
most = 2 ^ 64 - 1

abbrev pub measured : Code → Size
measured c = record { statements = min (size c) most; loops = min (loops_deep c) most; waits = holds_wait c }

-- sizes side by side
abbrev pub beside : Size → Size → Size
beside a b = record { statements = min (a.statements + b.statements) most; loops = max a.loops b.loops; waits = a.waits || b.waits }

-- a statement around a size
abbrev pub wrapped : Size → Size
wrapped a = record { statements = min (a.statements + 1) most; loops = a.loops; waits = a.waits }

-- a loop that holds a wait is one deeper
abbrev pub deeper : ℕ → Bool → ℕ
deeper n true = min (n + 1) most
deeper n false = n

abbrev pub looped : Size → Size
looped a = record { statements = min (a.statements + 1) most; loops = deeper a.loops a.waits; waits = a.waits }

-- the bound on the steps of a resume
abbrev pub steps : Code → ℕ
steps c = min (bound c) most

abbrev pub steps_of : CoreProcess → ℕ
steps_of p = steps (code_of p.body)
