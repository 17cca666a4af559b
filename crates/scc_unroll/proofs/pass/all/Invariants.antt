use Rattle.std.proofs.Common.{◌≡◌, map, None}
use Rattle.scc_core_spec.specs.First.{first_of}
use Rattle.scc_core_spec.specs.Unrolled.{first_unrolled, with_body}
use Rattle.scc_core_view.specs.Programs.{cell_of, process_of}
use Rattle.scc_unroll.specs.Unrolled.{body_of, head_of}
use Rattle.scc_unroll_asked.specs.Cores.{AreBodies}
use Rattle.scc_unroll_asked.specs.Copied.{HaveCopies}
use Rattle.scc_unroll.proofs.pass.all.Given as goal

abbrev pub invariant-loop-p : goal.invariant-loop-p
invariant-loop-p l =
    (map head_of l.out ≡ map head_of l.yielded)
    × (AreBodies l.known l.fn.processes → first_of (first_unrolled (map cell_of l.known.cells.now)) (map process_of l.yielded) ≡ None)
    × (AreBodies l.known l.fn.processes → map process_of l.out ≡ map (with_body (body_of (map cell_of l.known.cells.now))) (map process_of l.yielded))
    × HaveCopies l.known.cells.now l.yielded l.out
