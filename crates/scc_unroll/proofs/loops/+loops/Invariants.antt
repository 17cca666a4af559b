use Rattle.std.proofs.Common.{◌≡◌, ◌||◌, drop}
use Rattle.scc_unroll_laws.specs.Heads.{has_loops}
use Rattle.scc_core_view.specs.Codes.{code_of}
use Rattle.scc_unroll.proofs.loops.+loops.Given as goal

abbrev pub invariant-has_loops-loop-s : goal.invariant-has_loops-loop-s
invariant-has_loops-loop-s l = (l.found || has_loops (code_of (drop l.s-index l.body))) ≡ has_loops (code_of l.body)
