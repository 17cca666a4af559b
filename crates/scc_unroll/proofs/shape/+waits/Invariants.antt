use Rattle.std.proofs.Common.{◌≡◌, ◌||◌, drop}
use Rattle.scc_core_spec.specs.Code.{holds_wait}
use Rattle.scc_core_view.specs.Codes.{code_of}
use Rattle.scc_unroll.proofs.shape.+waits.Given as goal

abbrev pub invariant-holds_wait-loop-s : goal.invariant-holds_wait-loop-s
invariant-holds_wait-loop-s l = (l.found || holds_wait (code_of (drop l.s-index l.body))) ≡ holds_wait (code_of l.body)
