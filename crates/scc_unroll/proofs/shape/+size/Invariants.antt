use Rattle.std.proofs.Common.{◌≡◌, ◌+◌, drop}
use Rattle.scc_core_spec.specs.Code.{size}
use Rattle.scc_core_view.specs.Codes.{code_of}
use Rattle.scc_unroll.proofs.shape.+size.Given as goal

abbrev pub invariant-size_of-loop-s : goal.invariant-size_of-loop-s
invariant-size_of-loop-s l = l.sum + size (code_of (drop l.s-index l.body)) ≡ size (code_of l.body)
