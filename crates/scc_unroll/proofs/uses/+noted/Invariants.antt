use Rattle.std.proofs.Common.{◌≡◌, ℕ, ◌+◌, drop, map}
use Rattle.scc_core_spec.specs.Counted.{uses}
use Rattle.scc_core_view.specs.Codes.{code_of}
use Rattle.scc_core_view.specs.Programs.{cell_of}
use Rattle.scc_unroll.specs.Used.{used}
use Rattle.scc_unroll.proofs.uses.+noted.Given as goal

abbrev pub invariant-note_all-loop-s : goal.invariant-note_all-loop-s
invariant-note_all-loop-s l = (o : ℕ) → used l.uses o + uses (map cell_of l.cells) o (code_of (drop l.s-index l.body)) ≡ used l.initial.uses o + uses (map cell_of l.cells) o (code_of l.body)
