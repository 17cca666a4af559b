use Rattle.std.proofs.Common.{◌≡◌, ◌<◌, ◌||◌, ℕ, length, drop}
use Rattle.scc_svtree_order.specs.Search.{is_seen}
use Rattle.scc_svtree.specs.Steps as steps
use Rattle.scc_svrun.proofs.inputs.clock_marks.Given as goal

abbrev pub invariant-loop-b : goal.invariant-loop-b
invariant-loop-b l = record {
  long : length l.marks.items ≡ l.n;
  marks : (v : ℕ) → v < l.n → (is_seen l.marks.items v || steps.is_clock (drop l.b-index l.blocks) v) ≡ steps.is_clock l.blocks v;
}
