-- A thread that only waits, worked by hand: `wait(); while (true) wait(2);`. Its split has no statement but waits. This project's own.
use Rattle.std.specs.Prelude.{ℕ, true, [], ◌∷◌}
use Rattle.scc_states_cut.specs.declared.types.SegStmt.{SegStmt}
use Rattle.scc_states_cut.specs.declared.types.SegNode.TheVariants as node
use Rattle.scc_states.specs.declared.types.Split.{Split}
use Rattle.scc_core_spec.specs.Code.{Code, End, Block, Wait}
use Rattle.scc_core_spec.specs.Program.{Program}
use Rattle.scc_core_spec.specs.Worked.{here, process, forever}

abbrev pub waiting_body : Code
waiting_body = Block here (Wait here 0 1 (forever (Wait here 0 2 End) End)) End

abbrev pub waiting : Program
waiting = record { top = 8; cells = []; vectors = []; processes = process true [] waiting_body ∷ [] }

abbrev pub waits_at : ℕ → SegStmt
waits_at n = record { place = here; node = node.Wait n }

abbrev pub waiting_split : Split
waiting_split = record {
  waits = 1 ∷ 2 ∷ [];
  reset = waits_at 0 ∷ [];
  segments = (waits_at 1 ∷ []) ∷ (waits_at 1 ∷ []) ∷ [];
  kept = [];
}
