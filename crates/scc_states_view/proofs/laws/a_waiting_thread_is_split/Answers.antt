use Rattle.std.specs.Prelude.{true, [], ◌∷◌}
use Rattle.std.proofs.Common.{refl, ap, ◌∙◌}
use Rattle.scc_core_spec.specs.Segments.{Segment, Halt, Finish}
use Rattle.scc_core_spec.specs.Worked.{here, process}
use Rattle.scc_blocks_spec.specs.Passed.{Thread}
use Rattle.scc_states_cut.specs.Cut.{stmt_segment}
use Rattle.scc_states_view.specs.Worked.{waiting_body, waits_at}
use Rattle.scc_states_view.proofs.Statements.{wait_stands}
use Rattle.scc_states_view.proofs.laws.a_waiting_thread_is_split.Goals as goal

abbrev cut : Segment → Segment → Thread
cut a b = record { segments = a ∷ b ∷ b ∷ []; waits = 1 ∷ 2 ∷ []; kept = [] }

pub returns : goal.returns
returns c = record {
  process = process true [] waiting_body;
  stands = refl;
  same = ap (λ a. cut a (stmt_segment (1 ∷ 2 ∷ []) (waits_at 1) Finish)) (wait_stands (1 ∷ 2 ∷ []) here 0 Finish)
      ∙ ap (λ b. cut (Halt here 0 1) b) (wait_stands (1 ∷ 2 ∷ []) here 1 Finish);
}
