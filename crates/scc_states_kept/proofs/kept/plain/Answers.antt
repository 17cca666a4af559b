use Rattle.std.proofs.Common.{sym, subst, [], ◌∷◌}
use Rattle.scc_core_spec.specs.Segments.{segment_code}
use Rattle.scc_core_view.specs.Codes.{code_of}
use Rattle.scc_states_kept.specs.Walks.{Around, TellsCode, needs, nothing, nowhere}
use Rattle.scc_states_kept.proofs.Standing.{on_ok}
use Rattle.scc_states_kept.proofs.Stretches.{on_ok_under}
use Rattle.scc_states_kept.proofs.Walking.{keeps_both, told_both}
use Rattle.scc_states_kept.proofs.kept.plain.Goals as goal

pub returns : goal.returns
returns c = λ cs only rest m.
    let own = c.args.own.now in
    let code = code_of (c.args.s.now ∷ []) in
    let is = c.is_end.ensures c.if-is_end.false rest in
    on_ok_under c.before-2.result _ (λ d.
    let e = told_both own.known cs only code (segment_code rest) (subst (TellsCode own.known cs only) is d) in
    on_ok c.before-2.result (λ k. keeps_both only own cs c.before-2.new.live code (segment_code rest) _ nothing nowhere is k)
    (c.before-2.ensures.live cs only (needs cs (segment_code rest) nothing nowhere) nowhere e.0 (m e.1) (subst (λ xs. Around only own xs nowhere) (sym c.new-behind.ensures.items) tt)))
