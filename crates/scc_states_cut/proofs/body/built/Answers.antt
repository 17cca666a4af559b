use Rattle.std.proofs.Common.{◌≡◌, refl, ap, subst, ◌∙◌, ◌++◌, [], map}
use Rattle.std.proofs.lemmas.Result.{err_from_is_err_and}
use Rattle.scc_core_spec.specs.Split.{most_statements, stood_in}
use Rattle.scc_states_segments.specs.Behind.{behind_waits}
use Rattle.scc_states_segments.specs.Frames.{from, scene}
use Rattle.scc_states_cut.specs.Cut.{Counts, segment_of}
use Rattle.scc_states_cut.proofs.Refusing.{nothing_past, past_behind, past_end}
use Rattle.scc_states_cut.proofs.body.built.Goals as goal

pub returns-in_err-cuts : goal.returns-in_err-cuts
returns-in_err-cuts c =
    let x = from c.args.parts.now (scene []) in
    let xs = behind_waits c.args.parts.now (scene []) in
    let reset = subst (λ fs. Counts c.new-count.result c.unfolded.new.count (stood_in 1 (from c.args.parts.now (scene fs)))) c.new-none.ensures.empty c.in_ok-reset.ensures.1 in
    let p = err_from_is_err_and c.from_residual-in_err-cuts.result c.from_residual-in_err-cuts.ensures.1 in
    rw (p.1, p.2) (past_behind most_statements x xs c.new-count.result c.unfolded.new.count c.cuts.new.count c.new-count.ensures c.in_err-cuts.field-0.0 reset c.in_err-cuts.ensures)

pub returns-in_err-within : goal.returns-in_err-within
returns-in_err-within c =
    let x = from c.args.parts.now (scene []) in
    let xs = behind_waits c.args.parts.now (scene []) in
    let reset = subst (λ fs. Counts c.new-count.result c.unfolded.new.count (stood_in 1 (from c.args.parts.now (scene fs)))) c.new-none.ensures.empty c.in_ok-reset.ensures.1 in
    let p = err_from_is_err_and c.from_residual-in_err-within.result c.from_residual-in_err-within.ensures.1 in
    rw (p.1, p.2) (past_end most_statements x xs c.new-count.result c.unfolded.new.count c.cuts.new.count c.new-count.ensures c.in_err-within.field-0.0 reset c.in_ok-cuts.ensures.1 c.in_err-within.ensures)

pub returns : goal.returns
returns c =
    let x = from c.args.parts.now (scene []) in
    let xs = behind_waits c.args.parts.now (scene []) in
    let ns = c.as_slice-counts.result.now in
    let same = c.as_slice-counts.ensures.elements in
    let first = subst (λ fs. segment_of ns c.in_ok-reset.reset ≡ from c.args.parts.now (scene fs)) c.new-none.ensures.empty c.in_ok-reset.ensures.0 in
    let reset = subst (λ fs. Counts c.new-count.result c.unfolded.new.count (stood_in 1 (from c.args.parts.now (scene fs)))) c.new-none.ensures.empty c.in_ok-reset.ensures.1 in
    record {
      counts = refl;
      reset = subst (λ l. segment_of l c.in_ok-reset.reset ≡ x) same first;
      segments = subst (λ l. map (segment_of l) c.cuts.new.out ≡ xs) same (c.in_ok-cuts.ensures.0 ∙ ap (λ l. map (segment_of ns) l ++ xs) c.new-segments.ensures.empty);
      fits = nothing_past most_statements x xs c.new-count.result c.unfolded.new.count c.cuts.new.count c.new-count.ensures reset c.in_ok-cuts.ensures.1 c.in_ok-within.ensures;
    }
