use Rattle.std.proofs.Common.{◌≡◌, sym, ap, subst, ◌∙◌, ◌++◌, [], map, None}
use Rattle.std.proofs.lemmas.Result.{err_from_is_err_and}
use Rattle.scc_core_spec.specs.Code.{numbered}
use Rattle.scc_core_spec.specs.Rules.{waits}
use Rattle.scc_core_spec.specs.Segments.{all_segments, counts}
use Rattle.scc_core_view.specs.Codes.{code_of}
use Rattle.scc_states_segments.specs.Behind.{behind_waits}
use Rattle.scc_states_segments.specs.Frames.{from, scene}
use Rattle.scc_states_segments.specs.Parts.{walk_of}
use Rattle.scc_states_cut.specs.Limits.{IsBuilt, Stops, too_many, too_large}
use Rattle.scc_states_cut.proofs.Refusing.{both_parts, counts_numbered, stops_first, whole_cut}
use Rattle.scc_states_cut.proofs.body.cut_body.Goals as goal

pub returns-in_err-few : goal.returns-in_err-few
returns-in_err-few c =
    let code = code_of c.args.body.now in
    let places = c.in_ok-halts.ensures.places ∙ ap (λ l. map (λ h. h.place) l ++ waits code) c.new-waits.ensures.empty in
    let e = c.in_err-few.field-0.0 in
    let p = err_from_is_err_and c.from_residual-in_err-few.result c.from_residual-in_err-few.ensures.1 in
    rw (p.1, p.2) (stops_first (too_many (waits code)) (too_large (all_segments (numbered 0 code))) e (subst (λ ps. Stops (too_many ps) e) places c.in_err-few.ensures))

pub returns : goal.returns
returns c =
    let code = code_of c.args.body.now in
    let parts = c.in_ok-parts.parts in
    let places = c.in_ok-halts.ensures.places ∙ ap (λ l. map (λ h. h.place) l ++ waits code) c.new-waits.ensures.empty in
    let number = c.in_ok-counts.ensures ∙ ap (map (λ h. h.count)) c.as_slice.ensures.elements ∙ c.in_ok-halts.ensures.counts
    ∙ ap (λ l. map (λ h. h.count) l ++ counts code) c.new-waits.ensures.empty ∙ sym (counts_numbered 0 code) in
    whole_cut code c.in_ok-counts.counts (from parts (scene [])) (behind_waits parts (scene [])) c.built.result
    (both_parts (walk_of parts) (numbered 0 code) c.in_ok-parts.ensures.parts) number (subst (λ ps. too_many ps ≡ None) places c.in_ok-few.ensures)
    (subst (λ ps. IsBuilt c.in_ok-counts.counts (from ps (scene [])) (behind_waits ps (scene [])) c.built.result) c.as_slice-2.ensures.elements c.built.ensures)
