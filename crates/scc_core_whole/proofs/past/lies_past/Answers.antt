use Rattle.std.proofs.Common.{◌≡◌, ◌∙◌, [], map, ap, sym}
use Rattle.scc_core.specs.Statics.{static_of}
use Rattle.scc_core_spec.specs.Fold.{static_index}
use Rattle.scc_core_view.specs.Programs.{cell_of}
use Rattle.scc_core_view.specs.Terms.{term_of}
use Rattle.scc_core_static_laws.proofs.Indices.{index_found}
use Rattle.scc_core_whole.proofs.Finding.{found_past}
use Rattle.scc_core_whole.proofs.past.lies_past.Goals as goal

pub returns-in-Some : goal.returns-in-Some
unfolding static_of
returns-in-Some c = λ e h w.
    found_past c.args.bound _ c.in-Some.v (static_index (map cell_of c.args.cells.now) [] (term_of c.args.e.now)) c.ranges.bound.fits
    (ap (λ cells. static_of cells c.args.e.now) (sym c.alone.ensures.cells) ∙ (sym (c.value.ensures.value c.alone.ensures.alone) ∙ c.in-Some.is))
    (index_found c.args.cells.now (λ x. c.static_values_are_those_of_terms.ensures c.args.cells.now x h) [] c.args.e.now w)
    (sym c.reaches.ensures ∙ e)
