use Rattle.std.proofs.Common.{sym, ap, ◌∙◌}
use Rattle.scc_core_view.specs.Programs.{process_of}
use Rattle.scc_rules_laws.specs.Found.{first_along}
use Rattle.scc_rules_walks.specs.Cells.{has_flag}
use Rattle.scc_rules.specs.Marks.{HasSame, root_cell, seen_all, unlisted_by}
use Rattle.std.specs.Prelude.{map}
use Rattle.scc_rules.proofs.Firsts.{each_ok}
use Rattle.scc_rules.proofs.Senses.{senses_found}
use Rattle.scc_rules.proofs.clock.missing_sensitivity.Goals as goal

pub returns-clause-first : goal.returns-clause-first
returns-clause-first c = λ p h.
    let f = c.args.f.now in
    let roots = c.as_slice-4.result.now in
    let same : HasSame c.in_ok-unlisted.unlisted.items roots = λ n. ap (λ s. has_flag s n) (c.in_ok-unlisted.ensures ∙ ap (map root_cell) (c.as_slice-2.ensures.elements ∙ sym c.as_slice.ensures.elements) ∙ sym c.in_ok-roots.ensures ∙ sym c.as_slice-4.ensures.value) in
    each_ok _ _ c.first_missing.result (c.first_missing.ensures.first same)
    (λ found e. e ∙ ap (λ ps. first_along (λ q. unlisted_by (has_flag roots) (process_of q)) ps (seen_all f)) c.as_slice-3.ensures.elements
    ∙ senses_found f p roots h (c.as_slice-4.ensures.value ∙ c.in_ok-roots.ensures ∙ ap (map root_cell) c.as_slice.ensures.elements))
