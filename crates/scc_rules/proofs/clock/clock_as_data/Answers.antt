use Rattle.std.proofs.Common.{◌≡◌, ℕ, ◌||◌, sym, ap, ◌∙◌}
use Rattle.scc_core_spec.specs.Uses.{among}
use Rattle.scc_core_view.specs.Programs.{process_of}
use Rattle.scc_rules_laws.specs.Found.{clock_used, first_along}
use Rattle.scc_rules_walks.specs.Cells.{has_flag}
use Rattle.scc_rules.specs.Marks.{clocks_in, seen_all}
use Rattle.scc_rules.proofs.Clocks.{clocks_found, or_nothing}
use Rattle.scc_rules.proofs.Firsts.{each_ok}
use Rattle.scc_rules.proofs.clock.clock_as_data.Goals as goal

pub returns-clause-first : goal.returns-clause-first
returns-clause-first c = λ p h.
    let f = c.args.f.now in
    let set = c.as_slice-3.result.now in
    let told : (n : ℕ) → has_flag set n ≡ among n (clocks_in f.core.now.processes)
    = λ n. ap (λ s. has_flag s n) c.as_slice-3.ensures.value ∙ c.in_ok-add_clocks.ensures n
    ∙ (λ i. among n (clocks_in (c.as_slice.ensures.elements i)) || c.in_ok-clocks.ensures n i) ∙ or_nothing (among n (clocks_in f.core.now.processes)) in
    each_ok _ _ c.first_clock.result c.first_clock.ensures.first
    (λ found e. e ∙ ap (λ ps. first_along (λ q. clock_used (has_flag set) (process_of q)) ps (seen_all f)) c.as_slice-2.ensures.elements ∙ clocks_found f p set h told)
