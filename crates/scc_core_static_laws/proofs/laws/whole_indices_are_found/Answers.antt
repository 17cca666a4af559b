use Rattle.std.proofs.Common.{sym, subst, [], map}
use Rattle.scc_core.specs.Known.{facts_in}
use Rattle.scc_core.specs.Statics.{facts_of}
use Rattle.scc_core_spec.specs.Fold.{static_index}
use Rattle.scc_core_view.specs.Programs.{cell_of}
use Rattle.scc_core_view.specs.Terms.{term_of}
use Rattle.scc_core_static_laws.specs.Indices.{Finds}
use Rattle.scc_core_static_laws.proofs.Indices.{index_found}
use Rattle.scc_core_static_laws.proofs.Known.{facts_agree}
use Rattle.scc_core_static_laws.proofs.Values.{values_same}
use Rattle.scc_core_static_laws.proofs.Wholes.{whole_reads}
use Rattle.scc_core_static_laws.proofs.laws.whole_indices_are_found.Goals as goal

pub returns : goal.returns
returns c = λ known cells vectors e k h w.
    subst (λ v. Finds v (static_index (map cell_of cells) vectors (term_of e))) (sym (values_same (facts_in known) (facts_of cells) (facts_agree known cells [] k) (whole_reads cells [] tt w)))
    (index_found cells (λ x. c.static_values_are_those_of_terms.ensures cells x h) vectors e w)
