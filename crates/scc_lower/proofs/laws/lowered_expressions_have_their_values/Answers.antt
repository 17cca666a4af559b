use Rattle.std.proofs.Common.{length, sym, subst}
use Rattle.scc_core_view.specs.Terms as core
use Rattle.scc_svtree.specs.Term as emitted
use Rattle.scc_blocks_spec.specs.Lowered.{IsLoweredTerm}
use Rattle.scc_lower_laws.proofs.Frames.{lowers-is}
use Rattle.scc_lower_expressions.specs.Becoming.{state_of}
use Rattle.scc_lower.proofs.laws.lowered_expressions_have_their_values.Goals as goal

pub returns : goal.returns
returns c = λ cs e old t new h s width sees agrees sound small.
    let k = h.becomes in
    let P : emitted.Term → Type 0 = λ u. IsLoweredTerm s width (core.term_of e) k.leaves.front u in
    subst P (sym h.text) (lowers-is s width (length (state_of old).temporaries) (length (state_of new).temporaries) (core.term_of e) k.leaves.front h.outcome sees.number small (k.lowers s width sees agrees sound))
