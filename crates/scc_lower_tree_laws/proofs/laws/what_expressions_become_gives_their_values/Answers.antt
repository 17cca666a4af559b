use Rattle.std.proofs.Common.{length}
use Rattle.scc_core_view.specs.Terms.{term_of}
use Rattle.scc_lower_laws.proofs.Frames.{lowers-is}
use Rattle.scc_lower_tree_laws.proofs.laws.what_expressions_become_gives_their_values.Goals as goal

pub returns : goal.returns
returns c = λ g e a b o h s width sees agrees sound small. lowers-is s width (length a.temporaries) (length b.temporaries) (term_of e) h.leaves.front o sees.number small (h.lowers s width sees agrees sound)
