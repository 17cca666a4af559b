use Rattle.scc_lower_tree_laws.proofs.Trees.{reads-cell, reads-one, reads-halves, reads-all}
use Rattle.scc_lower_tree_laws.proofs.laws.elements_are_read_as_they_are_seen.Goals as goal

pub returns : goal.returns
returns c = record {
  cells = λ g views n h l t e. reads-cell g views n h l t e;
  one = λ g views o os first low at h l t e f. reads-one g views o os first low at h l t e f;
  halves = λ g views o os first low middle high h l t u p q f k. reads-halves g views o os first low middle high h l t u p q f k;
  all = λ g views o os first high h l t e f. reads-all g views o os first high h l t e f;
}
