use Rattle.scc_lower_tree_laws.proofs.Opening.{keeping-index, opening-none, opening-more}
use Rattle.scc_lower_tree_laws.proofs.laws.indices_are_kept.Goals as goal

pub returns : goal.returns
returns c = record {
  one = λ g e o a b c v h k. keeping-index g e o a b c v h k;
  none = λ g a. opening-none g a;
  more = λ g cs x a b c os o h e f i. opening-more g cs x a b c os o h e f i;
}
