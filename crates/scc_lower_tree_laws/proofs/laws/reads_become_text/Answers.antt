use Rattle.scc_lower_tree_laws.proofs.Nodes.{lowering-load, lowering-read, lowering-pick, lowering-join}
use Rattle.scc_lower_tree_laws.proofs.Opening.{lowering-none, lowering-more}
use Rattle.scc_lower_tree_laws.proofs.laws.reads_become_text.Goals as goal

pub returns : goal.returns
returns c = record {
  loads = λ g e l a b t q h. lowering-load g e l a b t q h;
  reads = λ g e l a b t q h. lowering-read g e l a b t q h;
  picks = λ g e f q a b t at h. lowering-pick g e f q a b t at h;
  joins = λ g e es a b os t q is h. lowering-join g e es a b os t q is h;
  no_parts = λ g a. lowering-none g a;
  more_parts = λ g es e a b c os o h i. lowering-more g es e a b c os o h i;
}
