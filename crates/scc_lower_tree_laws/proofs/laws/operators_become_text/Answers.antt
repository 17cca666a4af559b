use Rattle.scc_lower_tree_laws.proofs.Expressions.{lowering-literal, lowering-known, lowering-convert, lowering-alone, lowering-two, lowering-choice}
use Rattle.scc_lower_tree_laws.proofs.laws.operators_become_text.Goals as goal

pub returns : goal.returns
returns c = record {
  literals = λ g e a w n q k b. lowering-literal g e a w n q k b;
  known = λ g e a n v. lowering-known g e a n v;
  conversions = λ g e f a b o q h. lowering-convert g e f a b o q h;
  one = λ g e f op a b o out q m h. lowering-alone g e f op a b o out q m h;
  two = λ g e f r op a b c o p out q m h k. lowering-two g e f r op a b c o p out q m h k;
  choices = λ g e t f r a b c d o p q is h k l. lowering-choice g e t f r a b c d o p q is h k l;
}
