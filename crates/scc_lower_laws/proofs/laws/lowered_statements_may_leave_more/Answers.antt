use Rattle.scc_lower_laws.proofs.Statements.{skips-end, skips-then, wider}
use Rattle.scc_lower_laws.proofs.laws.lowered_statements_may_leave_more.Goals as goal

pub returns : goal.returns
returns c = record {
  end = λ s width. skips-end s width;
  parts = λ s width f d p q. skips-then s width f d p q;
  more = λ s width depth to top out more f code l u h. wider s width depth to top out more f code l u h;
}
