use Rattle.std.proofs.Common.{◌≡◌, ◌∙◌}
use Rattle.indexmap.specs.IndexMap.{insert_entry}
use Rattle.scc_core.specs.contracts.places.BranchPartialEq.TheImpl as branch_equal
use Rattle.scc_core.proofs.Trees.{inserted}
use Rattle.scc_core.proofs.places.Places.branch.Goals as goal

pub returns-clause-grows : goal.returns-clause-grows
returns-clause-grows c = λ none. record {
  entries = c.in_ok-insert.ensures.entries ∙ (λ i. insert_entry branch_equal.eq-value.it (c.in_ok-number.ensures.branches i).entries c.args.branch (c.in_ok-number.ensures.number i)) ∙ inserted c.args.self.now c.args.branch _ none;
  named = c.in_ok-number.ensures.named;
}
