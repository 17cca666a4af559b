use Rattle.std.proofs.Common.{◌≡◌, ◌≤◌, length, sym, subst, ◌∙◌}
use Rattle.scc_rules_walks.proofs.Terms.{many_other}
use Rattle.scc_rules_walks.proofs.loads.+is_load.Goals as goal

pub returns-in-len2-up : goal.returns-in-len2-up
returns-in-len2-up t c =
    sym (many_other c.args.e.now c.in-Join.parts (sym c.get.ensures.value ∙ c.in-Join.is) (subst (λ es. 2 ≤ length es) c.as_slice.ensures.elements c.in-len2-up.len_at_least))
