use Rattle.std.proofs.Common.{◌≡◌, ◌++◌, drop}
use Rattle.scc_core_spec.specs.Uses.{acts}
use Rattle.scc_core_view.specs.Codes.{code_of}
use Rattle.scc_rules_walks.specs.Acts.{acts_in}
use Rattle.scc_rules_walks.proofs.acts.+acts.Given as goal

abbrev pub invariant-add_all-loop-s : goal.invariant-add_all-loop-s
invariant-add_all-loop-s l = acts_in l.out.items ++ acts (code_of (drop l.s-index l.body)) ≡ acts_in l.initial.out.items ++ acts (code_of l.body)
