use Rattle.std.proofs.Common.{◌≡◌, map, take}
use Rattle.scc_states_sum.specs.Told.{numbers_in}
use Rattle.scc_states_sum.specs.Elements.{cut, total}
use Rattle.scc_states_sum.specs.Live.{statement_elements}
use Rattle.scc_states_sum.proofs.sum.+whole_sum.Given as goal

abbrev pub invariant-each-loop-s : goal.invariant-each-loop-s
invariant-each-loop-s l = l.all ≡ cut (total (map (statement_elements (numbers_in l.known)) (take l.s-index l.body)))
