use Rattle.scc_states_kept.proofs.Walking.{whole_put, whole_if, whole_block, whole_loop, whole_aim}
use Rattle.scc_states_kept.proofs.kept.is_end.Goals as goal

pub returns-in-Assign : goal.returns-in-Assign
returns-in-Assign c = λ h rest. whole_put c.args.s.now c.in-Assign.left c.in-Assign.value c.in-Assign.is rest

pub returns-in-If : goal.returns-in-If
returns-in-If c = λ h rest. whole_if c.args.s.now c.in-If.test c.in-If.yes c.in-If.no c.in-If.is rest

pub returns-in-Block : goal.returns-in-Block
returns-in-Block c = λ h rest. whole_block c.args.s.now c.in-Block._body c.in-Block.is rest

pub returns-in-Loop : goal.returns-in-Loop
returns-in-Loop c = λ h rest. whole_loop c.args.s.now c.in-Loop.count c.in-Loop.body c.in-Loop.is rest

pub returns-in-Alias : goal.returns-in-Alias
returns-in-Alias c = λ h rest. whole_aim c.args.s.now c.in-Alias.to c.in-Alias.target c.in-Alias.is rest
