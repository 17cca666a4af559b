use Rattle.std.proofs.Common.{None, arith}
use Rattle.scc_templates_scopes.proofs.Chained.{wider, adds_bounds}
use Rattle.scc_templates_scopes.proofs.chain.Reach.or.Goals as goal

pub returns-then-other-self-clause-second : goal.returns-then-other-self-clause-second
returns-then-other-self-clause-second c = wider c.args.other c.args.self (λ l. let a = adds_bounds c.args.other l in let b = adds_bounds c.args.self l in omega arith)

pub returns-then-self-other-clause-first : goal.returns-then-self-other-clause-first
returns-then-self-other-clause-first c = wider c.args.self c.args.other (λ l. let a = adds_bounds c.args.other l in let b = adds_bounds c.args.self l in omega arith)

pub returns-else-is_same-clause-first : goal.returns-else-is_same-clause-first
returns-else-is_same-clause-first c = wider c.args.self (record { most = c.args.self.most; first = None }) (λ l. let a = adds_bounds c.args.self l in omega arith)

pub returns-else-is_same-clause-second : goal.returns-else-is_same-clause-second
returns-else-is_same-clause-second c = wider c.args.other (record { most = c.args.self.most; first = None }) (λ l. let a = adds_bounds c.args.other l in omega arith)
