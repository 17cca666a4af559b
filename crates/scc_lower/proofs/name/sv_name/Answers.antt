use Rattle.std.proofs.Common.{rules, sym}
use Rattle.scc_lower.proofs.Located.{name-located}
use Rattle.scc_lower.proofs.name.sv_name.Goals as goal

pub returns-clause-location : goal.returns-clause-location
returns-clause-location c = λ d h. rw (sym (name-located c.args.names.now d c.args.n.now h)) (search rules)
