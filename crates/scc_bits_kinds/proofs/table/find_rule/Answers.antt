use Rattle.std.proofs.Common.{refl}
use Rattle.scc_bits_kinds.proofs.EveryRow.{rule_is}
use Rattle.scc_bits_kinds.proofs.table.find_rule.Goals as goal

pub returns : goal.returns
returns c = rule_is _ c.args.op c.args.left c.args.right c.find_row.result refl c.find_row.ensures
