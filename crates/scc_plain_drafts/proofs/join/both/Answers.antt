use Rattle.std.proofs.Common.{sym, ◌∙◌, arith}
use Rattle.scc_plain_drafts.proofs.Joining.{with_wide, with_part}
use Rattle.scc_plain_drafts.proofs.join.both.Goals as goal

pub returns-then-width-gt128 : goal.returns-then-width-gt128
returns-then-width-gt128 c = λ ks p h. with_wide c.args.high c.args.low ks p (omega arith) h

pub returns-in-Some : goal.returns-in-Some
returns-in-Some c = λ ks p h. with_part c.args.high c.args.low c.in-Some.kind ks p (omega arith) (sym c.concat_kind.ensures ∙ c.in-Some.is) h
