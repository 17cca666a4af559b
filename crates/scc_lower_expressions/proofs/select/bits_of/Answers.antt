use Rattle.scc_lower_expressions.proofs.Reading.{whole_part}
use Rattle.scc_lower_expressions.proofs.select.bits_of.Goals as goal

pub returns-then-are_all : goal.returns-then-are_all
returns-then-are_all c =
    whole_part c.args.v.kind c.kind-kind.result c.width-all.result c.word-word.result.bits c.args.v.word c.args.bits.h c.args.bits.l c.kind-kind.ensures.kind c.kind-kind.ensures.valid c.width-all.ensures c.word-word.ensures.word c.word-word.ensures.fits c.are_all.result c.are_all.ensures c.if-are_all.true
