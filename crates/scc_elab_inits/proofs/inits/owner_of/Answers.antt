use Rattle.std.proofs.Common.{◌∙◌, sym}
use Rattle.scc_elab_spec.specs.Inits.{owner}
use Rattle.scc_plain_view.specs.Codes.{code_of}
use Rattle.scc_elab_inits.proofs.Owning.{own_goes}
use Rattle.scc_elab_inits.proofs.inits.owner_of.Goals as goal

pub loop-i-preserved : goal.loop-i-preserved
loop-i-preserved c = own_goes (owner (code_of c.args.list.now)) c.loop-i.i c.from.result.now c.args.list.now c.own_of_first-member.result c.own_of_first-member.ensures c.from.ensures c.loop-i.invariant (sym c.is_some.ensures ∙ c.if-is_some.false)
