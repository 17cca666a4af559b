use Rattle.std.proofs.Common.{sym, ◌∙◌, map}
use Rattle.scc_elab_works.specs.Works.{at_in}
use Rattle.scc_elab_made.proofs.Belonging.{direct_puts, pointer_puts}
use Rattle.scc_elab_made.proofs.members.put_member.Goals as goal

pub returns-then-is_direct : goal.returns-then-is_direct
returns-then-is_direct c = λ number list e. direct_puts (at_in c.args.at.now) c.args.k.now number list (map (λ t. t.now) c.args.tails.now) e c.args.works.now.items c.put_direct.new.works.items c.put_direct.result (sym c.is_direct.ensures ∙ c.if-is_direct.true) (c.put_direct.ensures number list e)

pub returns-else-is_direct : goal.returns-else-is_direct
returns-else-is_direct c = λ number list e. pointer_puts (at_in c.args.at.now) c.args.k.now number list (map (λ t. t.now) c.args.tails.now) e c.args.works.now.items c.put_empty.new.works.items c.put_empty.result (sym c.is_direct.ensures ∙ c.if-is_direct.false) c.put_empty.ensures
