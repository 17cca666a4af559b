use Rattle.scc_plain_view.specs.Codes.{code_of}
use Rattle.scc_elab_works.specs.Works.{at_in}
use Rattle.scc_elab_made.proofs.Belonging.{none_left, one_left, all_left}
use Rattle.scc_elab_made.proofs.members.put_each.Goals as goal

pub loop-i-init : goal.loop-i-init
loop-i-init c = λ list g before shut. none_left (at_in c.args.at.now) c.args.members.now (code_of list) before c.args.works.now.items shut

pub loop-i-preserved : goal.loop-i-preserved
loop-i-preserved c = λ list g before shut. one_left (at_in c.args.at.now) c.args.members.now (code_of list) before c.loop-i.i c.in_ok-member.member.0 c.in_ok-member.member.1.now c.loop-i.works.items c.put_one.new.works.items c.loop-i-test.true
    c.in_ok-member.ensures.0 c.in_ok-member.ensures.1 (c.loop-i.invariant list g before shut) (c.in_ok-put_one.ensures list g)

pub returns : goal.returns
returns c = λ list g before shut p x. all_left (at_in c.args.at.now) c.args.members.now (code_of list) before c.loop-i.i c.loop-i.works.items c.loop-i-test.false (c.loop-i.invariant list g before shut) p x
