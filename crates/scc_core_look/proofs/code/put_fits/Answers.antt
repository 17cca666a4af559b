use Rattle.std.proofs.Common.{◌≡◌}
use Rattle.scc_core_look.proofs.Good.{put_told}
use Rattle.scc_core_look.proofs.code.put_fits.Goals as goal

pub returns : goal.returns
returns c = λ e ground.
    put_told c.args.g.now c.args.left.now c.args.value.now c.put_test.result c.in_ok-to.to c.in_ok-at.at c.in_ok-put.put c.both.result c.both-2.result
    c.put_test.ensures (λ f. c.in_ok-to.ensures f ground) (λ f. c.in_ok-at.ensures f ground) (λ f. c.in_ok-put.ensures f ground) c.both.ensures c.both-2.ensures e
