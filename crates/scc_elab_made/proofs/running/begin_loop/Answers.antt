use Rattle.std.proofs.Common.{refl}
use Rattle.scc_elab_made.proofs.Stepping.{puts_loop}
use Rattle.scc_elab_made.proofs.running.begin_loop.Goals as goal

pub returns : goal.returns
returns c d = puts_loop c.push.result c.args.works.now.items c.push.new.items.items (record { at = c.in_ok-at.at; left = 65537; place = c.args.place; test = c.parts_of-parts.result.test; body = c.parts_of-parts.result.turn }) c.args.at.now c.args.place d c.args.body.now
    c.push.ensures.ok c.in_ok-at.ensures refl refl c.parts_of-parts.ensures
