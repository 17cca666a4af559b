use Rattle.scc_plain_view.specs.Plains.{plain_of}
use Rattle.scc_elab_top.proofs.Tops.{top_goes, top_stops}
use Rattle.scc_elab_top.proofs.calls.from_top.Goals as goal

pub returns-in-Ok : goal.returns-in-Ok
returns-in-Ok c = top_goes c.args.many (plain_of c.args.p.now) c.args.p.now.classes c.args.p.now.top c.args.c.now c.run.result c.requires c.in-Ok.ensures c.run.ensures

pub returns-in-Err : goal.returns-in-Err
returns-in-Err c = top_stops c.args.many (plain_of c.args.p.now) c.args.p.now.classes c.args.p.now.top c.args.c.now c.in-Err.stop c.requires c.in-Err.ensures
