use Rattle.scc_inline_cells.proofs.Noting.{put_ok}
use Rattle.scc_inline_cells.proofs.moving.put.Goals as goal

pub returns-in-Some : goal.returns-in-Some
returns-in-Some c = put_ok c.push.result c.args.lists.now c.push.new.self c.args.list c.in-Some.list c.in-Some.is c.push.ensures.ok
