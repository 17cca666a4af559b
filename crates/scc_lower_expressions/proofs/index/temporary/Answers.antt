use Rattle.std.proofs.Common.{length, map}
use Rattle.scc_lower_expressions.specs.Becoming.{seen_of}
use Rattle.scc_lower_expressions.proofs.Keeping.{made-kept}
use Rattle.scc_lower_expressions.proofs.index.temporary.Goals as goal

pub returns : goal.returns
returns c =
    let x = c.args.cx.now in
    made-kept (length c.args.cells.cells.now) c.args.width c.len.result c.in_ok-var.var.0 c.args.value (map seen_of x.views.now) x.exit x.temporaries c.push.new.self x.before c.push-2.new.self c.in_ok-var.ensures c.len.ensures.length c.in_ok-push.ensures.ok c.in_ok-push-2.ensures.ok
