use Rattle.std.proofs.Common.{None}
use Rattle.scc_core_spec.specs.First.{or_else}
use Rattle.scc_elab_spec.specs.Program.{End}
use Rattle.scc_elab_spec.specs.After.{constructing}
use Rattle.scc_plain_view.specs.Codes.{code_of, stmt_code}
use Rattle.scc_elab_checks.specs.Open.{waiting}
use Rattle.scc_elab_checks.proofs.Leading.{entered_behind, slice_is, next_ok}
use Rattle.scc_elab_checks.proofs.statements.next.Goals as goal

pub returns-in_ok-push-in-len1-up : goal.returns-in_ok-push-in-len1-up
returns-in_ok-push-in-len1-up c = next_ok c.enter.result (waiting c.enter.new.lists.items None) (or_else (constructing (stmt_code c.s-item.result End)) (waiting c.push.new.items.items None)) (or_else (constructing (code_of c.args.list.now)) (waiting c.args.lists.now.items None))
    (entered_behind c.args.lists.now.items c.push.new.items.items _ c.s-item.result c.args.list.now c.in_ok-push-in-len1-up.ensures.ok (slice_is c.args.list.now c.s-item.result c.in-len1-up.len_at_least c.s-item.is)) c.enter.ensures
