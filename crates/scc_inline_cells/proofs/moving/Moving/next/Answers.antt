use Rattle.scc_plain_view.specs.Plains.{plain_of, function_of}
use Rattle.scc_inline_cells.proofs.Noting.{next_ok, slice_is}
use Rattle.scc_inline_cells.proofs.moving.Moving.next.Goals as goal

pub returns-in_ok-note-in-len1-up : goal.returns-in_ok-note-in-len1-up
returns-in_ok-note-in-len1-up c = next_ok (plain_of c.args.s.now.plain.now) (function_of c.args.s.now.function.now) c.args.constructor c.enter.result c.args.self.now c.note.new.self
    c.args.lists.now c.push.new.self c.enter.new.lists _ c.first-item.result c.args.list.now c.parts_of-parts.result
    c.in_ok-push-in-len1-up.ensures.ok c.parts_of-parts.ensures c.in_ok-note-in-len1-up.ensures (slice_is c.args.list.now c.first-item.result c.in-len1-up.len_at_least c.first-item.is) c.enter.ensures
