use Rattle.std.proofs.Common.{length, take, drop, ◌-◌, refl, sym, ◌∙◌}
use Rattle.scc_elab_made.proofs.Picking.{parts_none, parts_tested, parts_whole}
use Rattle.scc_elab_works.proofs.Rows.{empty_is, slice_is}
use Rattle.scc_elab_made.proofs.running.parts_of.Goals as goal

pub returns-in-empty : goal.returns-in-empty
returns-in-empty c = let e = empty_is c.args.list.now c.in-empty.len_below in parts_none c.args.list.now c.args.list.now c.args.list.now e e e

pub returns-then-is_if : goal.returns-then-is_if
returns-then-is_if c = parts_tested c.first-item.result (take (length c.args.list.now - 1) (drop 1 c.args.list.now)) c.first_alone.result.now c.args.list.now (slice_is c.args.list.now c.first-item.result c.in-len1-up.len_at_least c.first-item.is) c.first_alone.ensures (sym c.is_if.ensures ∙ c.if-is_if.true)

pub returns-else-is_if : goal.returns-else-is_if
returns-else-is_if c = parts_whole c.first-item.result (take (length c.args.list.now - 1) (drop 1 c.args.list.now)) _ c.args.list.now (slice_is c.args.list.now c.first-item.result c.in-len1-up.len_at_least c.first-item.is) refl (sym c.is_if.ensures ∙ c.if-is_if.false)
