use Rattle.std.proofs.Common.{rules}
use Rattle.scc_templates_scopes.specs.Indexed.{members}
use Rattle.scc_templates_spec.specs.SourceView.{top_of, merged}
use Rattle.std.proofs.Common.{map}
use Rattle.scc_templates_scopes.proofs.Indexing.{class_step}
use Rattle.scc_templates_scopes.proofs.index.Index.take_class.Goals as goal

pub loop-item-preserved : goal.loop-item-preserved
loop-item-preserved c = class_step c.args.self.now c.loop-item.self c.take_fields.new.self c.declare.new.self c.args.class c.loop-item.n c.loop-item.taken c.standing_before-count.result c.loop-item.fields.now c.split_at.result.0.now c.split_at.result.1.now c.loop-item.rest.now c.in-Some.behind.now c.in-Some.item.now
    (members c.args.class (merged 0 0 c.args.fields.now (map top_of c.args.items.now))) c.loop-item.invariant (search rules) c.standing_before-count.ensures (search rules) (search rules) (search rules) (search rules) c.in_ok-n.n c.in_ok-taken.taken (search rules) (search rules)
