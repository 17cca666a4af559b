use Rattle.std.proofs.Common.{◌≡◌, refl}
use Rattle.scc_elab_grown.proofs.Running.{kept_runs}
use Rattle.scc_elab_grown.proofs.records.Records.add.Goals as goal

pub invariant_of-self-in_default : goal.invariant_of-self-in_default
invariant_of-self-in_default c = kept_runs c.self.inside.list.items c.push.new.items.items c.self.inside.runs.entries c.insert.new.self.entries c.self.invariant c.args.process (record { object = c.args.process.object; function = c.args.process.function }) refl refl c.in_ok-push.ensures.ok c.in_default.ensures.entries
