use Rattle.std.proofs.Common.{sym, ap, ◌∙◌, map}
use Rattle.std.specs.Option.{option_copied}
use Rattle.scc_core_spec.specs.First.{first_numbered}
use Rattle.scc_elab_spec.specs.After.{bad_reset}
use Rattle.scc_elab_grown.specs.Grown.{grown_of}
use Rattle.scc_elab_grown.specs.Records.{record_of, reset_of}
use Rattle.scc_elab_after.proofs.Firsts.{passed, says_first}
use Rattle.scc_elab_after.proofs.processes.check_resets.Goals as goal

pub loop-k-preserved : goal.loop-k-preserved
loop-k-preserved c = c.loop-k.invariant ∙ passed reset_of (bad_reset (grown_of c.args.g.now) (record_of c.args.r.now)) c.args.r.now.resets.items c.loop-k.k c.in-Some.reset.now (sym c.reset_at.ensures ∙ ap option_copied c.in-Some.is) c.in_default-check_one_reset.ensures

pub returns-in-Err : goal.returns-in-Err
returns-in-Err c = says_first reset_of (bad_reset (grown_of c.args.g.now) (record_of c.args.r.now)) c.args.r.now.resets.items c.loop-k.k c.in-Some.reset.now (sym c.reset_at.ensures ∙ ap option_copied c.in-Some.is) c.in-Err.stop
    (first_numbered (bad_reset (grown_of c.args.g.now) (record_of c.args.r.now)) 0 (map reset_of c.args.r.now.resets.items)) c.loop-k.invariant c.in-Err.ensures
