use Rattle.std.proofs.Common.{◌≡◌, [], ap, ◌∙◌, sym, subst, map, List}
use Rattle.scc_elab_grown.specs.declared.records.Record.{Record}
use Rattle.scc_elab_grown.specs.Grown.{grown_of}
use Rattle.scc_elab_grown.specs.Records.{record_of}
use Rattle.scc_elab_ports.specs.Unbound.{Says}
use Rattle.scc_elab_spec.specs.After.{bad_process}
use Rattle.scc_elab_after.specs.declared.processes.Clock.{Clock}
use Rattle.scc_elab_after.specs.Clocks.{Knows}
use Rattle.scc_elab_after.proofs.Walking.{none_known}
use Rattle.scc_elab_after.proofs.all.check_processes.Goals as goal

pub returns : goal.returns
returns c = subst (λ (rs : List Record). Says (bad_process c.args.many (grown_of c.args.g.now) [] (map record_of rs)) c.check_each.result) c.as_slice.ensures
    (c.check_each.ensures [] (subst (λ (cs : List Clock). Knows c.args.many [] cs) (sym c.new-firsts.ensures.items) (none_known c.args.many)))
