use Rattle.scc_elab_spec.specs.Program.{End}
use Rattle.scc_elab_works.specs.Runs.{now_of}
use Rattle.scc_plain_view.specs.Codes.{stmt_code}
use Rattle.scc_plain_view.specs.Plains.{plain_of}
use Rattle.scc_elab_works.proofs.Standing.{ends_there}
use Rattle.scc_elab_works.proofs.places.simple_at.Goals as goal

pub returns-in-Some : goal.returns-in-Some
returns-in-Some c = ends_there c.simple.result (now_of c.simple.new.m) (now_of c.args.m.now) c.args.turns c.args.at.now.levels c.args.at.now.object (plain_of c.args.p.now) c.as_slice.result.now c.args.at.now.path.items c.args.at.now.function c.in-Some.function (stmt_code c.args.s.now End) c.in-Some.is c.as_slice.ensures.value c.simple.ensures
