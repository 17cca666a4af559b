use Rattle.scc_elab_spec.specs.Program.{End}
use Rattle.scc_elab_works.specs.Runs.{now_of}
use Rattle.scc_elab_works.specs.Works.{at_in, chosen_of, outcome, run_at, Steps, tested_in, through}
use Rattle.scc_elab_spec.specs.Construct.{Fell}
use Rattle.scc_elab_grown.specs.Grown.{grown_of}
use Rattle.scc_plain_view.specs.Codes.{code_of, stmt_code}
use Rattle.scc_plain_view.specs.Plains.{plain_of}
use Rattle.scc_plain_view.specs.Terms.{term_of}
use Rattle.scc_elab_made.proofs.Stepping.{steps_none}
use Rattle.scc_elab_made.proofs.running.other.Goals as goal

pub returns-else-is_nested : goal.returns-else-is_nested
returns-else-is_nested c = steps_none (plain_of c.args.p.now) c.simple_at.result c.args.works.now.items (now_of c.simple_at.new.m) (run_at (plain_of c.args.p.now) (at_in c.args.at.now) (stmt_code c.args.s.now End) (now_of c.args.m.now)) c.simple_at.ensures
