use Rattle.scc_elab_spec.specs.Program.{End}
use Rattle.scc_elab_works.specs.Runs.{now_of}
use Rattle.scc_elab_works.specs.Works.{at_in, chosen_of, outcome, run_at, Steps, tested_in, through}
use Rattle.scc_elab_spec.specs.Construct.{Fell}
use Rattle.scc_elab_grown.specs.Grown.{grown_of}
use Rattle.scc_plain_view.specs.Codes.{code_of, stmt_code}
use Rattle.scc_plain_view.specs.Plains.{plain_of}
use Rattle.scc_plain_view.specs.Terms.{term_of}
use Rattle.std.proofs.Common.{sym, subst, refl}
use Rattle.scc_elab_works.specs.declared.works.Work.{Work}
use Rattle.scc_elab_made.proofs.running.step.Goals as goal

pub returns-in-Run : goal.returns-in-Run
returns-in-Run c = subst (λ (w : Work). Steps (plain_of c.args.p.now) c.next_statement.result c.next_statement.new.works.items (now_of c.next_statement.new.m) (outcome (plain_of c.args.p.now) c.args.works.now.items (through (plain_of c.args.p.now) w (Fell (now_of c.args.m.now))))) (sym c.in-Run.is) c.next_statement.ensures

pub returns-in-Again : goal.returns-in-Again
returns-in-Again c = subst (λ (w : Work). Steps (plain_of c.args.p.now) c.again.result c.again.new.works.items (now_of c.args.m.now) (outcome (plain_of c.args.p.now) c.args.works.now.items (through (plain_of c.args.p.now) w (Fell (now_of c.args.m.now))))) (sym c.in-Again.is) c.again.ensures

pub returns-in-Turn : goal.returns-in-Turn
returns-in-Turn c = subst (λ (w : Work). Steps (plain_of c.args.p.now) c.turn.result c.turn.new.works.items (now_of c.turn.new.m) (outcome (plain_of c.args.p.now) c.args.works.now.items (through (plain_of c.args.p.now) w (Fell (now_of c.args.m.now))))) (sym c.in-Turn.is) c.turn.ensures

pub returns-in-Vector : goal.returns-in-Vector
returns-in-Vector c = subst (λ (w : Work). Steps (plain_of c.args.p.now) c.next_of_vector.result c.next_of_vector.new.works.items (now_of c.next_of_vector.new.m) (outcome (plain_of c.args.p.now) c.args.works.now.items (through (plain_of c.args.p.now) w (Fell (now_of c.args.m.now))))) (sym c.in-Vector.is) c.next_of_vector.ensures
