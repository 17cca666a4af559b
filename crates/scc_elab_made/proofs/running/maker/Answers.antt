use Rattle.scc_plain_tree.specs.declared.stmt.PlainArg.{PlainArg}
use Rattle.scc_elab_spec.specs.Program.{Make}
use Rattle.scc_plain_view.specs.Codes.{base_of}
use Rattle.scc_plain_view.specs.Terms.{argument_of, left_of}
use Rattle.std.proofs.Common.{◌≡◌, refl, sym, ap, subst, ◌∙◌, ◌+◌, ◌-◌, length, take, drop, map, true, false, None, Some, [], ◌∷◌, ◌++◌, List}
use Rattle.scc_plain_view.specs.Plains.{plain_of}
use Rattle.scc_elab_works.specs.Runs.{now_of}
use Rattle.scc_elab_spec.specs.Program.{End}
use Rattle.scc_elab_works.specs.Works.{at_in, Steps, outcome, run_at}
use Rattle.scc_elab_spec.specs.Program.{Code}
use Rattle.scc_elab_works.proofs.Nodes.{make_is}
use Rattle.scc_elab_made.proofs.running.maker.Goals as goal

pub returns-in-Make : goal.returns-in-Make
returns-in-Make c = subst (λ (z : Code). Steps (plain_of c.args.p.now) c.make_new.result c.make_new.new.works.items (now_of c.make_new.new.m) (outcome (plain_of c.args.p.now) c.args.works.now.items (run_at (plain_of c.args.p.now) (at_in c.args.at.now) z (now_of c.args.m.now))))
    (sym (make_is c.args.s.now c.in-Make.left c.in-Make.base c.in-Make.args End c.in-Make.is))
    (subst (λ (z : List PlainArg). Steps (plain_of c.args.p.now) c.make_new.result c.make_new.new.works.items (now_of c.make_new.new.m) (outcome (plain_of c.args.p.now) c.args.works.now.items (run_at (plain_of c.args.p.now) (at_in c.args.at.now) (Make c.args.s.now.place (left_of c.in-Make.left) (base_of c.in-Make.base) (map argument_of z) End) (now_of c.args.m.now)))) c.as_slice.ensures.elements c.make_new.ensures)
