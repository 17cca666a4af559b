use Rattle.std.proofs.Common.{ap, sym, ◌∙◌, map, None}
use Rattle.scc_elab_inits.specs.Makes.{args_in}
use Rattle.scc_plain_view.specs.Terms.{argument_of}
use Rattle.scc_elab_groups.specs.Groups.{last_args}
use Rattle.scc_elab_works.specs.Works.{at_in}
use Rattle.scc_elab_made.proofs.Belonging.{empty_puts, given_puts}
use Rattle.scc_elab_made.proofs.members.put_direct.Goals as goal

pub returns-in-Some : goal.returns-in-Some
returns-in-Some c = λ number list e. given_puts (at_in c.args.at.now) c.args.k.now number list (map (λ t. t.now) c.args.tails.now) e c.args.works.now.items c.put_given.new.works.items c.put_given.result
    (args_in c.last_args.result) (map argument_of c.in-Some.args.now) c.last_args.ensures (ap args_in c.in-Some.is) c.put_given.ensures

pub returns-in-None : goal.returns-in-None
returns-in-None c = λ number list e. empty_puts (at_in c.args.at.now) c.args.k.now number list (map (λ t. t.now) c.args.tails.now) e c.args.works.now.items c.put_empty.new.works.items c.put_empty.result
    (args_in c.last_args.result) c.last_args.ensures (ap args_in c.in-None.is) c.put_empty.ensures
