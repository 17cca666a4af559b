use Rattle.std.proofs.Common.{◌∙◌, sym, ap}
use Rattle.scc_elab_spec.specs.Numbering.{whole_local}
use Rattle.scc_plain_view.specs.Terms.{left_of}
use Rattle.scc_inline_facts.specs.Whole.{root_of}
use Rattle.scc_inline.proofs.Naming.{whole_ok}
use Rattle.scc_inline.proofs.scope.Growing.give_whole.Goals as goal

pub returns-in-Some-clause-names : goal.returns-in-Some-clause-names
returns-in-Some-clause-names c = λ p f front cs i roots is st. whole_ok c.give.result p f front cs i roots (whole_local i cs (left_of c.args.left.now)) c.give.new.self c.give.new.scope c.in-Some.local
    (sym (ap (root_of i cs) c.in-Some.is) ∙ c.alone.ensures i cs) (c.give.ensures.names p f front cs i roots is st)
