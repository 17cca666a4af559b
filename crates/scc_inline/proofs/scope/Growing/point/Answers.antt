use Rattle.scc_elab_spec.specs.Numbering.{whole_local}
use Rattle.scc_plain_view.specs.Terms.{left_of}
use Rattle.scc_inline.specs.Named.{added}
use Rattle.scc_inline.proofs.Naming.{stands_kept}
use Rattle.scc_inline.proofs.scope.Growing.point.Goals as goal

pub returns-clause-names : goal.returns-clause-names
returns-clause-names c = λ p f front cs i roots is st. stands_kept p f front cs i (added roots (whole_local i cs (left_of c.args.left.now))) c.give_whole.new.self c.give_whole.new.scope c.declared_by.new.scope c.in_ok-declares.ensures (c.in_ok-give_whole.ensures.names p f front cs i roots is st)
