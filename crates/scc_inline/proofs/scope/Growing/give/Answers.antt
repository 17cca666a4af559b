use Rattle.std.proofs.Common.{◌∙◌, refl, sym}
use Rattle.scc_inline.proofs.Naming.{give_ok}
use Rattle.scc_inline.proofs.scope.Growing.give.Goals as goal

pub returns-clause-names : goal.returns-clause-names
returns-clause-names c = give_ok c.set.result c.args.self.now c.add_local.new.self c.args.scope.now c.set.new.self c.args.function.now c.args.local c.in_ok-first.first c.in-Some.member.now
    (sym c.in-Some.ensures.element) (sym c.has.ensures ∙ c.if-has.false) (c.in_ok-first.ensures.cells refl) c.set.ensures
