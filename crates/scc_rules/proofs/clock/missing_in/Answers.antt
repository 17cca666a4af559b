use Rattle.std.proofs.Common.{sym, ◌∙◌}
use Rattle.scc_rules.proofs.Senses.{unlisted_found}
use Rattle.scc_rules.proofs.clock.missing_in.Goals as goal

pub returns-in_ok-put_back-clause-found : goal.returns-in_ok-put_back-clause-found
returns-in_ok-put_back-clause-found c = λ h.
    unlisted_found c.args.f.now c.args.p.now c.args.marks.now c.in_ok-found.found _ _ _ _ _ (sym c.is_combinational.ensures ∙ c.if-is_combinational.true) c.as_slice.ensures.elements
    c.as_slice-then-is_combinational.ensures.value c.in_ok-take_out.ensures h c.in_ok-found.ensures.first
