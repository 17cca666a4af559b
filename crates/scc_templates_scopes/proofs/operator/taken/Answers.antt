use Rattle.std.proofs.Common.{Err, ap}
use Rattle.scc_templates_scopes.proofs.Taken.{too_wide, by_zero}
use Rattle.scc_templates_scopes.proofs.operator.taken.Goals as goal

pub returns-in-Err-TooWide-clause-is : goal.returns-in-Err-TooWide-clause-is
returns-in-Err-TooWide-clause-is c =
    rw c.refuse-in-Err-TooWide.ensures.is (too_wide c.args.at c.args.op c.args.a c.args.b (λ e. let h = c.in-Err-TooWide.ensures.no_row e in let f = c.in-Err-TooWide.field-0-is in cc) (c.in-Err-TooWide.ensures.wide (ap Err c.in-Err-TooWide.field-0-is)))

pub returns-in-Err-Divisor-clause-is : goal.returns-in-Err-Divisor-clause-is
returns-in-Err-Divisor-clause-is c =
    let h = c.in-Err-Divisor.ensures.divisor.0 (ap Err c.in-Err-Divisor.field-0-is) in
    rw c.refuse-in-Err-Divisor.ensures.is (by_zero c.args.at c.args.op c.args.a c.args.b h.0 h.1 h.2)
