use Rattle.std.proofs.Common.{map}
use Rattle.scc_lower_expressions.specs.Becoming.{given_of, opened_of, seen_of}
use Rattle.scc_lower.specs.Adding.{wanted_of}
use Rattle.scc_lower.proofs.Arms.{all-added}
use Rattle.scc_lower.proofs.assign.all_written.Goals as goal

pub returns : goal.returns
returns c = λ k e.
    all-added (given_of c.args.cells) (map seen_of c.args.cx.now.views.now) (map opened_of c.args.opens.now) c.args.first (wanted_of c.args.written.now k e) c.new-out.result c.spread.new.out c.new-out.ensures.empty (c.in_ok-spread.ensures k e)
