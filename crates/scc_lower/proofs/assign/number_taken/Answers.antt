use Rattle.std.proofs.Common.{◌≡◌, ◌<◌, ◌≤◌, Some, None, refl, sym, ◌∙◌, arith}
use Rattle.scc_core.specs.Numbers.{small}
use Rattle.scc_core.proofs.Numbers.{small_is}
use Rattle.scc_lower.proofs.Taking.{told-past, untold-past}
use Rattle.scc_lower.proofs.assign.number_taken.Goals as goal

pub returns-then-i-all : goal.returns-then-i-all
returns-then-i-all c =
    let is : small c.args.v ≡ Some c.in-Some.i = sym (small_is c.small.result c.args.v c.small.ensures.some c.small.ensures.is) ∙ c.in-Some.is in
    let below : c.in-Some.i < c.args.all = omega arith in
    (is, refl, below)

pub returns-else-i-all : goal.returns-else-i-all
returns-else-i-all c =
    let is : small c.args.v ≡ Some c.in-Some.i = sym (small_is c.small.result c.args.v c.small.ensures.some c.small.ensures.is) ∙ c.in-Some.is in
    let past : c.args.all ≤ c.in-Some.i = omega arith in
    told-past c.args.v c.in-Some.i c.args.all is past

pub returns-in-None : goal.returns-in-None
returns-in-None c = untold-past c.args.v c.args.all (sym (small_is c.small.result c.args.v c.small.ensures.some c.small.ensures.is) ∙ c.in-None.is)
