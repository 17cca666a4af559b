use Rattle.std.proofs.Common.{◌≡◌, arith, length}
use Rattle.scc_plain_view.specs.Plains.{plain_of}
use Rattle.scc_inline_facts.proofs.Knowing.{stands, tree_long}
use Rattle.scc_inline_facts.proofs.facts.all_told.Goals as goal

pub returns-then-known-len : goal.returns-then-known-len
returns-then-known-len c = λ all are.
    let e : length c.args.known.now ≡ length c.args.plain.now.functions = grind (arith, c.if-known-len.true, c.len.ensures.length) in
    stands (plain_of c.args.plain.now) c.args.known.now (tree_long c.args.plain.now (length c.args.known.now) e) (c.all_known.ensures all) are
