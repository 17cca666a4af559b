use Rattle.std.proofs.Common.{map, ap, sym, ◌∙◌}
use Rattle.scc_svtree.specs.Sizes.{signed_of}
use Rattle.scc_svtree.specs.Term.{term_of}
use Rattle.scc_svtree.proofs.Joined.{joined_unsigned}
use Rattle.scc_svtree.proofs.Trees.{term_concat}
use Rattle.scc_svtree.proofs.sizing.+signed.Goals as goal

pub returns-in-Concat : goal.returns-in-Concat
returns-in-Concat t c =
    let is = term_concat c.args.e.now c.in-Concat.field-0 (sym c.get.ensures.value ∙ c.in-Concat.is) in
    record { signed = sym (ap signed_of is ∙ joined_unsigned (map term_of c.in-Concat.field-0)) }
