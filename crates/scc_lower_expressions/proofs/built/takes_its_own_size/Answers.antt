use Rattle.std.proofs.Common.{map, ap, sym, ◌∙◌}
use Rattle.scc_svtree.specs.Term.{term_of}
use Rattle.scc_lower_spec.specs.Conversion.{takes_own_size}
use Rattle.scc_lower_expressions.proofs.Terms.{term_concat, joined_own}
use Rattle.scc_lower_expressions.proofs.built.takes_its_own_size.Goals as goal

pub returns-in-Concat : goal.returns-in-Concat
returns-in-Concat c =
    let is = term_concat c.args.e.now c.in-Concat.field-0 (sym c.get.ensures.value ∙ c.in-Concat.is) in
    sym (ap takes_own_size is ∙ joined_own (map term_of c.in-Concat.field-0))
