use Rattle.std.proofs.Common.{[], true, None, refl}
use Rattle.scc_svtree.specs.declared.expr.SvLeft.TheVariants.{Whole}
use Rattle.scc_svtext.specs.Fixed.{fixed_text}
use Rattle.scc_svtext.specs.Keyword.{is_keyword}
use Rattle.scc_memory_spec.specs.Text.{ends, element, part, concat, one, none, edge, write, no_sets}
use Rattle.scc_memory_spec.proofs.laws.memories_are_written_as_text.Goals as goal

pub returns-clause-declared : goal.returns-clause-declared
unfolding fixed_text is_keyword
returns-clause-declared c = refl

pub returns-clause-element : goal.returns-clause-element
unfolding fixed_text is_keyword
returns-clause-element c = element 0 (part (Whole (record { 0 = 4 })))

pub returns-clause-parts : goal.returns-clause-parts
unfolding fixed_text is_keyword
returns-clause-parts c = concat {es = []} (one (part (Whole (record { 0 = 4 }))) (one (part (Whole (record { 0 = 5 }))) none))

pub returns-clause-edge : goal.returns-clause-edge
unfolding fixed_text is_keyword
returns-clause-edge c = edge true 0 None (write 0 refl no_sets)

pub returns-clause-statements : goal.returns-clause-statements
returns-clause-statements c n = ends 4

pub returns-clause-whole : goal.returns-clause-whole
returns-clause-whole c bytes m h = h.sound
