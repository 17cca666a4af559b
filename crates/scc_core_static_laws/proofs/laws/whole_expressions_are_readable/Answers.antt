use Rattle.std.proofs.Common.{[]}
use Rattle.scc_core_static_laws.proofs.Wholes.{whole_reads}
use Rattle.scc_core_static_laws.proofs.laws.whole_expressions_are_readable.Goals as goal

pub returns-clause-counted : goal.returns-clause-counted
returns-clause-counted c = λ cells ns e h w. whole_reads cells ns h w

pub returns-clause-alone : goal.returns-clause-alone
returns-clause-alone c = λ cells e w. whole_reads cells [] tt w
