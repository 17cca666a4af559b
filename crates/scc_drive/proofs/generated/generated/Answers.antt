use Rattle.std.proofs.Common.{sym, refl, subst}
use Rattle.scc_trace.specs.Source.{source_of}
use Rattle.scc_drive.specs.CommandOutcome.{GeneratedOutcome}
use Rattle.scc_drive.specs.Outcome.{writes, generated}
use Rattle.scc_drive.proofs.generated.generated.Goals as goal

pub returns-in_ok-generate : goal.returns-in_ok-generate
returns-in_ok-generate c = λ top. (writes (source_of c.args.stages), subst (λ b. GeneratedOutcome c.args.stages b (writes (source_of c.args.stages))) (sym c.if-source.true) refl, c.in_ok-generate.ensures)

pub returns-in_ok-generated_line : goal.returns-in_ok-generated_line
returns-in_ok-generated_line c = λ top. (generated, subst (λ b. GeneratedOutcome c.args.stages b generated) (sym c.if-source.false) refl, tt)
