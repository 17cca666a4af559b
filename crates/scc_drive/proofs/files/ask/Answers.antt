use Rattle.std.proofs.Common.{◌∙◌, subst}
use Rattle.scc_drive.specs.Stages.{IsFound}
use Rattle.scc_drive.proofs.Asking.{is_held, asked_found}
use Rattle.scc_drive.proofs.files.ask.Goals as goal

pub returns-in-Ok-clause-asked : goal.returns-in-Ok-clause-asked
returns-in-Ok-clause-asked g c =
    asked_found c.args.name.now c.in-Ok.bytes.items _ _ _ _ _ c.found.result (is_held _ _ _ c.in-Ok.ensures.content)
    (subst (λ n. IsFound n c.in-Ok.bytes.items c.found.result) (c.in_ok-copy.ensures.bytes ∙ c.as_bytes.ensures.value)
    (subst (λ b. IsFound c.in_ok-copy.copy b c.found.result) c.as_slice.ensures.value c.found.ensures))
