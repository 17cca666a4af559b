use Rattle.std.proofs.Common.{◌≡◌, ◌∙◌, sym, subst}
use Rattle.std.proofs.lemmas.Slice.Eq.{bytes_eq-Decides}
use Rattle.scc_drive.specs.Stages.{IsHeld, IsFound}
use Rattle.scc_drive.proofs.Asking.{asked_found}
use Rattle.scc_drive.proofs.svsim.stimulus_of.Goals as goal

pub returns-then-eq-clause-asked : goal.returns-then-eq-clause-asked
returns-then-eq-clause-asked g c =
    let same : c.args.name.now ≡ c.args.text.now.name = sym c.as_bytes.ensures.value ∙ (bytes_eq-Decides _ _).0 (sym c.eq.ensures ∙ c.if-eq.true) ∙ c.bytes.ensures.bytes in
    asked_found c.args.name.now c.args.text.now.bytes _ _ _ _ _ c.found.result (subst (λ n. IsHeld (g.F.Files.held c.args.files.now) n c.args.text.now.bytes) (sym same) c.requires.held)
    (subst (λ n. IsFound n c.args.text.now.bytes c.found.result) (c.in_ok-copy.ensures.bytes ∙ c.as_bytes-then-eq.ensures.value)
    (subst (λ b. IsFound c.in_ok-copy.copy b c.found.result) c.bytes-then-eq.ensures.bytes c.found.ensures))
