use Rattle.std.proofs.Common.{◌≡◌, ◌∙◌, Bool, not, true, false, refl, sym}
use Rattle.scc_core_look.specs.Fits.{IsGround}
use Rattle.scc_core_look.proofs.terms.stays_dry.Goals as goal

off : (b : Bool) → not b ≡ true → b ≡ false
off true e = absurd cc
off false e = refl

pub returns-then-writes : goal.returns-then-writes
returns-then-writes c = λ e ground w. sym (c.rooted_input.ensures ground.vectors ground.table) ∙ off c.rooted_input.result e
