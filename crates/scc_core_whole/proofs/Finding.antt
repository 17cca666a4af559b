-- What the code finds of a whole index is what the definitions have.
use Rattle.std.proofs.Common.{◌≡◌, refl, arith, ℕ, ◌<◌, ◌≤◌, Bool, true, false, nat_le, List, [], map, Option, Some, None, ap, ◌∙◌, sym}
use Rattle.scc_bits.specs.Value.{Number}
use Rattle.scc_core.specs.declared.expr.CoreExpr.{CoreExpr}
use Rattle.scc_core.specs.declared.program.Cell.{Cell}
use Rattle.scc_core.specs.declared.statics.Known.{Known}
use Rattle.scc_core.specs.Known.{IsAlone, facts_in}
use Rattle.scc_core.specs.Numbers.{small}
use Rattle.scc_core.specs.Statics.{value_in}
use Rattle.scc_core_static_laws.specs.Indices.{Finds, unknown, number, past}
use Rattle.scc_core_whole.specs.Parts.{is_past, reaches}

pub found_past : (bound : ℕ) (v : Option Number) (n : Number) (i : Option ℕ) → bound < 4294967296 → v ≡ Some n → Finds v i → reaches bound (small n) ≡ true → is_past bound i ≡ true
found_past bound v n i h is unknown e = absurd cc
found_past bound v n i h is (number {v = w} {i = j} s) e = let z : w ≡ n = cc is in ap (reaches bound) (sym s ∙ ap small z) ∙ e
found_past bound v n i h is (past {v = w} {i = j} s l) e = let z = l in grind (arith, h, z)
