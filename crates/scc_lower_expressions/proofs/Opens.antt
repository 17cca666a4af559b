-- No indices.
use Rattle.std.proofs.Common.{◌≡◌, List, [], ◌∷◌, length, refl, arith}
use Rattle.scc_lower_expressions.specs.declared.index.Open.{Open}

pub no-opens : (os : List Open) → length os ≡ 0 → os ≡ []
no-opens [] e = refl
no-opens (o ∷ os) e = absurd (omega (arith, e))
