-- Three functions: 0 calls 1 on its own object, 1 names a member, 2 calls itself; and a fourth, which may call 0 by its class's name.
use Rattle.std.specs.Prelude.{ℕ, true, false, List, [], ◌∷◌, ◌++◌}
use Rattle.scc_base.specs.declared.refusal.Place.{Place}
use Rattle.scc_templates_spec.specs.Walk.{Event, Uses, Calls, OfFile, OnThis}
use Rattle.scc_plain_first.specs.Recursion.{Body}
use Rattle.scc_plain_first.specs.Static.{Walks}

abbrev pub at : ℕ → Place
at n = record { file = 0; at = n }

abbrev pub function : ℕ → List Event → Body
function n walk = record { callee = OfFile n; walk = walk }

abbrev pub bodies : List Body
bodies = function 0 (Calls (OfFile 1) OnThis (at 3) ∷ []) ∷ function 1 (Uses ∷ []) ∷ function 2 (Calls (OfFile 2) OnThis (at 5) ∷ []) ∷ []

abbrev pub walks : List Event → Walks
walks last = record {
  declarations = [];
  top = [];
  needed = λ x. [];
  bodies = λ q. bodies ++ function 3 last ∷ [];
  named = λ q. record { place = at 8; returns = false } ∷ record { place = at 9; returns = true } ∷ [];
}
