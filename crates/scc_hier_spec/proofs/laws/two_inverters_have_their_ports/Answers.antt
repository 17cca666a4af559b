-- The ports of the two inverters; other names and another order are told.
use Rattle.std.proofs.Common.{◌≡◌, ℕ, zero, suc, Bool, true, false, ◌&&◌, ◌||◌, List, [], ◌∷◌, refl, ap, arith}
use Rattle.scc_svtree.specs.Code.{Code}
use Rattle.scc_svtree.specs.Mentions.{mentions}
use Rattle.scc_hier_spec.proofs.Worked.{inverter_code}
use Rattle.scc_hier_spec.proofs.laws.two_inverters_have_their_ports.Goals as goal

-- whether the inverter's code names a variable, as is asked of its port
abbrev told : Code → ℕ → Bool
told k v = (mentions k v || false) || (false || false)

abbrev both : Bool → Bool
both x = x && true

pub returns-clause-right : goal.returns-clause-right
returns-clause-right c = record {
  named = (refl, (refl, tt));
  wanted = ap (λ k. (told k 0 && (told k 1 && true)) && both (told k 0 && (told k 1 && true))) inverter_code;
}

-- the first byte of a text, and of the name of a port, counted from 0
byte : List ℕ → ℕ
byte [] = 0
byte (b ∷ bs) = b

letter : ℕ → List (List ℕ × List ℕ) → ℕ
letter n [] = 0
letter zero (p ∷ ps) = byte p.0
letter (suc n) (p ∷ ps) = letter n ps

x_is_not_y : ◌≡◌ {A = ℕ} 121 120 → ⊥
x_is_not_y e = omega (arith, e)

y_is_not_z : ◌≡◌ {A = ℕ} 122 121 → ⊥
y_is_not_z e = omega (arith, e)

pub returns-clause-exchanged : goal.returns-clause-exchanged
unfolding letter byte
returns-clause-exchanged c a = x_is_not_y (ap (letter 0) a.named.0)

pub returns-clause-renamed : goal.returns-clause-renamed
unfolding letter byte
returns-clause-renamed c a = y_is_not_z (ap (letter 1) a.named.0)
