-- Reaches that add no less, and chains as the definitions count them.
use Rattle.std.specs.Prelude.{◌≡◌, ℕ, ◌+◌, ◌≤◌, Bool, true, false, List, [], ◌∷◌, map, Option, if◌then◌else◌}
use Rattle.std.proofs.Common.{refl, arith}
use Rattle.scc_templates_spec.specs.Walk.{Args}
use Rattle.scc_templates_spec.specs.World.{Member, count}
use Rattle.scc_templates_scopes.specs.declared.chain.Reach.{Reach}
use Rattle.scc_templates_scopes.specs.Chains.{same_held, counted, last_of, held, adds, Within, number_of, Apart}

pub wider : (r t : Reach) → ((l : Option ℕ) → adds r l ≤ adds t l) → (xs : List (Option ℕ)) → Within r xs → Within t xs
wider r t f xs w ms l = let a = f (last_of ms) in let b = w ms (omega arith) in omega arith

-- at most the most, and at most one less
pub adds_bounds : (r : Reach) (l : Option ℕ) → (adds r l ≤ r.most) × (r.most ≤ adds r l + 1)
adds_bounds r l = by (same_held (held r.first) l) refl
  where
    by : (b : Bool) → same_held (held r.first) l ≡ b → (adds r l ≤ r.most) × (r.most ≤ adds r l + 1)
    by true e = rw e (omega arith, omega arith)
    by false e = rw e (omega arith, omega arith)

-- the members of a chain count as the definition counts them
pub counts : (n : ℕ → Args → ℕ) (ms : List Member) → Apart n ms → counted (map (number_of n) ms) ≡ count ms
counts n [] h = refl
counts n (m ∷ []) h = refl
counts n (m ∷ k ∷ ms) h = let e = h.0 in let r = counts n (k ∷ ms) h.1 in (λ i. if e i then r i else 1 + r i)
