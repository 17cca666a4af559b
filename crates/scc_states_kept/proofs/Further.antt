-- One step further along the cells of a row.
use Rattle.std.proofs.Common.{◌≡◌, ◌<◌, ◌+◌, ◌-◌, ℕ, suc, arith, List, ◌++◌, append_assoc, sym, ap, ◌∙◌}
use Rattle.scc_core.specs.Located.{added}
use Rattle.scc_states_kept.specs.Rows.{along}

pub next_along : (f : ℕ → List ℕ) (n c s x : ℕ) → c < n → along f (n - c) s x ≡ f x ++ along f (n - (c + 1)) s (added x s)
next_along f n c s x h = let e : n - c ≡ suc (n - (c + 1)) = omega arith in ap (λ m. along f m s x) e

-- with what is before
pub further_along : (f : ℕ → List ℕ) (n c s x : ℕ) (old new : List ℕ) → c < n → new ≡ old ++ f x → new ++ along f (n - (c + 1)) s (added x s) ≡ old ++ along f (n - c) s x
further_along f n c s x old new h is =
    ap (λ xs. xs ++ along f (n - (c + 1)) s (added x s)) is ∙ append_assoc old (f x) (along f (n - (c + 1)) s (added x s)) ∙ ap (λ xs. old ++ xs) (sym (next_along f n c s x h))
