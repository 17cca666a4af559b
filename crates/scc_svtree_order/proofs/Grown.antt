-- Rows that are added at the end.
use Rattle.std.proofs.Common.{◌≡◌, ◌<◌, ◌≤◌, ◌+◌, ◌-◌, ℕ, suc, [], ◌∷◌, ◌++◌, length, replicate, sym, ap, ◌∙◌, arith, append_assoc, append-nil, length-append}
use Rattle.std.proofs.lemmas.List.{length-replicate}
use Rattle.scc_svtree_order.specs.Fed.{Rows, grown}

-- one row more
pub grown_more : (n : ℕ) (t : Rows) → length t < n → grown n (t ++ [] ∷ []) ≡ grown n t
grown_more n t h = go (n - length t) (n - length (t ++ [] ∷ [])) (let e : length (t ++ [] ∷ []) ≡ length t + 1 = length-append t ([] ∷ []) in omega arith)
  where
    go : (a b : ℕ) → a ≡ suc b → (t ++ [] ∷ []) ++ replicate b [] ≡ t ++ replicate a []
    go a b e = append_assoc t ([] ∷ []) (replicate b []) ∙ ap (λ k. t ++ replicate k []) (sym e)

pub grown_full : (n : ℕ) (t : Rows) → n ≤ length t → grown n t ≡ t
grown_full n t h = ap (λ k. t ++ replicate k []) (none (n - length t) (omega arith)) ∙ append-nil t
  where
    none : (k : ℕ) → k ≡ 0 → k ≡ 0
    none k e = e

pub grown_length : (n : ℕ) (t : Rows) → n ≤ length (grown n t)
grown_length n t = go (length t) (n - length t) (length (grown n t)) (length-append t (replicate (n - length t) []) ∙ ap (λ k. length t + k) (length-replicate (n - length t) [])) (omega arith)
  where
    go : (a b c : ℕ) → c ≡ a + b → n ≤ a + b → n ≤ c
    go a b c e h = omega arith
