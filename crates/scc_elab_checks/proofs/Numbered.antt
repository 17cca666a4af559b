-- Functions one after another.
use Rattle.std.proofs.Common.{◌≡◌, ℕ, zero, suc, ◌+◌, List, [], ◌∷◌, drop, length, Option, Some, None, option_map, Err, slice_get, ap, refl, sym, ◌∙◌, subst, arith}
use Rattle.scc_base.specs.declared.refusal.Refusal.{Refusal}
use Rattle.scc_base.specs.declared.refusal.Stop.{Stop}
use Rattle.scc_base.specs.declared.refusal.Stop.TheVariants as stop
use Rattle.std.proofs.lemmas.Option.{slice_get-map}
use Rattle.scc_plain_tree.specs.declared.program.Plain.{Plain as Tree}
use Rattle.scc_plain_tree.specs.declared.program.PlainFunction.{PlainFunction}
use Rattle.scc_elab_spec.specs.After.{misplaced}
use Rattle.scc_plain_view.specs.Plains.{plain_of, function_of}
use Rattle.scc_elab_ports.specs.Unbound.{Says}
use Rattle.scc_elab_checks.specs.Open.{misplaced_in}
use Rattle.scc_core_spec.specs.First.{or_else, first_numbered}

-- what is left from an entry on
drop-at : {A : Type 0} (xs : List A) (i : ℕ) (x : A) → slice_get xs i ≡ Some x → drop i xs ≡ x ∷ drop (suc i) xs
drop-at [] i x e = cc
drop-at (y ∷ ys) zero x e = let same : y ≡ x = cc in ap (λ z. z ∷ ys) same
drop-at (y ∷ ys) (suc i) x e = drop-at ys i x e

-- the first that is found from an entry on
pub numbered_at : {A B : Type 0} (f : ℕ → A → Option B) (xs : List A) (i : ℕ) (x : A) → slice_get xs i ≡ Some x → first_numbered f i (drop i xs) ≡ or_else (f i x) (first_numbered f (i + 1) (drop (i + 1) xs))
numbered_at f xs i x e = ap (first_numbered f i) (drop-at xs i x e) ∙ ap (λ n. or_else (f i x) (first_numbered f n (drop n xs))) (next i)
  where
    next : (i : ℕ) → suc i ≡ i + 1
    next i = omega arith

module _ (t : Tree) (n : ℕ) (f : PlainFunction) (there : slice_get t.functions n ≡ Some f) where
  entry : slice_get (plain_of t).functions n ≡ Some (function_of f)
  entry = slice_get-map function_of t.functions n ∙ ap (option_map function_of) there

  abbrev rest : ℕ → Option Refusal
  rest m = first_numbered (misplaced_in (plain_of t)) m (drop m (plain_of t).functions)

  -- the function is not refused
  pub passed : misplaced_in (plain_of t) n (function_of f) ≡ None → rest n ≡ rest (n + 1)
  passed e = numbered_at (misplaced_in (plain_of t)) (plain_of t).functions n (function_of f) entry ∙ ap (λ o. or_else o (rest (n + 1))) e

  -- the function is refused, and no other before it
  pub says_first : (z : Stop) → misplaced (plain_of t) ≡ rest n → Says {A = Unit {0}} (misplaced_in (plain_of t) n (function_of f)) (Err z) → Says {A = Unit {0}} (misplaced (plain_of t)) (Err z)
  says_first (stop.Refused r) e a = e ∙ numbered_at (misplaced_in (plain_of t)) (plain_of t).functions n (function_of f) entry ∙ ap (λ o. or_else o (rest (n + 1))) a
  says_first stop.NoMemory e a = tt
