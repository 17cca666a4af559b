-- Chains of what each element tells to come next.
use Rattle.std.proofs.Common.{◌≡◌, refl, sym, ap, ◌∙◌, subst, ℕ, zero, suc, ◌+◌, ◌-◌, ◌<◌, ◌≤◌, arith, add-one, length, get_or, List, [], ◌∷◌, ◌++◌, map, slice_get, Option, Some, None}
use Rattle.std.specs.Prelude.{option_map}
use Rattle.std.proofs.lemmas.Option.{slice_get-map, slice_get-get_or}
use Rattle.scc_core.specs.Copies.{Follows, IsChain}

module _ {A B : Type 0} (next : A → Option A) (now : B → A) where
  pub begun : (x : B) (xs : List B) (ys : List A) → xs ≡ x ∷ [] → Follows next (next (now x)) ys → IsChain next (now x) (map now xs ++ ys)
  begun x xs ys e h = subst (λ zs. IsChain next (now x) (map now zs ++ ys)) (sym e) (refl, h)

  snoc : (xs : List B) (y : B) (ys : List A) → map now (xs ++ y ∷ []) ++ ys ≡ map now xs ++ now y ∷ ys
  snoc [] y ys = refl
  snoc (x ∷ xs) y ys = ap (λ zs. now x ∷ zs) (snoc xs y ys)

  pub goes_on : (e here : A) (xs zs : List B) (y : B) → ((ys : List A) → Follows next (next here) ys → IsChain next e (map now xs ++ ys))
      → next here ≡ Some (now y) → zs ≡ xs ++ y ∷ [] → (ys : List A) → Follows next (next (now y)) ys → IsChain next e (map now zs ++ ys)
  goes_on e here xs zs y f is q ys h =
      subst (λ us. IsChain next e us) (sym (ap (λ us. map now us ++ ys) q ∙ snoc xs y ys))
      (f (now y ∷ ys) (subst (λ o. Follows next o (now y ∷ ys)) (sym is) (refl, h)))

  with_none : (xs : List A) → xs ++ [] ≡ xs
  with_none [] = refl
  with_none (x ∷ xs) = ap (λ ys. x ∷ ys) (with_none xs)

  pub ended : (e here : A) (xs : List B) → ((ys : List A) → Follows next (next here) ys → IsChain next e (map now xs ++ ys))
      → next here ≡ None → IsChain next e (map now xs)
  ended e here xs f is = subst (λ us. IsChain next e us) (with_none (map now xs)) (f [] (subst (λ o. Follows next o []) (sym is) tt))

-- what stands at a place, and what comes next there
module _ {A : Type 0} (next : A → Option A) where
  chain_head : (o : Option A) (xs : List A) → Follows next o xs → slice_get xs 0 ≡ o
  chain_head None [] h = refl
  chain_head None (y ∷ ys) h = absurd h
  chain_head (Some x) [] h = absurd h
  chain_head (Some x) (y ∷ ys) h = ap Some h.0

  pub chain_starts : (x : A) (xs : List A) → IsChain next x xs → slice_get xs 0 ≡ Some x
  chain_starts x xs h = chain_head (Some x) xs h

  chain_at : (o : Option A) (xs : List A) (i : ℕ) (x : A) → Follows next o xs → slice_get xs i ≡ Some x → slice_get xs (suc i) ≡ next x
  chain_at None [] i x h g = cc
  chain_at None (y ∷ ys) i x h g = absurd h
  chain_at (Some z) [] i x h g = absurd h
  chain_at (Some z) (y ∷ ys) zero x h g = let p : y ≡ x = cc in chain_head (next y) ys h.1 ∙ ap next p
  chain_at (Some z) (y ∷ ys) (suc i) x h g = chain_at (next y) ys i x h.1 g

  pub chain_next : (e : A) (xs : List A) (i : ℕ) (x : A) → IsChain next e xs → slice_get xs i ≡ Some x → slice_get xs (i + 1) ≡ next x
  chain_next e xs i x h g = ap (λ n. slice_get xs n) (add-one i) ∙ chain_at (Some e) xs i x h g

-- what a chain shows of lent items: one of them, and what comes next there
module _ {A B : Type 0} (next : A → Option A) (now : B → A) where
  pub at_place : (items : List B) (n : ℕ) (b : B) → n < length items → b ≡ get_or items n b → slice_get (map now items) n ≡ Some (now b)
  at_place items n b h is = slice_get-map now items n ∙ ap (λ o. option_map now o) (slice_get-get_or items n b h) ∙ ap (λ x. Some (now x)) (sym is)

  -- from what is made of the place behind, what is made here
  pub one_before : (e : A) (items : List B) (n : ℕ) (b : B) → 0 < n → n ≤ length items → IsChain next e (map now items) → b ≡ get_or items (n - 1) b
      → slice_get (map now items) n ≡ next (now b)
  one_before e items n b p h chain is =
      let i : n - 1 < length items = omega arith in
      let q : n ≡ n - 1 + 1 = omega arith in
      ap (λ k. slice_get (map now items) k) q ∙ chain_next next e (map now items) (n - 1) (now b) chain (at_place items (n - 1) b i is)
