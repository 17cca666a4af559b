-- A loop that reads items, one step a turn.
use Rattle.std.proofs.Common.{◌≡◌, ℕ, zero, suc, ◌+◌, ◌-◌, ◌<◌, ◌≤◌, List, [], ◌∷◌, ◌++◌, Option, Some, None, ap, refl, sym, ◌∙◌, append_assoc, append-nil, arith}
use Rattle.scc_thin.specs.declared.thin.token.Token.{Token}
use Rattle.scc_thin.specs.Gives.{◌>>=◌}
use Rattle.scc_thin.specs.Reading.{Steps, items, go_on, put_first, put_front}

pub put_front-first : {X : Type 0} (front : List X) (x : X) (o : Option (List X × List Token)) → put_front front (put_first x o) ≡ put_front (front ++ x ∷ []) o
put_front-first front x None = refl
put_front-first front x (Some r) = ap (λ l. Some (l, r.1)) (sym (append_assoc front (x ∷ []) r.0))

pub put_front_nil : {X : Type 0} (o : Option (List X × List Token)) → put_front [] o ≡ o
put_front_nil None = refl
put_front_nil (Some r) = refl

pub put_front_one : {X : Type 0} (x : X) (o : Option (List X × List Token)) → put_front (x ∷ []) o ≡ put_first x o
put_front_one x None = refl
put_front_one x (Some r) = refl

module _ {X : Type 0} (step : Steps X) where
  items_at : (k : ℕ) (ts : List Token) (r : Option X × List Token) → 0 < k → step ts ≡ Some r → items step k ts ≡ go_on (items step (k - 1)) r.0 r.1
  unfolding items
  items_at zero ts r h e = absurd (omega arith)
  items_at (suc k) ts r h e = ap (λ o. o >>= (λ r. go_on (items step k) r.0 r.1)) e ∙ ap (λ j. go_on (items step j) r.0 r.1) (omega arith)

  pub items_end : (front : List X) (n i : ℕ) (ts rest : List Token) (o : Option (List X × List Token)) → put_front front (items step (n - i) ts) ≡ o → i < n
      → step ts ≡ Some (None, rest) → o ≡ Some (front, rest)
  items_end front n i ts rest o e h s =
      sym e ∙ ap (put_front front) (items_at (n - i) ts (None, rest) (omega arith) s) ∙ ap (λ l. Some (l, rest)) (append-nil front)

  pub items_more : (front new : List X) (x : X) (n i : ℕ) (ts rest : List Token) (o : Option (List X × List Token)) → put_front front (items step (n - i) ts) ≡ o → i < n
      → new ≡ front ++ x ∷ [] → step ts ≡ Some (Some x, rest) → put_front new (items step (n - (i + 1)) rest) ≡ o
  items_more front new x n i ts rest o e h g s =
      ap (λ l. put_front l (items step (n - (i + 1)) rest)) g ∙ sym (put_front-first front x _)
      ∙ ap (λ j. put_front front (put_first x (items step j rest))) (let k : n - (i + 1) ≡ n - i - 1 = omega arith in k)
      ∙ sym (ap (put_front front) (items_at (n - i) ts (Some x, rest) (omega arith) s)) ∙ e

  none_at : (k : ℕ) (ts : List Token) → 0 < k → step ts ≡ None → items step k ts ≡ None
  unfolding items
  none_at zero ts h e = absurd (omega arith)
  none_at (suc k) ts h e = ap (λ o. o >>= (λ r. go_on (items step k) r.0 r.1)) e

  pub items_none : (front : List X) (n i : ℕ) (ts : List Token) (o : Option (List X × List Token)) → put_front front (items step (n - i) ts) ≡ o → i < n → step ts ≡ None → o ≡ None
  items_none front n i ts o e h s = sym e ∙ ap (put_front front) (none_at (n - i) ts (omega arith) s)

  pub items_over : (front : List X) (n i : ℕ) (ts : List Token) (o : Option (List X × List Token)) → put_front front (items step (n - i) ts) ≡ o → n ≤ i → o ≡ None
  unfolding items
  items_over front n i ts o e h = sym e ∙ ap (λ k. put_front front (items step k ts)) (let k : n - i ≡ 0 = omega arith in k)
