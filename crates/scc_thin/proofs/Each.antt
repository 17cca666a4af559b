-- A loop that takes each element to something, or stops.
use Rattle.std.proofs.Common.{◌≡◌, ℕ, ◌+◌, ◌<◌, ◌≤◌, List, [], ◌∷◌, ◌++◌, length, get_or, drop, Option, Some, None, ap, refl, sym, ◌∙◌, append_assoc, append-nil, arith}
use Rattle.std.proofs.Math.Seq.{drop-cons}
use Rattle.std.proofs.Math.ListN.{drop_of_length-le}
use Rattle.scc_thin.specs.Gives.{◌>>=◌, each, before}

abbrev pub behind : {Y : Type 0} → List Y → Option (List Y) → Option (List Y)
behind front None = None
behind front (Some ys) = Some (front ++ ys)

module _ {X Y : Type 0} (f : X → Option Y) (xs : List X) where
  behind-before : (front : List Y) (y : Y) (o : Option (List Y)) → behind front (before y o) ≡ behind (front ++ y ∷ []) o
  behind-before front y None = refl
  behind-before front y (Some ys) = ap Some (sym (append_assoc front (y ∷ []) ys))

  drop_at : (ws : List X) (i : ℕ) (d : X) → i < length ws → drop i ws ≡ get_or ws i d ∷ drop (i + 1) ws
  drop_at ws i d h = grind (arith, drop-cons ws i d)

  -- the elements from a place on
  each_at : (i : ℕ) (d : X) → i < length xs → each f (drop i xs) ≡ (f (get_or xs i d) >>= (λ y. before y (each f (drop (i + 1) xs))))
  unfolding each
  each_at i d h = ap (each f) (drop_at xs i d h)

  pub each_more : (i : ℕ) (d : X) (front new : List Y) (y : Y) (o : Option (List Y)) → behind front (each f (drop i xs)) ≡ o → i < length xs
      → f (get_or xs i d) ≡ Some y → new ≡ front ++ y ∷ [] → behind new (each f (drop (i + 1) xs)) ≡ o
  each_more i d front new y o inv h e g =
      ap (λ l. behind l (each f (drop (i + 1) xs))) g ∙ sym (behind-before front y _)
      ∙ sym (ap (behind front) (each_at i d h ∙ ap (λ r. r >>= (λ y. before y (each f (drop (i + 1) xs)))) e)) ∙ inv

  pub each_none : (i : ℕ) (d : X) (front : List Y) (o : Option (List Y)) → behind front (each f (drop i xs)) ≡ o → i < length xs
      → f (get_or xs i d) ≡ None → o ≡ None
  each_none i d front o inv h e = sym inv ∙ ap (behind front) (each_at i d h ∙ ap (λ r. r >>= (λ y. before y (each f (drop (i + 1) xs)))) e)

  pub each_over : (i : ℕ) (front : List Y) → length xs ≤ i → behind front (each f (drop i xs)) ≡ Some front
  unfolding each
  each_over i front h = ap (λ l. behind front (each f l)) (drop_of_length-le xs h) ∙ ap Some (append-nil front)
