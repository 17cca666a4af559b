-- The verdict of a list of tokens is one: a text of the grammar, or one fault.
use Rattle.std.specs.Prelude.{◌≡◌, List, [], ◌∷◌, ◌++◌, length, Option, Some, None, refl, ◌⊎◌}
use Rattle.std.proofs.Common.{sym, ◌∙◌, ap, subst, append_assoc, inl, inr}
use Rattle.scc_reading.specs.Claim.{Begins, Within, IsUnexpected, IsTooDeep, IsRead}

module _ {T : Type 0} where
  -- the first list goes on before the second one ends
  pub record GoesOn (f g r s : List T) : Type 0 where
    pub t : T
    pub more : List T
    pub front : g ≡ f ++ t ∷ more
    pub rest : r ≡ t ∷ (more ++ s)

  pub record Alike (f g r s : List T) : Type 0 where
    pub fronts : f ≡ g
    pub rests : r ≡ s

  -- two ways to part one list
  part : (f g r s : List T) → f ++ r ≡ g ++ s → Alike f g r s ⊎ (GoesOn f g r s ⊎ GoesOn g f s r)
  part [] [] r s e = inl (record { fronts = refl; rests = e })
  part [] (b ∷ g) r s e = inr (inl (record { t = b; more = g; front = refl; rest = e }))
  part (a ∷ f) [] r s e = inr (inr (record { t = a; more = f; front = refl; rest = sym e }))
  part (a ∷ f) (b ∷ g) r s e =
      let both : a ∷ (f ++ r) ≡ b ∷ (g ++ s) = e in
      let head : a ≡ b = cc in
      let tail : f ++ r ≡ g ++ s = cc in
      elim (part f g r s tail) [
        | inl k ↦ inl (record { fronts = rw head (ap (λ us. b ∷ us) k.fronts); rests = k.rests })
        | inr k ↦ elim k [
          | inl l ↦ inr (inl (record { t = l.t; more = l.more; front = rw head (ap (λ us. b ∷ us) l.front); rest = l.rest }))
          | inr l ↦ inr (inr (record { t = l.t; more = l.more; front = rw head (ap (λ us. b ∷ us) l.front); rest = l.rest }))
        ]
      ]

module _ {T A : Type 0} (Reads : List T → A → Type 0) (deep : (ts : List T) (tree : A) → Reads ts tree → Option (List T)) where
  -- what begins with a list begins with each front of it
  begins_before : (f : List T) (t : T) (g : List T) → Begins Reads (f ++ t ∷ g) → Begins Reads (f ++ t ∷ [])
  begins_before f t g b = (g ++ b.0, b.1, rw (append_assoc f (t ∷ []) (g ++ b.0)) (rw (append_assoc f (t ∷ g) b.0) at b.2))

  -- a token past the limit, seen in a text that begins up to and with it
  seen : (ts r f : List T) (t : T) (g : List T) → (d : IsTooDeep Reads deep ts r) → d.front ≡ f → d.t ≡ t → (front : List T) → front ≡ f ++ t ∷ g → Within Reads deep front → ⊥
  seen ts r f t g d is_front is_t front is w =
      let b : Begins Reads (d.front ++ d.t ∷ []) = d.begins in
      let text : Reads (d.front ++ d.t ∷ b.0) b.1 = rw (append_assoc d.front (d.t ∷ []) b.0) at b.2 in
      w d.front d.t g (is ∙ sym (ap (λ us. us ++ t ∷ g) is_front) ∙ ap (λ u. d.front ++ u ∷ g) (sym is_t)) b.0 b.1 text (d.opens b.0 b.1 text)

  pub read_not_unexpected : (ts : List T) (tree : A) (r : List T) → IsRead Reads deep ts tree → IsUnexpected Reads deep ts r → ⊥
  read_not_unexpected ts tree [] d u = u.short refl tree d.0
  read_not_unexpected ts tree (t ∷ more) d u = u.never t more refl (more, tree, rw (append_assoc u.front (t ∷ []) more, ← u.whole) d.0)

  pub read_not_deep : (ts : List T) (tree : A) (r : List T) → IsRead Reads deep ts tree → IsTooDeep Reads deep ts r → ⊥
  read_not_deep ts tree r d u =
      let moved : IsRead Reads deep (u.front ++ u.t ∷ u.more) tree = subst (λ us. IsRead Reads deep us tree) u.whole d in
      let some : deep (u.front ++ u.t ∷ u.more) tree moved.0 ≡ Some (u.t ∷ u.more) = u.opens u.more tree moved.0 in
      let none : deep (u.front ++ u.t ∷ u.more) tree moved.0 ≡ None = moved.1 in
      cc

  -- a token behind which no text goes on stands in no front of a text
  stops_before : (ts r s g : List T) (u : IsUnexpected Reads deep ts r) → GoesOn u.front g r s → Begins Reads g → ⊥
  stops_before ts r s g u k b = u.never k.t (k.more ++ s) k.rest (begins_before u.front k.t k.more (rw k.front at b))

  pub one_unexpected : (ts r s : List T) → IsUnexpected Reads deep ts r → IsUnexpected Reads deep ts s → r ≡ s
  one_unexpected ts r s u v = elim (part u.front v.front r s (sym u.whole ∙ v.whole)) [
    | inl k ↦ k.rests
    | inr k ↦ elim k [ inl l ↦ absurd (stops_before ts r s v.front u l v.begins) | inr l ↦ absurd (stops_before ts s r u.front v l u.begins) ]
  ]

  -- a front with the first token behind it
  deep_whole : (ts r : List T) (d : IsTooDeep Reads deep ts r) → ts ≡ d.front ++ r
  deep_whole ts r d = d.whole ∙ ap (λ us. d.front ++ us) (sym d.is)

  first_of : (ts r s g : List T) (d : IsTooDeep Reads deep ts r) (k : GoesOn d.front g r s) → d.t ≡ k.t
  first_of ts r s g d k = let both : d.t ∷ d.more ≡ k.t ∷ (k.more ++ s) = sym d.is ∙ k.rest in cc

  pub one_deep : (ts r s : List T) → IsTooDeep Reads deep ts r → IsTooDeep Reads deep ts s → r ≡ s
  one_deep ts r s u v = elim (part u.front v.front r s (sym (deep_whole ts r u) ∙ deep_whole ts s v)) [
    | inl k ↦ k.rests
    | inr k ↦ elim k [
      | inl l ↦ absurd (seen ts r u.front l.t l.more u refl (first_of ts r s v.front u l) v.front l.front v.within)
      | inr l ↦ absurd (seen ts s v.front l.t l.more v refl (first_of ts s r u.front v l) u.front l.front u.within)
    ]
  ]

  pub unexpected_not_deep : (ts r s : List T) → IsUnexpected Reads deep ts r → IsTooDeep Reads deep ts s → ⊥
  unexpected_not_deep ts r s u v = elim (part u.front v.front r s (sym u.whole ∙ deep_whole ts s v)) [
    | inl k ↦ u.never v.t v.more (k.rests ∙ v.is) (rw (← k.fronts) at v.begins)
    | inr k ↦ elim k [
      | inl l ↦ stops_before ts r s v.front u l (v.t ∷ (v.begins).0, (v.begins).1, rw (append_assoc v.front (v.t ∷ []) (v.begins).0) at (v.begins).2)
      | inr l ↦ seen ts s v.front l.t l.more v refl (first_of ts s r u.front v l) u.front l.front u.within
    ]
  ]
