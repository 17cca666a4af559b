-- What is first on a list is first on one without what tells nothing new.
use Rattle.std.proofs.Common.{◌≡◌, ◌⊎◌, inl, inr, refl, sym, ap, ◌∙◌, Bool, true, false, ◌||◌, List, [], ◌∷◌, Option, Some, None}
use Rattle.std.specs.List.{list_any}
use Rattle.scc_core_spec.specs.First.{or_else, first_of, NoneOf}
use Rattle.scc_rules_laws.specs.Seen.{Seen, IsCovered, IsThinned}

-- a question to which what names no cell, or the same cells as one before, has no answer where that one has none
pub record IsAsked {A : Type 0} (f : Seen → Option A) : Type 0 where
  pub blank : (s : Seen) → s.cells ≡ [] → f s ≡ None
  pub alike : (s t : Seen) → s.cells ≡ t.cells → s.write ≡ t.write → f t ≡ None → f s ≡ None

module _ {A : Type 0} (f : Seen → Option A) (asked : IsAsked f) where
  pub covered : (s : Seen) (before : List Seen) → IsCovered s before → NoneOf f before → f s ≡ None
  covered s [] c n = absurd c
  covered s (t ∷ ts) (inl e) n = asked.alike s t e.0 e.1 n.0
  covered s (t ∷ ts) (inr c) n = covered s ts c n.1

  pub dropped : (s : Seen) (before : List Seen) → (s.cells ≡ []) ⊎ IsCovered s before → NoneOf f before → f s ≡ None
  dropped s before (inl e) n = asked.blank s e
  dropped s before (inr c) n = covered s before c n

  pub thinned : (before all thin : List Seen) → IsThinned before all thin → NoneOf f before → first_of f all ≡ first_of f thin
  thinned before [] thin is n = ap (first_of f) (sym is)
  thinned before (s ∷ all) thin (inl k) n = by (f s) (λ e. thinned (s ∷ before) all k.0 k.2 (e, n)) ∙ ap (first_of f) (sym k.1)
    where
      by : (o : Option A) → (o ≡ None → first_of f all ≡ first_of f k.0) → or_else o (first_of f all) ≡ or_else o (first_of f k.0)
      by (Some x) h = refl
      by None h = h refl
  thinned before (s ∷ all) thin (inr k) n = ap (λ o. or_else o (first_of f all)) (dropped s before k.0 n) ∙ thinned before all thin k.1 n

-- ---- whether one of a list passes a test

or_or : (a b c : Bool) → (a || (b || c)) ≡ ((a || b) || c)
or_or true b c = refl
or_or false b c = refl

more_absorbs : (m k c : Bool) → (m || c) ≡ m → ((m || k) || c) ≡ (m || k)
more_absorbs true k c h = refl
more_absorbs false true c h = refl
more_absorbs false false c h = h

last_absorbs : (m c : Bool) → ((m || c) || c) ≡ (m || c)
last_absorbs true c = refl
last_absorbs false true = refl
last_absorbs false false = refl

pub record IsTested (c : Seen → Bool) : Type 0 where
  pub blank : (s : Seen) → s.cells ≡ [] → c s ≡ false
  pub alike : (s t : Seen) → s.cells ≡ t.cells → s.write ≡ t.write → c s ≡ c t

module _ (c : Seen → Bool) (tested : IsTested c) where
  -- what is known already tells all that these do
  abbrev pub Absorbs : Bool → List Seen → Type 0
  Absorbs m [] = Unit {0}
  Absorbs m (s ∷ ss) = ((m || c s) ≡ m) × Absorbs m ss

  absorbs_more : (m k : Bool) (ss : List Seen) → Absorbs m ss → Absorbs (m || k) ss
  absorbs_more m k [] a = tt
  absorbs_more m k (s ∷ ss) a = (more_absorbs m k (c s) a.0, absorbs_more m k ss a.1)

  covers : (m : Bool) (s : Seen) (ss : List Seen) → IsCovered s ss → Absorbs m ss → (m || c s) ≡ m
  covers m s [] k a = absurd k
  covers m s (t ∷ ts) (inl e) a = ap (λ b. m || b) (tested.alike s t e.0 e.1) ∙ a.0
  covers m s (t ∷ ts) (inr k) a = covers m s ts k a.1

  drops : (m : Bool) (s : Seen) (ss : List Seen) → (s.cells ≡ []) ⊎ IsCovered s ss → Absorbs m ss → (m || c s) ≡ m
  drops m s ss (inl e) a = ap (λ b. m || b) (tested.blank s e) ∙ or_nothing m
    where
      or_nothing : (b : Bool) → (b || false) ≡ b
      or_nothing true = refl
      or_nothing false = refl
  drops m s ss (inr k) a = covers m s ss k a

  pub thin_any : (m : Bool) (before all thin : List Seen) → IsThinned before all thin → Absorbs m before → (m || list_any c all) ≡ (m || list_any c thin)
  thin_any m before [] thin is a = ap (λ ss. m || list_any c ss) (sym is)
  thin_any m before (s ∷ all) thin (inl k) a =
      or_or m (c s) (list_any c all) ∙ thin_any (m || c s) (s ∷ before) all k.0 k.2 (last_absorbs m (c s), absorbs_more m (c s) before a)
      ∙ sym (or_or m (c s) (list_any c k.0)) ∙ ap (λ ss. m || list_any c ss) (sym k.1)
  thin_any m before (s ∷ all) thin (inr k) a =
      or_or m (c s) (list_any c all) ∙ ap (λ b. b || list_any c all) (drops m s before k.0 a) ∙ thin_any m before all thin k.1 a
