-- What a reading function answers: the tree and its rest, or a fault that no text gets past, and each step that was taken can be completed.
use Rattle.std.specs.Prelude.{◌≡◌, ℕ, ◌≤◌, List, [], ◌∷◌, ◌++◌, length, Ok, Err, refl}
use Rattle.std.proofs.Common.{sym, ◌∙◌, ap, append_assoc}
use Rattle.scc_reading.specs.Reading.{unexpected, too_deep, Outcome, Parser}

-- the tokens that were taken, as what puts them before any others
pub record Front (T : Type 0) : Type 0 where
  pub onto : List T → List T
  pub word : List T
  pub is : (ts : List T) → onto ts ≡ word ++ ts

-- a tree, the tokens from it on, and the tokens behind it
abbrev pub Rule : Type 0 → Type 0 → Type 1
Rule T A = A → List T → List T → Type 0

module _ {T : Type 0} where
  abbrev pub no_front : Front T
  no_front = record { onto = λ ts. ts; word = []; is = λ ts. refl }

  abbrev pub one_front : T → Front T
  one_front t = record { onto = λ ts. t ∷ ts; word = t ∷ []; is = λ ts. refl }

  abbrev pub both_fronts : Front T → Front T → Front T
  both_fronts a b = record { onto = λ ts. a.onto (b.onto ts); word = a.word ++ b.word; is = λ ts. a.is (b.onto ts) ∙ ap (λ us. a.word ++ us) (b.is ts) ∙ sym (append_assoc a.word b.word ts) }

  abbrev pub text : List T → Front T
  text w = record { onto = λ ts. w ++ ts; word = w; is = λ ts. refl }

  -- the first tokens are equal, or there are none
  abbrev pub SameHead : List T → List T → Type 0
  SameHead [] [] = Unit {0}
  SameHead [] (u ∷ us) = ⊥
  SameHead (t ∷ ts) [] = ⊥
  SameHead (t ∷ ts) (u ∷ us) = t ≡ u

  pub same_head : (ts : List T) → SameHead ts ts
  same_head [] = tt
  same_head (t ∷ ts) = refl

  same_words : (w r s : List T) → SameHead r s → SameHead (w ++ r) (w ++ s)
  same_words [] r s h = h
  same_words (t ∷ w) r s h = refl

  pub same_fronts : (w : Front T) (r s : List T) → SameHead r s → SameHead (w.onto r) (w.onto s)
  same_fronts w r s h = rw (w.is r, w.is s) (same_words w.word r s h)

  -- some text behind the front makes the whole follow the rule
  pub record Completes {A : Type 0} (R : Rule T A) (w : Front T) : Type 0 where
    pub by : Front T
    pub tree : A
    pub reads : (y : List T) → R tree (w.onto (by.onto y)) y

  pub record Gave {A : Type 0} (least : ℕ) (R : Rule T A) (p : Parser T A) (ts : List T) (a : A) (r : List T) : Type 0 where
    pub w : Front T
    pub long : least ≤ length w.word
    pub whole : ts ≡ w.onto r
    pub reads : (y : List T) → R a (w.onto y) y
    -- it looked no further than at the next token
    pub alike : (s : List T) → SameHead r s → p (w.onto s) ≡ Ok (a, s)

  pub record Stuck {A : Type 0} (R : Rule T A) (p : Parser T A) (ts r : List T) : Type 0 where
    pub w : Front T
    pub whole : ts ≡ w.onto r
    pub completes : Completes R w
    pub alike : (s : List T) → SameHead r s → p (w.onto s) ≡ Err (unexpected s)

  pub record Deep {A : Type 0} (R : Rule T A) (p : Parser T A) (ts r : List T) : Type 0 where
    pub w : Front T
    pub t : T
    pub more : List T
    pub is : r ≡ t ∷ more
    pub whole : ts ≡ w.onto (t ∷ more)
    pub completes : Completes R (both_fronts w (one_front t))
    pub alike : (s : List T) → p (w.onto (t ∷ s)) ≡ Err (too_deep (t ∷ s))

  abbrev pub Answer : {A : Type 0} → ℕ → Rule T A → Parser T A → List T → Outcome T A → Type 0
  Answer least R p ts (Ok x) = Gave least R p ts x.0 x.1
  Answer least R p ts (Err (unexpected r)) = Stuck R p ts r
  Answer least R p ts (Err (too_deep r)) = Deep R p ts r

  pub record Answers {A : Type 0} (least : ℕ) (R : Rule T A) (p : Parser T A) : Type 0 where
    -- something follows the rule
    pub some : Completes R no_front
    pub at : (ts : List T) → Answer least R p ts (p ts)
