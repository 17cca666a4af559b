-- What a grammar says of tokens that were read, and of the place of a fault. `Reads ts tree` is the grammar: the whole of the tokens is the tree.
-- `deep d` is the first token at which the text opens a level past the limit.
use Rattle.std.specs.Prelude.{◌≡◌, List, [], ◌∷◌, ◌++◌, Option, Some, None, Ok, Err}
use Rattle.scc_reading.specs.Reading.{unexpected, too_deep, Outcome}

module _ {T A : Type 0} (Reads : List T → A → Type 0) where
  -- some text of the grammar begins with these tokens
  abbrev pub Begins : List T → Type 0
  Begins front = (more : List T) × (tree : A) × Reads (front ++ more) tree

  module _ (deep : (ts : List T) (tree : A) → Reads ts tree → Option (List T)) where
    -- None of the tokens opens a level past the limit, in any text that begins with the tokens up to and with it.
    abbrev pub Within : List T → Type 0
    Within front = (f : List T) (t : T) (g : List T) → front ≡ f ++ t ∷ g → (rest : List T) (tree : A) (d : Reads (f ++ t ∷ rest) tree) → deep (f ++ t ∷ rest) tree d ≡ Some (t ∷ rest) → ⊥

    -- The fault stands at the first token of `r`, or at the end: some text begins with the tokens before it, and none with that token, too.
    -- No token before it opens a level past the limit.
    pub record IsUnexpected (ts r : List T) : Type 0 where
      pub front : List T
      pub whole : ts ≡ front ++ r
      pub begins : Begins front
      pub never : (t : T) (more : List T) → r ≡ t ∷ more → Begins (front ++ t ∷ []) → ⊥
      pub short : r ≡ [] → (tree : A) → Reads ts tree → ⊥
      pub within : Within front

    -- The first token of `r` opens a level past the limit, and none before it does, in each text that begins with the tokens up to and with it; and there are such.
    pub record IsTooDeep (ts r : List T) : Type 0 where
      pub front : List T
      pub t : T
      pub more : List T
      pub is : r ≡ t ∷ more
      pub whole : ts ≡ front ++ t ∷ more
      pub begins : Begins (front ++ t ∷ [])
      pub within : Within front
      pub opens : (rest : List T) (tree : A) (d : Reads (front ++ t ∷ rest) tree) → deep (front ++ t ∷ rest) tree d ≡ Some (t ∷ rest)

    -- The tokens are this tree, within the limit.
    abbrev pub IsRead : List T → A → Type 0
    IsRead ts tree = (d : Reads ts tree) × (deep ts tree d ≡ None)

    -- what an outcome says of the tokens
    abbrev pub Verdict : List T → Outcome T A → Type 0
    Verdict ts (Ok x) = IsRead ts x.0
    Verdict ts (Err (unexpected r)) = IsUnexpected ts r
    Verdict ts (Err (too_deep r)) = IsTooDeep ts r
