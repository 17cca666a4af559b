-- Arrays whose cells stand one after the other. This project's own.
use Rattle.std.specs.Prelude.{◌≡◌, ℕ, zero, suc, ◌+◌, ◌*◌, ◌<◌, false, List, [], ◌∷◌, ◌++◌, Some, None}
use Rattle.scc_bits.specs.Value.{Number}
use Rattle.scc_core.specs.Elements.{Part, Element}
use Rattle.scc_core.specs.Numbers.{small}
use Rattle.scc_core_spec.specs.Named.{Step, Named, At, Ours, Open, cell_at}
use Rattle.scc_core_spec.specs.Static.{Cells}

-- how many cells an array of these sizes has
abbrev pub size_of : List ℕ → ℕ
size_of [] = 1
size_of (s ∷ ss) = s * size_of ss

-- The cells behind these steps stand one after the other from a first on, the last index going first.
abbrev pub StandsInRows : Cells → List Step → List ℕ → ℕ → Type 0
StandsInRows cs q [] first = cell_at false 0 q cs ≡ Some first
StandsInRows cs q (s ∷ ss) first = (j : ℕ) → j < s → StandsInRows cs (q ++ At j ∷ []) ss (first + j * size_of ss)

-- indices of an array of these sizes, each inside, or one that isn't static
abbrev pub AreUnder : List Step → List ℕ → Type 0
AreUnder [] [] = Unit {0}
AreUnder [] (s ∷ ss) = ⊥
AreUnder (Named n ∷ ps) ss = ⊥
AreUnder (Ours n ∷ ps) ss = ⊥
AreUnder (At i ∷ ps) [] = ⊥
AreUnder (Open n ∷ ps) [] = ⊥
AreUnder (At i ∷ ps) (s ∷ ss) = (i < s) × AreUnder ps ss
AreUnder (Open n ∷ ps) (s ∷ ss) = (n ≡ s) × AreUnder ps ss

-- from the j-th on
abbrev pub each_of : (ℕ → List ℕ) → (count j : ℕ) → List ℕ
each_of f zero j = []
each_of f (suc n) j = f j ++ each_of f n (j + 1)

-- the cells under such indices
abbrev pub rows_of : List Step → List ℕ → ℕ → List ℕ
rows_of [] ss first = first ∷ []
rows_of (Named n ∷ ps) ss first = first ∷ []
rows_of (Ours n ∷ ps) ss first = first ∷ []
rows_of (At i ∷ ps) [] first = first ∷ []
rows_of (Open n ∷ ps) [] first = first ∷ []
rows_of (At i ∷ ps) (s ∷ ss) first = rows_of ps ss (first + i * size_of ss)
rows_of (Open n ∷ ps) (s ∷ ss) first = each_of (λ j. rows_of ps ss (first + j * size_of ss)) s 0

abbrev pub Steps : Type 0
Steps = List Step

abbrev pub Sizes : Type 0
Sizes = List ℕ

-- What is known of the indices of an array of these sizes: none is known of a step that is open, else the number, which is inside.
pub data AreIndices : List Part → List Step → List ℕ → Type 0 where
  done : AreIndices [] [] []
  unknown : {qs : List Part} {ps : List Step} {ss : List ℕ} (s : ℕ) → 0 < s → AreIndices qs ps ss → AreIndices (Element s None ∷ qs) (Open s ∷ ps) (s ∷ ss)
  static : {qs : List Part} {ps : List Step} {ss : List ℕ} (s i : ℕ) (v : Number) → i < s → small v ≡ Some i → AreIndices qs ps ss → AreIndices (Element s (Some v) ∷ qs) (At i ∷ ps) (s ∷ ss)

abbrev pub Parts : Type 0
Parts = List Part
