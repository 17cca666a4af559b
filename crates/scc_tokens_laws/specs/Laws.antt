-- What holds of all files.
use Rattle.std.specs.Prelude.{◌≡◌, ℕ, List, Ok, Err, Some}
use Rattle.scc_base.specs.Outside.{Shelf}
use Rattle.scc_tokens_directives.specs.declared.file.Source.{Source}
use Rattle.scc_tokens_directives.specs.Steps.{Stopped}
use Rattle.scc_tokens_laws.specs.Faulted.{StopsAt}
use Rattle.scc_tokens_laws.specs.Joined.{JoinsTo}
use Rattle.scc_tokens.specs.Join.{join_of}
use Rattle.scc_tokens.specs.declared.joining.Joined.{Joined}

-- what is derived for the parts of the roots is what joining gives, and nothing else is
abbrev pub JoinsWhole : Type 0
JoinsWhole = (shelf : Shelf) (before roots names : List (List ℕ)) (sources : List Source) (j : Joined)
    → (JoinsTo shelf before roots names sources j → join_of shelf before roots ≡ (names, sources, Ok j)) × (join_of shelf before roots ≡ (names, sources, Ok j) → JoinsTo shelf before roots names sources j)

-- and the first fault that is derived among the parts is the one with which joining stops
abbrev pub StopsFirst : Type 0
StopsFirst = (shelf : Shelf) (before roots names : List (List ℕ)) (sources : List Source) (h : Stopped)
    → (StopsAt shelf before roots names sources h → join_of shelf before roots ≡ (names, sources, Err h)) × (join_of shelf before roots ≡ (names, sources, Err h) → StopsAt shelf before roots names sources h)

-- the second holds what the first does
abbrev pub HoldsMore : Shelf → Shelf → Type 0
HoldsMore f g = (n b : List ℕ) → f n ≡ Some b → g n ≡ Some b

-- where names hold more, roots join to what they joined to
abbrev pub JoinsAgain : Type 0
JoinsAgain = (f g : Shelf) (before roots names : List (List ℕ)) (sources : List Source) (j : Joined) → HoldsMore f g → JoinsTo f before roots names sources j → JoinsTo g before roots names sources j
