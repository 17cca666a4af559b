-- Laws over the definitions alone.
use Rattle.std.specs.Prelude.{◌≡◌, ℕ, List, false, Some, Ok}
use Rattle.scc_base.specs.Names.{fixed_names}
use Rattle.scc_base.specs.Outside.{Shelf}
use Rattle.scc_svtree.specs.Sound.{IsSound}
use Rattle.scc_tokens_directives.specs.declared.file.Source.{Source}
use Rattle.scc_tokens.specs.declared.joining.Joined.{Joined}
use Rattle.scc_tokens_lexer.specs.declared.token.Token.{Token}
use Rattle.scc_tokens.specs.Join.{join_of}
use Rattle.scc_semantics.specs.Process.{State}
use Rattle.scc_semantics.specs.Start.{IsStart}
use Rattle.scc_thin.specs.declared.design.Design.{Design}
use Rattle.scc_thin_module.specs.Emitted.{module_of}
use Rattle.scc_thin_module.specs.Same.{Matches, NeedsNoReset, ShowsTheSame}
use Rattle.scc_thin_module.specs.Source.{source_of}
use Rattle.scc_thin.specs.Thin.{thin_of}

-- the module of the design of a thin text shows what the design shows
abbrev pub ThinIsShown : Type 0
ThinIsShown = (names : List (List ℕ)) (top : List ℕ) (tokens : List Token) (d : Design) → thin_of names top tokens ≡ Some d → ShowsTheSame d (module_of d)

-- and matches the design
abbrev pub ThinMatches : Type 0
ThinMatches = (d : Design) → Matches d (module_of d)

-- where files are joined to a thin text, the module of its design has no wrong sizes, names, drivers or cycles
abbrev pub ThinIsSound : Type 0
ThinIsSound =
    (shelf : Shelf) (roots names : List (List ℕ)) (sources : List Source) (j : Joined) (top : List ℕ) (d : Design) → join_of shelf fixed_names roots ≡ (names, sources, Ok j)
    → thin_of names top j.tokens ≡ Some d → IsSound false (module_of d)

-- every design of a thin text has a start
abbrev pub ThinStarts : Type 0
ThinStarts = (d : Design) → (s : State) × IsStart (source_of d) s

-- none needs a reset
abbrev pub ThinNeedsNoReset : Type 0
ThinNeedsNoReset = (d : Design) → NeedsNoReset d
