-- What it means that a module does what the design of a thin text does: the statement of the whole language, for this design.
use Rattle.std.specs.Prelude.{◌≡◌, List, [], map, false}
use Rattle.scc_semantics.specs.Run.{Step, Shown}
use Rattle.scc_semantics.specs.Start.{FindsResets}
use Rattle.scc_blocks_spec.specs.Emitted.{ModuleShows}
use Rattle.scc_blocks_spec.specs.Matches as text
use Rattle.scc_svtree.specs.declared.module.SvModule.{SvModule}
use Rattle.scc_thin.specs.declared.design.Design.{Design}
use Rattle.scc_thin_module.specs.Emitted.{var_of}
use Rattle.scc_thin_module.specs.Source.{source_of, text_of}

-- From every start of the design and every valuation of the module, over every list of steps that fit: the design shows something, the module can take the
-- steps, and all that the module can show has the outputs of all that the design can show, observation by observation.
abbrev pub ShowsTheSame : Design → SvModule → Type 0
ShowsTheSame d m = ModuleShows (text_of d) (source_of d) m

-- The module has the design's name and its ports in order, with names, directions and widths, and nothing else that holds a word. In the words of the whole
-- language: no register is a location's, and none is a thread's.
pub record Matches (d : Design) (m : SvModule) : Type 0 where
  pub name : m.name ≡ d.top
  pub ports : m.vars ≡ map var_of d.ports
  pub whole : text.Matches (text_of d) (λ n. false) (λ l. false) (source_of d) m d.top

-- no thread asks for a reset: the premise on resets holds for whatever is shown
abbrev pub NeedsNoReset : Design → Type 0
NeedsNoReset d = (steps : List Step) (shown : List Shown) → FindsResets (source_of d) [] steps shown
