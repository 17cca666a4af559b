-- What a module is of an accepted source: all that is promised of the module that `compile` writes. This project's own.
use Rattle.std.specs.Prelude.{ℕ, Bool, List}
use Rattle.scc_semantics.specs.Location.{Location}
use Rattle.scc_semantics.specs.Design as source
use Rattle.scc_svtree.specs.declared.module.SvModule.{SvModule}
use Rattle.scc_svtree.specs.Sound.{IsSound}
use Rattle.scc_blocks_spec.specs.Built.{InOrder, HasRegisters, IsBounded}
use Rattle.scc_blocks_spec.specs.Emitted.{ModuleShows}
use Rattle.scc_blocks_spec.specs.Matches.{Matches}
use Rattle.scc_blocks_spec.specs.Names.{is_own, is_kept_at}
use Rattle.scc_inline_spec.specs.Inlined.{home_of}
use Rattle.scc_plain_spec.specs.Designs.{design_in}
use Rattle.scc_drive_spec.specs.Comes.{Accepted, name_in, text_in}

-- of an accepted source: the names of its locations, its threads' own names, the locations that may be registers, and its design
abbrev pub name_of : Accepted → Location → List ℕ
name_of a = name_in a.names a.compiled

abbrev pub own_of : Accepted → List ℕ → Bool
own_of a = is_own (text_in a.names) a.compiled.core

abbrev pub kept_of : Accepted → Location → Bool
kept_of a = is_kept_at (home_of a.compiled.plain a.compiled.built) a.compiled.core

abbrev pub design_of : Accepted → source.Design
design_of a = design_in a.compiled

-- The module is that of an accepted source.
pub record IsModuleOf (many : Bool) (top : List ℕ) (a : Accepted) (m : SvModule) : Type 0 where
  pub sound : IsSound many m
  -- its name, its ports in order with names, directions and widths, and its registers are the design's
  pub matches : Matches (name_of a) (own_of a) (kept_of a) (design_of a) m top
  -- From every start, over every list of steps that fit, the design shows something and the module can take the steps; and from alike starts, where each clock's
  -- first edge finds the resets active, all that the module can show is what the design can show: its outputs and registers, before and after each edge.
  pub shows : ModuleShows (name_of a) (design_of a) m
  -- its blocks stand in the order of the processes, and none mentions more than its process names
  pub in_order : InOrder (text_in a.names) a.compiled.core m
  -- its registers are those of cells, states and counters, each with the fewest bits, and no others
  pub registers : HasRegisters (text_in a.names) a.compiled.core m
  -- it has at most eight statements for each unit of the core's measure, and one for each variable
  pub bounded : IsBounded a.compiled.core m
