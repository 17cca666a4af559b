-- What each command writes where nothing stops it. This project's own.
use Rattle.std.specs.Prelude.{◌≡◌, ℕ, Bool, true, false, List, codes, Option, Some, None}
use Rattle.scc_svtree.specs.declared.module.SvModule.{SvModule}
use Rattle.scc_svtext.specs.ModuleText.{module_text}
use Rattle.scc_drive_words.specs.declared.command.Form.{Form}
use Rattle.scc_drive_words.specs.declared.command.Form.TheVariants as form
use Rattle.scc_drive_words.specs.declared.command.SimWay.{SimWay}
use Rattle.scc_drive_words.specs.declared.command.SimWay.TheVariants as sim_way
use Rattle.scc_drive_words.specs.declared.command.SvForm.{SvForm}
use Rattle.scc_drive_words.specs.declared.command.SvForm.TheVariants as sv_form
use Rattle.scc_blocks_spec.specs.Generated.{IsGenerated}
use Rattle.scc_blocks_spec.specs.Listed.{list_text}
use Rattle.scc_blocks_spec.specs.Traced.{IsTrace, IsClockedTrace}
use Rattle.scc_svrun_trace.specs.Traced as emitted
use Rattle.scc_svrun_trace.specs.Clocked.{IsClockTrace}
use Rattle.scc_hier_text.specs.declared.tree.Hier.{Hier}
use Rattle.scc_hier_spec.specs.Flattened.{HierShows}
use Rattle.scc_hier_spec.specs.Homed.{IsSplitByObjects}
use Rattle.scc_hier_spec.specs.Text.{HierReads}
use Rattle.scc_memory_spec.specs.HasMemories.{HasMemories}
use Rattle.scc_memory_spec.specs.Matches.{MemoryShows}
use Rattle.scc_memory_spec.specs.Memory.{MemModule}
use Rattle.scc_memory_spec.specs.Text.{MemReads}
use Rattle.scc_drive_spec.specs.Comes.{Accepted, Stimulus, text_in}
use Rattle.scc_drive_spec.specs.Compiled.{IsModuleOf, name_of, own_of, kept_of, design_of}

-- one module
pub record IsModuleText (many : Bool) (top : List ℕ) (a : Accepted) (text : List ℕ) : Type 0 where
  pub emitted : SvModule
  pub is : IsModuleOf many top a emitted
  pub whole : text ≡ module_text emitted

-- modules for the module objects: the one module, split up, whose flattening shows what the design shows
pub record IsHierText (top : List ℕ) (a : Accepted) (text : List ℕ) : Type 0 where
  pub emitted : SvModule
  pub is : IsModuleOf false top a emitted
  pub modules : Hier
  pub splits : IsSplitByObjects (text_in a.names) a.compiled.plain a.compiled.built a.compiled.core emitted modules
  pub shows : HierShows (name_of a) (own_of a) (kept_of a) (design_of a) top modules
  pub reads : HierReads false text modules

-- the one module with its taken arrays as memories, which shows what the design shows
pub record IsMemoryText (top : List ℕ) (a : Accepted) (text : List ℕ) : Type 0 where
  pub emitted : SvModule
  pub is : IsModuleOf false top a emitted
  pub memories : MemModule
  pub has : HasMemories emitted memories
  pub shows : MemoryShows (name_of a) (own_of a) (kept_of a) (design_of a) top memories
  pub reads : MemReads text memories

-- the text that `compile` writes of an accepted source, by its form
abbrev pub IsCompiled : Form → List ℕ → Accepted → List ℕ → Type 0
IsCompiled form.Whole top a text = IsModuleText false top a text
IsCompiled form.Clocks top a text = IsModuleText true top a text
IsCompiled form.Hier top a text = IsHierText top a text
IsCompiled form.Memory top a text = IsMemoryText top a text

-- The trace that `sim` writes: that of the design. Another order of the scheduler, and places that are moved, don't show.
abbrev pub IsSimulatedBy : SimWay → Accepted → Stimulus → List ℕ → Type 0
IsSimulatedBy sim_way.Whole a s text = IsTrace (name_of a) (design_of a) s.file s.bytes text
IsSimulatedBy (sim_way.Order n) a s text = IsTrace (name_of a) (design_of a) s.file s.bytes text
IsSimulatedBy sim_way.Migrate a s text = IsTrace (name_of a) (design_of a) s.file s.bytes text
IsSimulatedBy sim_way.Clocks a s text = IsClockedTrace (name_of a) (design_of a) s.file s.bytes text

abbrev pub IsSimulated : SimWay → Accepted → Option Stimulus → List ℕ → Type 0
IsSimulated way a None text = ⊥
IsSimulated way a (Some s) text = IsSimulatedBy way a s text

-- the text that `list` writes: registers of a module that is the source's, and its processes
pub record IsListed (top : List ℕ) (a : Accepted) (text : List ℕ) : Type 0 where
  pub emitted : SvModule
  pub is : IsModuleOf false top a emitted
  pub whole : text ≡ list_text (text_in a.names) emitted a.compiled.core

-- the line that `gen` writes: of a module that is the generated source's
pub record IsLine (stages : ℕ) (top : List ℕ) (a : Accepted) (text : List ℕ) : Type 0 where
  pub emitted : SvModule
  pub is : IsModuleOf false top a emitted
  pub line : IsGenerated stages a.compiled.core emitted text

-- the trace that `svsim` writes of a module: of one that is read, or of a flattening
abbrev pub IsTraced : SvForm → SvModule → List ℕ → List ℕ → Type 0
IsTraced sv_form.Whole m stimulus text = emitted.IsTrace 0 m stimulus text
IsTraced sv_form.Hier m stimulus text = emitted.IsTrace 0 m stimulus text
IsTraced sv_form.Clocks m stimulus text = IsClockTrace 0 m stimulus text

-- the name of the top of generated sources
abbrev pub generated_top : List ℕ
generated_top = codes "Gen"

-- what is written: of an accepted source; of a module that was read, and the bytes of a stimulus; of a generated source; or these bytes
pub data Output : Type 0 where
  compiles : Form → Accepted → Output
  simulates : SimWay → Accepted → Output
  lists : Accepted → Output
  traces : SvForm → SvModule → List ℕ → Output
  generates : (stages : ℕ) → Accepted → Output
  says : List ℕ → Output

-- the text, by the name of the top that the words say
abbrev pub IsOutput : List ℕ → Output → List ℕ → Type 0
IsOutput top (compiles f a) text = IsCompiled f top a text
IsOutput top (simulates way a) text = IsSimulated way a a.stimulus text
IsOutput top (lists a) text = IsListed top a text
IsOutput top (traces f m stimulus) text = IsTraced f m stimulus text
IsOutput top (generates n a) text = IsLine n generated_top a text
IsOutput top (says t) text = text ≡ t
