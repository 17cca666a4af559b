-- The main theorem, for status 0. Each definition is reached from here by the name of its crate and file; docs/DEFINITIONS.md walks through them. What status 1 says
-- is `IsRefused` of `Answer`, in the clause `refused` of `run`. This project's own.
use Rattle.std.specs.Prelude.{◌≡◌, ℕ, List, Bool, false, String, Option, Some}
use Rattle.std.specs.declared.alloc.Global.{Global}
use Rattle.std.specs.Io.KnownBytes.{Appends}
use Rattle.scc_base.specs.Outside.{Shelf}
use Rattle.scc_semantics.specs.Location.{Location}
use Rattle.scc_semantics.specs.Design as source
use Rattle.scc_blocks_spec.specs.Matches.{Matches}
use Rattle.scc_blocks_spec.specs.Emitted.{ModuleShows}
use Rattle.scc_svtree.specs.declared.module.SvModule.{SvModule}
use Rattle.scc_svtext.specs.Emitted.{SvReads}
use Rattle.scc_base.specs.Names.{fixed_names}
use Rattle.scc_tokens_directives.specs.declared.file.Source.{Source}
use Rattle.scc_tokens.specs.declared.joining.Joined.{Joined}
use Rattle.scc_tokens.specs.Files.{first_part}
use Rattle.scc_tokens_laws.specs.Joined.{JoinsTo}
use Rattle.scc_tree.specs.declared.item.FileTree.{FileTree}
use Rattle.scc_grammar.specs.Claim.{IsReadFile}
use Rattle.scc_thin.specs.declared.design.Design.{Design}
use Rattle.scc_thin.specs.Thin.{thin_of}
use Rattle.scc_thin_module.specs.Source.{source_of, text_of}
use Rattle.scc_drive_words.specs.declared.command.Command.TheVariants as command
use Rattle.scc_drive_words.specs.declared.command.Form.TheVariants as form
use Rattle.scc_drive_spec.specs.Words.{command_by, roots_of, word_at}

-- A design was compiled: `many` says that it may have several clocks, `top` is the name of its top, `name` the name that emitted text has for a location, `own`
-- the names that threads' states and counters have there, `kept` the locations that may be registers; `old` and `new` are what the output took before and after.
pub record IsCompiled (many : Bool) (top : List ℕ) (name : Location → List ℕ) (own : List ℕ → Bool) (kept : Location → Bool) (design : source.Design) (old new : Option (List ℕ)) : Type 0 where
  -- some bytes were written, and nothing else
  pub text : List ℕ
  pub written : Appends old new text
  -- they are the text of this module, and of no other; sizes, names, drivers and the order of its blocks are right
  pub emitted : SvModule
  pub reads : SvReads many text emitted
  -- its name, its ports in order with names, directions and widths, and its registers are the design's
  pub matches : Matches name own kept design emitted top
  -- From every start, over every list of steps that fit, the design shows something and the module can take the steps; and from alike starts, where each clock's
  -- first edge finds the resets active, all that the module can show is what the design can show: its outputs and registers, before and behind each edge.
  pub shows : ModuleShows name design emitted

-- The words ask for the text of one module, and the files that they name, of each at most its first 1,048,577 bytes, join to tokens that the grammar reads as this
-- tree.
pub record IsRead (shelf : Shelf) (words : List (String Global)) (tree : FileTree) : Type 0 where
  pub count : ℕ
  pub asked : command_by words ≡ Some (command.Compile count form.Whole)
  pub names : List (List ℕ)
  pub sources : List Source
  pub joined : Joined
  pub joins : JoinsTo (first_part shelf) fixed_names (roots_of words count) names sources joined
  pub reads : IsReadFile joined tree

-- The design that a tree has for a top's name, by the names that were met and the tokens that the tree was read from. Today it is that of a thin text.
abbrev pub IsDesign : List (List ℕ) → Joined → FileTree → List ℕ → Design → Type 0
IsDesign names joined tree top d = thin_of names top joined.tokens ≡ Some d

-- If the files that the words name are read as a tree, and it has a design for the name that the words say, the output is its module. The design of a thin text
-- has neither clock nor register, so there are no names of threads and no locations that are kept, every start is alike every valuation, and no reset is asked for.
abbrev pub MainTheorem : Shelf → List (String Global) → (old new : Option (List ℕ)) → Type 0
MainTheorem shelf words old new = (tree : FileTree) (read : IsRead shelf words tree) (d : Design) → IsDesign read.names read.joined tree (word_at words 1) d
    → IsCompiled false d.top (text_of d) (λ n. false) (λ l. false) (source_of d) old new
