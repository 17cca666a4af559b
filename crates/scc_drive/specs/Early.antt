-- Commands that no stage after the grammar decides: of these all that the whole theorem says is proved.
use Rattle.std.specs.Prelude.{◌≡◌, ℕ, Bool, true, List, Option, Some, None, String}
use Rattle.std.specs.declared.alloc.Global.{Global}
use Rattle.scc_base.specs.Outside.{Shelf}
use Rattle.scc_tokens_directives.specs.declared.file.Source.{Source}
use Rattle.scc_tree.specs.declared.item.FileTree.{FileTree}
use Rattle.scc_drive_words.specs.declared.command.Command.{Command}
use Rattle.scc_drive_words.specs.declared.command.Command.TheVariants as command
use Rattle.scc_drive.specs.CommandOutcome.{is_plain}
use Rattle.scc_drive_spec.specs.Comes.{IsReadAs}
use Rattle.scc_drive_spec.specs.Words.{command_by, roots_of}

-- The files of these names are read as no tree: joining or the grammar stops them.
abbrev pub IsNoTree : List (List ℕ) → Shelf → Type 0
IsNoTree roots shelf = (names : List (List ℕ)) (sources : List Source) (tree : FileTree) → IsReadAs roots shelf names sources tree → ⊥

abbrev pub IsEarlyBy : Command → List (String Global) → Shelf → Type 0
IsEarlyBy (command.Compile count f) words shelf = IsNoTree (roots_of words count) shelf
IsEarlyBy (command.Sim count stim way) words shelf = IsNoTree (roots_of words count) shelf
IsEarlyBy (command.Svsim stim f) words shelf = is_plain f ≡ true
IsEarlyBy (command.List count) words shelf = IsNoTree (roots_of words count) shelf
IsEarlyBy (command.Gen stages source) words shelf = source ≡ true

abbrev pub AreEarly : Option Command → List (String Global) → Shelf → Type 0
AreEarly None words shelf = Unit {0}
AreEarly (Some c) words shelf = IsEarlyBy c words shelf

-- The words are bad; they ask for the source of a generated design, or for a run of a text of one module and one clock; or the files that they name are read as no tree.
unfoldable pub IsDecidedEarly : Shelf → List (String Global) → Type 0
IsDecidedEarly shelf words = AreEarly (command_by words) words shelf
