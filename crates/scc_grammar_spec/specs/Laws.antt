-- What is true of the grammar alone.
use Rattle.std.specs.Prelude.{◌≡◌, List}
use Rattle.scc_tree.specs.declared.item.Item.{Item}
use Rattle.scc_grammar_spec.specs.Items.{Reads}
use Rattle.scc_grammar_terminals.specs.Text.{Text}

-- No tokens are two files.
abbrev pub OneTree : Type 0
OneTree = (ts : Text) (a b : List Item) → Reads ts a → Reads ts b → a ≡ b
