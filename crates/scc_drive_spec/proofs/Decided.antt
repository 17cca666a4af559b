-- Each joined text is a file of the grammar or has a first fault: what the grammar's reader as a function gives says which.
use Rattle.std.proofs.Common.{◌⊎◌, inl, inr, List, Ok, Err, refl}
use Rattle.scc_base.specs.declared.code.Code.{Code}
use Rattle.scc_base.specs.declared.code.Code.TheVariants as code
use Rattle.scc_base.specs.declared.refusal.Place.{Place}
use Rattle.scc_tokens.specs.declared.joining.Joined.{Joined}
use Rattle.scc_tree.specs.declared.item.FileTree.{FileTree}
use Rattle.scc_tree.specs.declared.item.Item.{Item}
use Rattle.scc_reading.specs.Claim.{Verdict}
use Rattle.scc_reading.specs.Reading.{unexpected, too_deep, Outcome}
use Rattle.scc_grammar_terminals.specs.declared.terminal.Seen.{Seen}
use Rattle.scc_grammar_spec.specs.LevelsOfItems.{depth}
use Rattle.scc_grammar_spec.specs.Items.{Reads}
use Rattle.scc_grammar_spec.specs.ParseFile.{program}
use Rattle.scc_grammar_complete.proofs.Whole.{verdict_of}
use Rattle.scc_grammar.specs.Claim.{text_of, place_at, IsReadFile, IsFault}

module _ (j : Joined) where
  abbrev pub Decision : Type 0
  Decision = ((tree : FileTree) × IsReadFile j tree) ⊎ ((code : Code) × (place : Place) × IsFault j code place)

  by_verdict : (o : Outcome Seen (List Item)) → Verdict Reads depth (text_of j) o → Decision
  by_verdict (Ok x) v = inl (record { items = x.0; end = j.end }, record { read = v; end = refl })
  by_verdict (Err (unexpected r)) v = inr (code.Unexpected, place_at r j.end, (r, refl, inl (refl, v)))
  by_verdict (Err (too_deep r)) v = inr (code.TooDeep, place_at r j.end, (r, refl, inr (refl, v)))

  pub decided : Decision
  decided = by_verdict (program 128 (text_of j)) (verdict_of (text_of j))
