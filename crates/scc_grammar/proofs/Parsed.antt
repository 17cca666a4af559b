-- What `parse` answers, by the verdict on the tokens.
use Rattle.std.proofs.Common.{◌≡◌, ◌⊎◌, List, [], ◌∷◌, Ok, Err, refl, ◌∙◌, ap, subst, inl, inr}
use Rattle.std.specs.Prelude.{unwrap_or}
use Rattle.scc_base.specs.declared.code.Code.TheVariants as code
use Rattle.scc_base.specs.declared.refusal.Place.{Place}
use Rattle.scc_base.specs.declared.refusal.Stop.{Stop}
use Rattle.scc_base.specs.declared.refusal.Stop.TheVariants as stop
use Rattle.scc_tokens.specs.declared.joining.Joined.{Joined}
use Rattle.scc_tree.specs.declared.item.FileTree.{FileTree}
use Rattle.scc_tree.specs.declared.item.Item.{Item}
use Rattle.scc_reading.specs.Claim.{IsRead, IsUnexpected, IsTooDeep, Verdict}
use Rattle.scc_reading.proofs.OneFault.{read_not_unexpected, read_not_deep}
use Rattle.scc_grammar_terminals.specs.declared.halt.Halt.{Halt}
use Rattle.scc_grammar_terminals.specs.declared.halt.Halt.TheVariants as halt
use Rattle.scc_grammar_terminals.specs.Answer.{Fails, head_place}
use Rattle.scc_grammar_spec.specs.LevelsOfItems.{depth}
use Rattle.scc_grammar.specs.Claim.{text_of, IsReadFile, place_at, FaultAt, ReadsOnly, stop_of}
use Rattle.scc_grammar_spec.specs.Items.{Reads}
use Rattle.scc_grammar_spec.specs.ParseFile.{program}
use Rattle.scc_grammar_terminals.specs.Text.{Text}
use Rattle.scc_grammar_complete.proofs.Unique.{one_tree}
use Rattle.scc_grammar_complete.proofs.Whole.{verdict_of}

head_or : (r : Text) (end : Place) → unwrap_or (head_place r) end ≡ place_at r end
head_or [] end = refl
head_or (t ∷ ts) end = refl

pub read_file : (j : Joined) (file : FileTree) → program 128 (text_of j) ≡ Ok (file.items, []) → file.end ≡ j.end → IsReadFile j file
read_file j file e p = record { read = subst (Verdict Reads depth (text_of j)) e (verdict_of (text_of j)); end = p }

pub fault_at : (j : Joined) (h : Halt) → Fails h (program 128 (text_of j)) → FaultAt j (stop_of j.end h)
fault_at j halt.NoMemory f = tt
fault_at j (halt.Unexpected place) f =
    ((f.0, ap (λ p. unwrap_or p j.end) f.2 ∙ head_or f.0 j.end, inl (refl, subst (Verdict Reads depth (text_of j)) f.1 (verdict_of (text_of j)))), refl)
fault_at j (halt.TooDeep place) f =
    ((f.0, ap (λ p. unwrap_or p j.end) f.2 ∙ head_or f.0 j.end, inr (refl, subst (Verdict Reads depth (text_of j)) f.1 (verdict_of (text_of j)))), refl)

pub only_file : (j : Joined) (file : FileTree) (items : List Item) → IsRead Reads depth (text_of j) items → IsReadFile j file → ReadsOnly items (Ok file)
only_file j file items d f = one_tree (text_of j) file.items items f.read.0 d.0

pub only_fault : (j : Joined) (s : Stop) (items : List Item) → IsRead Reads depth (text_of j) items → FaultAt j s → ReadsOnly items (Err s)
only_fault j stop.NoMemory items d f = tt
only_fault j (stop.Refused x) items d f = by_code f.0.2
  where
    by_code : ((x.code ≡ code.Unexpected) × IsUnexpected Reads depth (text_of j) f.0.0) ⊎ ((x.code ≡ code.TooDeep) × IsTooDeep Reads depth (text_of j) f.0.0) → ⊥
    by_code (inl q) = read_not_unexpected Reads depth (text_of j) items f.0.0 d q.1
    by_code (inr q) = read_not_deep Reads depth (text_of j) items f.0.0 d q.1
