-- Joined tokens are a file of the grammar, or have one first fault.
use Rattle.std.proofs.Common.{◌≡◌, ◌⊎◌, inl, inr, ap, sym, ◌∙◌}
use Rattle.scc_base.specs.declared.code.Code.{Code}
use Rattle.scc_base.specs.declared.code.Code.TheVariants as code
use Rattle.scc_base.specs.declared.refusal.Place.{Place}
use Rattle.scc_tokens.specs.declared.joining.Joined.{Joined}
use Rattle.scc_tree.specs.declared.item.FileTree.{FileTree}
use Rattle.scc_reading.specs.Claim.{IsUnexpected, IsTooDeep}
use Rattle.scc_reading.proofs.OneFault.{read_not_unexpected, read_not_deep, one_unexpected, one_deep, unexpected_not_deep}
use Rattle.scc_grammar.specs.Claim.{IsReadFile, IsFault, text_of, place_at}
use Rattle.scc_grammar_spec.specs.LevelsOfItems.{depth}
use Rattle.scc_grammar_spec.specs.Items.{Reads}
use Rattle.scc_grammar_terminals.specs.Text.{Text}

abbrev Faulty : Joined → Code → Text → Type 0
Faulty j c r = ((c ≡ code.Unexpected) × IsUnexpected Reads depth (text_of j) r) ⊎ ((c ≡ code.TooDeep) × IsTooDeep Reads depth (text_of j) r)

pub not_both : (j : Joined) (file : FileTree) (c : Code) (place : Place) → IsReadFile j file → IsFault j c place → ⊥
not_both j file c place f g = by_code g.2
  where
    by_code : Faulty j c g.0 → ⊥
    by_code (inl q) = read_not_unexpected Reads depth (text_of j) file.items g.0 f.read q.1
    by_code (inr q) = read_not_deep Reads depth (text_of j) file.items g.0 f.read q.1

same_rest : (j : Joined) (c d : Code) (r s : Text) → Faulty j c r → Faulty j d s → (c ≡ d) × (r ≡ s)
same_rest j c d r s (inl p) (inl q) = (p.0 ∙ sym q.0, one_unexpected Reads depth (text_of j) r s p.1 q.1)
same_rest j c d r s (inl p) (inr q) = absurd (unexpected_not_deep Reads depth (text_of j) r s p.1 q.1)
same_rest j c d r s (inr p) (inl q) = absurd (unexpected_not_deep Reads depth (text_of j) s r q.1 p.1)
same_rest j c d r s (inr p) (inr q) = (p.0 ∙ sym q.0, one_deep Reads depth (text_of j) r s p.1 q.1)

pub one_fault : (j : Joined) (c d : Code) (p q : Place) → IsFault j c p → IsFault j d q → (c ≡ d) × (p ≡ q)
one_fault j c d p q f g = let same = same_rest j c d f.0 g.0 f.2 g.2 in (same.0, f.1 ∙ ap (λ r. place_at r j.end) same.1 ∙ sym g.1)
