-- Casts and signs by themselves.
use Rattle.std.proofs.Common.{◌≡◌, ◌<◌, ◌^◌, ℕ, Bool, false, sym, ap, ◌∙◌, subst}
use Rattle.std.specs.Prelude.{pos}
use Rattle.scc_bits_kinds.specs.Numbers.{low, reading}
use Rattle.scc_bits_kinds.proofs.Low.{low_word, low_reading}
use Rattle.scc_svtree.specs.declared.expr.SvExpr.{SvExpr, fold-roll-SvExpr}
use Rattle.scc_svtree.specs.declared.expr.SvExprNode.{SvExprNode, roll-SvExprNode, fold-roll-SvExprNode}
use Rattle.scc_svtree.specs.declared.expr.SvExprNode.TheVariants.{Cast, rolls-Cast, Sign, rolls-Sign}
use Rattle.scc_svtree.specs.declared.expr.SvExprNode.TheOpen as node
use denote.Hole.Carrier.{roll}
use Rattle.scc_svtree.specs.Sizes.{sized, value_of}
use Rattle.scc_svtree.specs.Term as term
use Rattle.scc_svtree.specs.Term.{Term, term_node, term_of}

abbrev boxed : SvExprNode → SvExpr
boxed n = record { node = n }

pub term_cast : (e : SvExpr) (w : ℕ) (a : SvExpr) → e.node ≡ Cast w a → term_of e ≡ term.Cast w (term_of a)
unfolding roll-SvExprNode roll
term_cast e w a h =
    ap (λ n. term_of (boxed n)) h ∙ ap (λ n. term_of (boxed n)) (rolls-Cast w a)
    ∙ fold-roll-SvExpr Term Term term_node (λ e. e.node) (record { node = roll-SvExprNode (node.Cast w a) })
    ∙ fold-roll-SvExprNode Term Term term_node (λ e. e.node) (node.Cast w a)

pub term_sign : (e : SvExpr) (s : Bool) (a : SvExpr) → e.node ≡ Sign s a → term_of e ≡ term.Sign s (term_of a)
unfolding roll-SvExprNode roll
term_sign e s a h =
    ap (λ n. term_of (boxed n)) h ∙ ap (λ n. term_of (boxed n)) (rolls-Sign s a)
    ∙ fold-roll-SvExpr Term Term term_node (λ e. e.node) (record { node = roll-SvExprNode (node.Sign s a) })
    ∙ fold-roll-SvExprNode Term Term term_node (λ e. e.node) (node.Sign s a)

-- a word in a context of its own length
same_word : (s : Bool) (w x : ℕ) → x < 2 ^ w → low w (reading s w (low w (pos x))) ≡ x
same_word s w x h = ap (λ u. low w (reading s w u)) (low_word w x h) ∙ low_reading s w x h

module _ (width x : ℕ → ℕ) (t : Term) where
  pub cast_word : (w word len bits : ℕ) (s : Bool) → word < 2 ^ w → word ≡ low w (reading s len bits) → len ≡ (sized false width x t).len → s ≡ (sized false width x t).signed → bits ≡ value_of width x t
      → word ≡ value_of width x (term.Cast w t)
  cast_word w word len bits s f e l g b =
      let r = sized false width x t in
      let p : word ≡ low w (reading r.signed r.len (value_of width x t)) = e ∙ ap (λ y. low w (reading y len bits)) g ∙ ap (λ n. low w (reading r.signed n bits)) l ∙ ap (λ y. low w (reading r.signed r.len y)) b in
      sym (same_word r.signed w word f) ∙ ap (λ y. low w (reading r.signed w (low w (pos y)))) p

  pub sign_word : (s : Bool) (word len : ℕ) → word < 2 ^ len → len ≡ (sized false width x t).len → word ≡ value_of width x t → word ≡ value_of width x (term.Sign s t)
  sign_word s word len f l b =
      let r = sized false width x t in
      let P : ℕ → Type 0 = λ n. word < 2 ^ n in
      sym (same_word s r.len word (subst P l f)) ∙ ap (λ y. low r.len (reading s r.len (low r.len (pos y)))) b
