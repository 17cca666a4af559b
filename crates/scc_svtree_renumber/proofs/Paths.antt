-- First operands one in another.
use Rattle.std.proofs.Common.{◌≡◌, refl, sym, ap, ◌∙◌, List, [], ◌∷◌, ◌++◌, map, Some}
use Rattle.scc_svtree.specs.declared.expr.SvExpr.{SvExpr}
use Rattle.scc_svtree_renumber.specs.Copies.{IsPath, first_of}

pub path-more : (x z w : SvExpr) (ys : List SvExpr) → IsPath x ys z → first_of z ≡ Some w → IsPath x (ys ++ z ∷ []) w
path-more x z w [] h e = (sym h, (w, ap first_of h ∙ e, refl))
path-more x z w (y ∷ ys) h e = (h.0, (h.1.0, h.1.1, path-more h.1.0 z w ys h.1.2 e))

pub path-less : (x z w : SvExpr) (ys : List SvExpr) → IsPath x (ys ++ z ∷ []) w → IsPath x ys z × (first_of z ≡ Some w)
path-less x z w [] h = (sym h.0, ap first_of h.0 ∙ h.1.1 ∙ ap Some h.1.2)
path-less x z w (y ∷ ys) h = let r = path-less h.1.0 z w ys h.1.2 in ((h.0, (h.1.0, h.1.1, r.0)), r.1)

module _ {A B : Type 0} (f : A → B) where
  pub map-more : (xs : List A) (y : A) → map f (xs ++ y ∷ []) ≡ map f xs ++ f y ∷ []
  map-more [] y = refl
  map-more (x ∷ xs) y = ap (λ zs. f x ∷ zs) (map-more xs y)
