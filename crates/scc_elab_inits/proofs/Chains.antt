-- Chains of pointers: what is declared at the outermost, by what is declared at the innermost.
use Rattle.std.proofs.Common.{◌≡◌, refl, ap, List, [], ◌∷◌, ◌++◌, map}
use Rattle.scc_elab_inits.specs.declared.lefts.Spot.{Spot}
use Rattle.scc_elab_inits.specs.Lefts.{SeenLeft}

abbrev pub over_all : List SeenLeft → Spot → Spot
over_all [] s = s
over_all (l ∷ ls) s = l.over (over_all ls s).base

pub over_all_push : {A : Type 0} (f : A → SeenLeft) (xs : List A) (x : A) (s : Spot) → over_all (map f (xs ++ x ∷ [])) s ≡ over_all (map f xs) ((f x).over s.base)
over_all_push f [] x s = refl
over_all_push f (y ∷ xs) x s = ap (λ z. (f y).over z.base) (over_all_push f xs x s)
