-- Paths that the code compares are compared as the definitions do.
use Rattle.std.proofs.Common.{◌≡◌, refl, ap, ◌∙◌, ◌&&◌, List, [], ◌∷◌}
use Rattle.std.specs.Cmp.Lexicographic.{pointwise}
use Rattle.scc_base.specs.declared.path.PathPart.{PathPart}
use Rattle.scc_base.specs.declared.path.PathPart.TheVariants as path_part
use Rattle.scc_base.specs.contracts.path.PathPartPartialEq.TheImpl as part_equal
use Rattle.scc_semantics.specs.Location.{same_part, same_path}
use Rattle.scc_core_view.specs.Programs.{path_of}
use Rattle.scc_core_view.specs.Terms.{part_of}

part_is : (a b : PathPart) → part_equal.eq-value.it a b ≡ same_part (part_of a) (part_of b)
part_is (path_part.Member a) (path_part.Member b) = refl
part_is (path_part.Member a) (path_part.Index b) = refl
part_is (path_part.Index a) (path_part.Member b) = refl
part_is (path_part.Index a) (path_part.Index b) = refl

pub path_is : (xs ys : List PathPart) → pointwise part_equal.eq-value.it xs ys ≡ same_path (path_of xs) (path_of ys)
path_is [] [] = refl
path_is [] (b ∷ ys) = refl
path_is (a ∷ xs) [] = refl
path_is (a ∷ xs) (b ∷ ys) = ap (λ x. x && pointwise part_equal.eq-value.it xs ys) (part_is a b) ∙ ap (λ x. same_part (part_of a) (part_of b) && x) (path_is xs ys)
