-- Names and steps as the code compares them.
use Rattle.std.proofs.Common.{◌≡◌, refl, ℕ, Bool, ◌&&◌, nat_eq, List, [], ◌∷◌, ap, ◌∙◌, cond, Some}
use Rattle.std.specs.Map.{lookup}
use Rattle.std.specs.Cmp.Lexicographic.{pointwise}
use Rattle.scc_base.specs.declared.path.PathPart.{PathPart}
use Rattle.scc_base.specs.declared.path.PathPart.TheVariants as path_part
use Rattle.scc_base.specs.contracts.path.PathPartPartialEq.TheImpl as part_equal
use Rattle.scc_core.specs.declared.places.Branch.{Branch}
use Rattle.scc_core.specs.declared.places.NameStep.{NameStep}
use Rattle.scc_core.specs.declared.places.NameStep.TheVariants as step
use Rattle.scc_core.specs.contracts.places.NameStepPartialEq.TheImpl as step_equal
use Rattle.scc_core.specs.contracts.places.BranchPartialEq.TheImpl as branch_equal
use Rattle.scc_core.specs.Names.{same_part, same_step}

pub step_is : (a b : NameStep) → step_equal.eq-value.it a b ≡ same_step a b
step_is (step.Member a) (step.Member b) = refl
step_is (step.Member a) (step.Index b) = refl
step_is (step.Member a) (step.Local b) = refl
step_is (step.Index a) (step.Member b) = refl
step_is (step.Index a) (step.Index b) = refl
step_is (step.Index a) (step.Local b) = refl
step_is (step.Local a) (step.Member b) = refl
step_is (step.Local a) (step.Index b) = refl
step_is (step.Local a) (step.Local b) = refl

pub part_is : (a b : PathPart) → part_equal.eq-value.it a b ≡ same_part a b
part_is (path_part.Member a) (path_part.Member b) = refl
part_is (path_part.Member a) (path_part.Index b) = refl
part_is (path_part.Index a) (path_part.Member b) = refl
part_is (path_part.Index a) (path_part.Index b) = refl

pub parts_are : (xs ys : List PathPart) → pointwise part_equal.eq-value.it xs ys ≡ pointwise same_part xs ys
parts_are [] [] = refl
parts_are [] (b ∷ ys) = refl
parts_are (a ∷ xs) [] = refl
parts_are (a ∷ xs) (b ∷ ys) = ap (λ x. x && pointwise part_equal.eq-value.it xs ys) (part_is a b) ∙ ap (λ x. same_part a b && x) (parts_are xs ys)

branch_is : (a b : Branch) → branch_equal.eq-value.it a b ≡ (nat_eq a.from b.from && same_step a.step b.step)
branch_is a b = ap (λ x. nat_eq a.from b.from && x) (step_is a.step b.step)

lookup_by : {K X : Type 0} (p q : K → Bool) → ((k : K) → p k ≡ q k) → (es : List (K × X)) → lookup p es ≡ lookup q es
lookup_by p q h [] = refl
lookup_by p q h (e ∷ es) = ap (λ x. cond x (Some e.1) (lookup p es)) (h e.0) ∙ ap (λ x. cond (q e.0) (Some e.1) x) (lookup_by p q h es)

pub same_leads : (a : Branch) (es : List (Branch × ℕ)) → lookup (branch_equal.eq-value.it a) es ≡ lookup (λ b. nat_eq a.from b.from && same_step a.step b.step) es
same_leads a = lookup_by (branch_equal.eq-value.it a) (λ b. nat_eq a.from b.from && same_step a.step b.step) (branch_is a)
