-- Paths of a design are those of a core.
use Rattle.std.proofs.Common.{◌≡◌, refl, sym, ap, subst, ◌∙◌, arith, ℕ, zero, suc, ◌+◌, ◌<◌, List, [], ◌∷◌, ◌++◌, map, drop, length, get_or, Option, Some, None, option_map, slice_get, append_assoc}
use Rattle.scc_base.specs.declared.path.PathPart.{PathPart}
use Rattle.scc_base.specs.declared.path.PathPart.TheVariants as path_part
use Rattle.scc_semantics.specs.Location.{Part}
use Rattle.scc_core_view.specs.Terms.{part_of as core_part}
use Rattle.scc_core_view.specs.Programs.{path_of as core_path}
use Rattle.scc_elab_design.specs.declared.VectorSize.{VectorSize as Sized}
use Rattle.scc_plain_view.specs.Designs.{path_of, part_of, vector_of as vector_in}
use Rattle.scc_inline_cells.specs.Views.{as_core}

part_is : (q : PathPart) → core_part q ≡ part_of q
part_is (path_part.Member n) = refl
part_is (path_part.Index i) = refl

pub path_is : (q : List PathPart) → map core_part q ≡ map part_of q
path_is [] = refl
path_is (x ∷ q) = λ i. part_is x i ∷ path_is q i

-- what is made so far, and one more
module _ {A B C : Type 0} (f : A → C) (g : B → C) where
  map_last : (xs : List A) (x : A) → map f (xs ++ x ∷ []) ≡ map f xs ++ f x ∷ []
  map_last [] x = refl
  map_last (y ∷ xs) x = ap (λ z. f y ∷ z) (map_last xs x)

  from_at : (ys : List B) (i : ℕ) (y : B) → i < length ys → y ≡ get_or ys i y → map g (drop i ys) ≡ g y ∷ map g (drop (i + 1) ys)
  from_at [] i y h e = absurd (omega arith)
  from_at (z ∷ ys) zero y h e = let d : y ≡ z = e in λ i. g (sym d i) ∷ map g ys
  from_at (z ∷ ys) (suc i) y h e =
      let a : i < length ys = omega arith in
      let d : suc i + 1 ≡ suc (i + 1) = omega arith in
      from_at ys i y a e ∙ ap (λ n. g y ∷ map g (drop n (z ∷ ys))) (sym d)

  pub made_goes : (xs new : List A) (x : A) (ys : List B) (i : ℕ) (y : B) (all : List C) → i < length ys → y ≡ get_or ys i y → new ≡ xs ++ x ∷ [] → f x ≡ g y
      → map f xs ++ map g (drop i ys) ≡ all → map f new ++ map g (drop (i + 1) ys) ≡ all
  made_goes xs new x ys i y all h e n same inv =
      let rest = map g (drop (i + 1) ys) in
      ap (λ z. map f z ++ rest) n ∙ ap (λ z. z ++ rest) (map_last xs x) ∙ append_assoc (map f xs) (f x ∷ []) rest
      ∙ ap (λ z. map f xs ++ z) (ap (λ z. z ∷ rest) same ∙ sym (from_at ys i y h e)) ∙ inv

map_map : {A B C : Type 0} (f : A → B) (g : B → C) (xs : List A) → map g (map f xs) ≡ map (λ x. g (f x)) xs
map_map f g [] = refl
map_map f g (x ∷ xs) = ap (λ z. g (f x) ∷ z) (map_map f g xs)

pub vectors_are : (vs : List Sized) → map as_core (map vector_in vs) ≡ map (λ v. as_core (vector_in v)) vs
vectors_are vs = map_map vector_in as_core vs
