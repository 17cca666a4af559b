-- Items of sensitivities, as the definitions have them, are as many.
use Rattle.std.proofs.Common.{◌≡◌, refl, sym, ap, ◌∙◌, suc, length, Bool, true, false, not, List, [], ◌∷◌, map, is_some, if◌then◌else◌}
use Rattle.std.specs.Prelude.{filter}
use Rattle.scc_elab_grown.specs.declared.records.Item.{Item}
use Rattle.scc_elab_grown.specs.Records.{item_of}
use Rattle.scc_elab_spec.specs.Grown as grown

pub filter_map_of : {A B : Type 0} (f : A → B) (p : B → Bool) (xs : List A) → filter p (map f xs) ≡ map f (filter (λ x. p (f x)) xs)
filter_map_of f p [] = refl
filter_map_of f p (x ∷ xs) = by (p (f x)) (filter_map_of f p xs)
  where
    by : (b : Bool) → filter p (map f xs) ≡ map f (filter (λ x. p (f x)) xs) → (if b then f x ∷ filter p (map f xs) else filter p (map f xs)) ≡ map f (if b then x ∷ filter (λ x. p (f x)) xs else filter (λ x. p (f x)) xs)
    by true h = ap (λ ys. f x ∷ ys) h
    by false h = h

map_length : {A B : Type 0} (f : A → B) (xs : List A) → length (map f xs) ≡ length xs
map_length f [] = refl
map_length f (x ∷ xs) = ap suc (map_length f xs)

pub edges_are : (xs : List Item) → length (filter (λ i. is_some i.rising) (map item_of xs)) ≡ length (filter (λ i. is_some i.rising) xs)
edges_are xs = ap length (filter_map_of item_of (λ i. is_some i.rising) xs) ∙ map_length item_of (filter (λ i. is_some i.rising) xs)

pub levels_are : (xs : List Item) → length (filter (λ i. not (is_some i.rising)) (map item_of xs)) ≡ length (filter (λ i. not (is_some i.rising)) xs)
levels_are xs = ap length (filter_map_of item_of (λ i. not (is_some i.rising)) xs) ∙ map_length item_of (filter (λ i. not (is_some i.rising)) xs)

pub items_are : (xs : List Item) → length (map item_of xs) ≡ length xs
items_are xs = map_length item_of xs
