-- First answers of walks.
use Rattle.std.proofs.Common.{◌≡◌, refl, sym, ap, ◌∙◌, Bool, true, false, ◌&&◌, ◌||◌, List, [], ◌∷◌, ◌++◌, map, Option, Some, None, option_map}
use Rattle.std.specs.List.{list_any}
use Rattle.scc_core_spec.specs.First.{or_else, first_of, when}
use Rattle.scc_rules_laws.specs.Found.{only}

pub or_none : {A : Type 0} (o : Option A) → or_else o None ≡ o
or_none None = refl
or_none (Some x) = refl

pub or_more : {A : Type 0} (a b c : Option A) → or_else (or_else a b) c ≡ or_else a (or_else b c)
or_more None b c = refl
or_more (Some x) b c = refl

pub first_append : {A B : Type 0} (f : A → Option B) (xs ys : List A) → first_of f (xs ++ ys) ≡ or_else (first_of f xs) (first_of f ys)
first_append f [] ys = refl
first_append f (x ∷ xs) ys = ap (or_else (f x)) (first_append f xs ys) ∙ sym (or_more (f x) (first_of f xs) (first_of f ys))

pub first_map : {A B C : Type 0} (f : B → Option C) (g : A → B) (xs : List A) → first_of f (map g xs) ≡ first_of (λ x. f (g x)) xs
first_map f g [] = refl
first_map f g (x ∷ xs) = ap (or_else (f (g x))) (first_map f g xs)

-- functions that agree find the same
pub first_same : {A B : Type 0} (f g : A → Option B) → ((x : A) → f x ≡ g x) → (xs : List A) → first_of f xs ≡ first_of g xs
first_same f g h xs = ap (λ k. first_of k xs) (λ i x. h x i)

pub first_none : {A B : Type 0} (f : A → Option B) → ((x : A) → f x ≡ None) → (xs : List A) → first_of f xs ≡ None
first_none f h [] = refl
first_none f h (x ∷ xs) = ap (λ o. or_else o (first_of f xs)) (h x) ∙ first_none f h xs

map_or : {A B : Type 0} (f : A → B) (a b : Option A) → option_map f (or_else a b) ≡ or_else (option_map f a) (option_map f b)
map_or f None b = refl
map_or f (Some x) b = refl

-- an answer told of is told of the first
pub first_told : {A B C : Type 0} (h : B → C) (f : A → Option B) (xs : List A) → option_map h (first_of f xs) ≡ first_of (λ x. option_map h (f x)) xs
first_told h f [] = refl
first_told h f (x ∷ xs) = map_or h (f x) (first_of f xs) ∙ ap (or_else (option_map h (f x))) (first_told h f xs)

pub when_told : {A B : Type 0} (h : A → B) (b : Bool) (x : A) → option_map h (when b x) ≡ when b (h x)
when_told h true x = refl
when_told h false x = refl

pub only_told : {A B : Type 0} (h : A → B) (b : Bool) (o : Option A) → option_map h (only b o) ≡ only b (option_map h o)
only_told h true o = refl
only_told h false o = refl

pub only_none : {A : Type 0} (b : Bool) → only {A = A} b None ≡ None
only_none true = refl
only_none false = refl

pub none_first : {A : Type 0} (a b : Option A) → or_else a b ≡ None → a ≡ None
none_first None b is = refl
none_first (Some x) b is = absurd cc

pub none_rest : {A : Type 0} (a b : Option A) → or_else a b ≡ None → b ≡ None
none_rest None b is = is
none_rest (Some x) b is = absurd cc

pub any_none : {A : Type 0} (p : A → Bool) → ((x : A) → p x ≡ false) → (xs : List A) → list_any p xs ≡ false
any_none p h [] = refl
any_none p h (x ∷ xs) = ap (λ b. b || list_any p xs) (h x) ∙ any_none p h xs

pub and_false : (b : Bool) → (b && false) ≡ false
and_false true = refl
and_false false = refl
