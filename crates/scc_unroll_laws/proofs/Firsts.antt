-- Lists that are gone over one by one, and the first answer among them.
use Rattle.std.proofs.Common.{◌≡◌, refl, sym, ap, ◌∙◌, List, [], ◌∷◌, ◌++◌, map, Option, Some, None}
use Rattle.scc_core_spec.specs.First.{first_of, or_else}

map_one : {A B : Type 0} (f : A → B) (xs : List A) (x : A) → map f (xs ++ x ∷ []) ≡ map f xs ++ f x ∷ []
map_one f [] x = refl
map_one f (y ∷ xs) x = ap (λ l. f y ∷ l) (map_one f xs x)

-- one more of each
pub map_both : {A B : Type 0} (f : A → B) (os us ys : List A) (n p : A) → us ≡ os ++ n ∷ [] → map f os ≡ map f ys → f n ≡ f p → map f us ≡ map f (ys ++ p ∷ [])
map_both f os us ys n p e h k = ap (map f) e ∙ map_one f os n ∙ ap (λ l. l ++ f n ∷ []) h ∙ ap (λ x. map f ys ++ x ∷ []) k ∙ sym (map_one f ys p)

pub map_changed : {A B : Type 0} (f : A → B) (g : B → B) (os us ys : List A) (n p : A) → us ≡ os ++ n ∷ [] → map f os ≡ map g (map f ys) → f n ≡ g (f p) → map f us ≡ map g (map f (ys ++ p ∷ []))
map_changed f g os us ys n p e h k =
    ap (map f) e ∙ map_one f os n ∙ ap (λ l. l ++ f n ∷ []) h ∙ ap (λ x. map g (map f ys) ++ x ∷ []) k ∙ sym (map_one g (map f ys) (f p)) ∙ ap (map g) (sym (map_one f ys p))

passed : {C : Type 0} (o a b d : Option C) → (a ≡ None → b ≡ d) → or_else o a ≡ None → or_else o b ≡ d
passed None a b d more h = more h
passed (Some c) a b d more h = absurd (cc h)

first_both : {A B C : Type 0} (f : B → Option C) (g : A → B) (ys : List A) (p : A) (zs : List A) → first_of f (map g ys) ≡ None → first_of f (map g (ys ++ p ∷ zs)) ≡ or_else (f (g p)) (first_of f (map g zs))
first_both f g [] p zs h = refl
first_both f g (y ∷ ys) p zs h = passed (f (g y)) (first_of f (map g ys)) (first_of f (map g (ys ++ p ∷ zs))) (or_else (f (g p)) (first_of f (map g zs))) (first_both f g ys p zs) h

pub none_more : {A B C : Type 0} (f : B → Option C) (g : A → B) (ys : List A) (p : A) → first_of f (map g ys) ≡ None → f (g p) ≡ None → first_of f (map g (ys ++ p ∷ [])) ≡ None
none_more f g ys p h k = first_both f g ys p [] h ∙ ap (λ o. or_else o None) k

pub first_here : {A B C : Type 0} (f : B → Option C) (g : A → B) (ps ys zs : List A) (p : A) (r : C) → ps ≡ ys ++ p ∷ zs → first_of f (map g ys) ≡ None → f (g p) ≡ Some r → first_of f (map g ps) ≡ Some r
first_here f g ps ys zs p r e h k = ap (λ l. first_of f (map g l)) e ∙ first_both f g ys p zs h ∙ ap (λ o. or_else o (first_of f (map g zs))) k
