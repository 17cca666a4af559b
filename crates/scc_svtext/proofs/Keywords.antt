-- The reserved words: what each of them is, and what begins one.
use Rattle.std.specs.Prelude.{◌≡◌, ℕ, zero, suc, nat_eq, nat_lt, Bool, true, false, cond, not, ◌||◌, ◌&&◌, List, [], ◌∷◌, ◌++◌, length, take, drop, bytes_eq, refl}
use Rattle.std.specs.List.{list_any, starts_with}
use Rattle.std.proofs.Common.{sym, ◌∙◌, ap, subst}
use Rattle.std.proofs.lemmas.Slice.Eq.{bytes_eq-Decides}
use Rattle.scc_svtree.specs.Sound.{is_simple}
use Rattle.scc_svtext.specs.declared.keyword.TheConstants.{KEYWORDS}
use Rattle.scc_svtext.specs.Keyword.{is_keyword, begins_keyword}

abbrev Bytes : Type 0
Bytes = List ℕ

-- a test that all elements pass
abbrev all_of : {X : Type 0} → (X → Bool) → List X → Bool
all_of q [] = true
all_of q (x ∷ xs) = cond (q x) (all_of q xs) false

-- the element that passes, which also passes what all do
record Found {X : Type 0} (p q : X → Bool) (xs : List X) : Type 0 where
  x : X
  found : p x ≡ true
  known : q x ≡ true
  again : (r : X → Bool) → r x ≡ true → list_any r xs ≡ true

or_right : (a b : Bool) → b ≡ true → (a || b) ≡ true
or_right true b h = refl
or_right false b h = h

or_left : (a b : Bool) → a ≡ true → (a || b) ≡ true
or_left true b h = refl
or_left false b h = cc

all_head : (a b : Bool) → cond a b false ≡ true → a ≡ true
all_head true b h = refl
all_head false b h = cc

all_tail : (a b : Bool) → cond a b false ≡ true → b ≡ true
all_tail true b h = h
all_tail false b h = cc

found_in : {X : Type 0} (p q : X → Bool) (xs : List X) → all_of q xs ≡ true → list_any p xs ≡ true → Found p q xs
found_in p q [] h k = absurd (cc)
found_in {X} p q (x ∷ xs) h k = pick (p x) refl k (found_in p q xs (all_tail (q x) _ h))
  where
    pick : (b : Bool) → p x ≡ b → (b || list_any p xs) ≡ true → (list_any p xs ≡ true → Found p q xs) → Found p q (x ∷ xs)
    pick true e k f = record { x = x; found = e; known = all_head (q x) _ h; again = λ r u. or_left (r x) _ u }
    pick false e k f = let g : Found p q xs = f k in record { x = g.x; found = g.found; known = g.known; again = λ r u. or_right (r x) _ (g.again r u) }

-- ---- what holds of every reserved word

-- it is a simple name, has two letters or more, and doesn't end with `_`
abbrev pub ends_well : Bytes → Bool
ends_well [] = false
ends_well (b ∷ []) = not (nat_eq b 95)
ends_well (b ∷ c ∷ w) = ends_well (c ∷ w)

abbrev pub is_usual : Bytes → Bool
is_usual w = is_simple w && nat_lt 1 (length w) && ends_well w

all_usual : all_of (λ w. is_usual w.now) KEYWORDS ≡ true
all_usual = refl

pub usual : (w : Bytes) → is_keyword w ≡ true → is_usual w ≡ true
unfolding is_keyword
usual w h =
    let f : Found (λ k. bytes_eq k.now w) (λ k. is_usual k.now) KEYWORDS = found_in _ _ KEYWORDS all_usual h in
    subst (λ v. is_usual v ≡ true) ((bytes_eq-Decides f.x.now w).0 f.found) f.known

same_bytes : (w : Bytes) → bytes_eq w w ≡ true
same_bytes w = (bytes_eq-Decides w w).1 refl

take_front : (f m : Bytes) → take (length f) (f ++ m) ≡ f
take_front [] m = refl
take_front (b ∷ f) m = ap (λ t. b ∷ t) (take_front f m)

take_and_drop : (n : ℕ) (w : Bytes) → take n w ++ drop n w ≡ w
take_and_drop zero w = refl
take_and_drop (suc n) [] = refl
take_and_drop (suc n) (b ∷ w) = ap (λ t. b ∷ t) (take_and_drop n w)

-- what begins a reserved word goes on to one
pub begins_is : (f : Bytes) → begins_keyword f ≡ true → (m : Bytes) × (is_keyword (f ++ m) ≡ true)
unfolding begins_keyword is_keyword
begins_is f h =
    let g : Found (λ k. starts_with nat_eq k.now f) (λ k. is_usual k.now) KEYWORDS = found_in _ _ KEYWORDS all_usual h in
    let w : Bytes = g.x.now in
    let front : f ≡ take (length f) w = (bytes_eq-Decides f (take (length f) w)).0 g.found in
    let whole : w ≡ f ++ drop (length f) w = sym (take_and_drop (length f) w) ∙ ap (λ t. t ++ drop (length f) w) (sym front) in
    (drop (length f) w, g.again (λ k. bytes_eq k.now (f ++ drop (length f) w)) (subst (λ v. bytes_eq w v ≡ true) whole (same_bytes w)))

-- a front part of a reserved word begins one
pub begins_front : (f m : Bytes) → is_keyword (f ++ m) ≡ true → begins_keyword f ≡ true
unfolding begins_keyword is_keyword
begins_front f m h =
    let g : Found (λ k. bytes_eq k.now (f ++ m)) (λ k. is_usual k.now) KEYWORDS = found_in _ _ KEYWORDS all_usual h in
    let w : Bytes = g.x.now in
    let whole : w ≡ f ++ m = (bytes_eq-Decides w (f ++ m)).0 g.found in
    let front : f ≡ take (length f) w = sym (take_front f m) ∙ ap (take (length f)) (sym whole) in
    g.again (λ k. starts_with nat_eq k.now f) ((bytes_eq-Decides f (take (length f) w)).1 front)
