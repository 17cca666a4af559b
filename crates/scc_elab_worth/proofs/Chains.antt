-- Chains of operands that stand first, and of pointers: what is said of the outermost, by what is said of the innermost.
use Rattle.std.proofs.Common.{◌≡◌, refl, sym, ap, subst, ◌∙◌, arith, ℕ, zero, suc, ◌+◌, ◌-◌, ◌<◌, nat_lt, get_or, drop, length, List, [], ◌∷◌, ◌++◌, map, Bool, true, ◌||◌, Ok, Err}
use Rattle.std.specs.Prelude.{Result}
use Rattle.scc_base.specs.declared.refusal.Refusal.{Refusal}
use Rattle.scc_base.specs.declared.refusal.Stop.{Stop}
use Rattle.scc_base.specs.declared.refusal.Stop.TheVariants as stop
use Rattle.scc_base.specs.declared.refusal.Place.{Place}
use Rattle.scc_bits.specs.Value.{Number}
use Rattle.scc_elab_worth.specs.Said.{Said, Is, Refuses, and_said, Gives}
use Rattle.scc_elab_worth.specs.Spots.{Spot}
use Rattle.scc_elab_worth.specs.Worths.{SeenExpr, SeenLeft, SeenPart, is_more, walked}

abbrev pub over_all : List SeenExpr → Said Number → Said Number
over_all [] v = v
over_all (e ∷ es) v = and_said (over_all es v) e.over

pub over_all_push : {A : Type 0} (f : A → SeenExpr) (xs : List A) (x : A) (v : Said Number) → over_all (map f (xs ++ x ∷ [])) v ≡ over_all (map f xs) (and_said v (f x).over)
over_all_push f [] x v = refl
over_all_push f (y ∷ xs) x v = ap (λ z. and_said z (f y).over) (over_all_push f xs x v)

abbrev pub beyond_all : Bool → List SeenLeft → Said Spot → Said Spot
beyond_all soft [] s = s
beyond_all soft (l ∷ ls) s = and_said (beyond_all soft ls s) (l.over soft true)

pub beyond_all_push : {A : Type 0} (f : A → SeenLeft) (soft : Bool) (xs : List A) (x : A) (s : Said Spot) → beyond_all soft (map f (xs ++ x ∷ [])) s ≡ beyond_all soft (map f xs) (and_said s ((f x).over soft true))
beyond_all_push f soft [] x s = refl
beyond_all_push f soft (y ∷ xs) x s = ap (λ z. and_said z ((f y).over soft true)) (beyond_all_push f soft xs x s)

-- what is said of the whole, by the answer for what is inside
abbrev pub Carries : {X Y Z : Type 0} → (X → Y) → (Said Y → Said Z) → Result X Stop → Said Z → Type 0
Carries view f (Ok x) t = f (Is (view x)) ≡ t
Carries view f (Err (stop.Refused r)) t = f (Refuses r) ≡ t
Carries view f (Err stop.NoMemory) t = Unit {0}

pub carried : {X Y Z : Type 0} (view : X → Y) (f : Said Y → Said Z) (r : Result X Stop) (w : Said Y) (t : Said Z) → Gives view r w → f w ≡ t → Carries view f r t
carried view f (Ok x) w t g e = ap f (sym g) ∙ e
carried view f (Err (stop.Refused r)) w t g e = ap f (sym g) ∙ e
carried view f (Err stop.NoMemory) w t g e = tt

over_refuses : (es : List SeenExpr) (r : Refusal) → over_all es (Refuses r) ≡ Refuses r
over_refuses [] r = refl
over_refuses (e ∷ es) r = ap (λ z. and_said z e.over) (over_refuses es r)

beyond_refuses : (soft : Bool) (ls : List SeenLeft) (r : Refusal) → beyond_all soft ls (Refuses r) ≡ Refuses r
beyond_refuses soft [] r = refl
beyond_refuses soft (l ∷ ls) r = ap (λ z. and_said z (l.over soft true)) (beyond_refuses soft ls r)

-- a chain that stops inside stops as a whole
pub over_stops : {X : Type 0} (view : X → Number) (es : List SeenExpr) (z : Stop) (t : Said Number) → Carries view (over_all es) (Err z) t → Gives view (Err z) t
over_stops view es (stop.Refused r) t e = sym e ∙ over_refuses es r
over_stops view es stop.NoMemory t e = tt

pub beyond_stops : {X : Type 0} (view : X → Spot) (soft : Bool) (ls : List SeenLeft) (z : Stop) (t : Said Spot) → Carries view (beyond_all soft ls) (Err z) t → Gives view (Err z) t
beyond_stops view soft ls (stop.Refused r) t e = sym e ∙ beyond_refuses soft ls r
beyond_stops view soft ls stop.NoMemory t e = tt

-- a chain at its end
pub carries_end : {X Y : Type 0} (view : X → Y) (r : Result X Stop) (t : Said Y) → Carries view (λ s. s) r t → Gives view r t
carries_end view (Ok x) t e = sym e
carries_end view (Err (stop.Refused r)) t e = sym e
carries_end view (Err stop.NoMemory) t e = tt

pub over_stops_at : {X : Type 0} (view : X → Number) (es : List SeenExpr) (r : Result X Stop) (z : Stop) (t : Said Number) → r ≡ Err z → Carries view (over_all es) r t → Gives view (Err z) t
over_stops_at view es r z t e h = over_stops view es z t (subst (λ r. Carries view (over_all es) r t) e h)

pub beyond_stops_at : {X : Type 0} (view : X → Spot) (soft : Bool) (ls : List SeenLeft) (r : Result X Stop) (z : Stop) (t : Said Spot) → r ≡ Err z → Carries view (beyond_all soft ls) r t → Gives view (Err z) t
beyond_stops_at view soft ls r z t e h = beyond_stops view soft ls z t (subst (λ r. Carries view (beyond_all soft ls) r t) e h)

-- ---- parts one after another

positive : (n : ℕ) → nat_lt 0 (suc n) ≡ true
positive n = grind arith

more_is : {A : Type 0} (f : A → SeenPart) (xs : List A) (n : ℕ) → n ≡ length xs → nat_lt 0 n ≡ is_more (map f xs)
more_is f [] n e = ap (λ m. nat_lt 0 m) e
more_is f (x ∷ xs) n e = ap (λ m. nat_lt 0 m) e ∙ positive (length xs)

-- from a part on, of which so many more come
walked_at : {A : Type 0} (p : Place) (soft follow : Bool) (f : A → SeenPart) (xs : List A) (i : ℕ) (x : A) (s : Spot) (more : ℕ) → i < length xs → x ≡ get_or xs i x → more ≡ length xs - (i + 1)
    → walked p soft follow (map f (drop i xs)) s ≡ and_said (f x p soft (follow || nat_lt 0 more) s) (walked p soft follow (map f (drop (i + 1) xs)))
walked_at p soft follow f [] i x s more h e c = absurd (omega arith)
walked_at p soft follow f (y ∷ ys) zero x s more h e c =
    let q : more ≡ length ys = omega (arith, c) in
    let d : x ≡ y = e in
    sym (λ i. and_said (f (d i) p soft (follow || more_is f ys more q i) s) (walked p soft follow (map f ys)))
walked_at p soft follow f (y ∷ ys) (suc i) x s more h e c =
    let a : i < length ys = omega arith in
    let b : more ≡ length ys - (i + 1) = omega (arith, c) in
    let d : suc i + 1 ≡ suc (i + 1) = omega arith in
    walked_at p soft follow f ys i x s more a e b ∙ ap (λ n. and_said (f x p soft (follow || nat_lt 0 more) s) (walked p soft follow (map f (drop n (y ∷ ys))))) (sym d)

pub walk_goes : {A : Type 0} (p : Place) (soft follow : Bool) (f : A → SeenPart) (xs : List A) (i : ℕ) (x : A) (s next : Spot) (more : ℕ) (on : Bool) (t : Said Spot) → i < length xs → x ≡ get_or xs i x → more ≡ length xs - (i + 1)
    → on ≡ (follow || nat_lt 0 more) → walked p soft follow (map f (drop i xs)) s ≡ t → f x p soft on s ≡ Is next → walked p soft follow (map f (drop (i + 1) xs)) next ≡ t
walk_goes p soft follow f xs i x s next more on t h e c o inv g =
    ap (λ z. and_said z (walked p soft follow (map f (drop (i + 1) xs)))) (sym g ∙ ap (λ b. f x p soft b s) o) ∙ sym (walked_at p soft follow f xs i x s more h e c) ∙ inv

pub walk_stops : {A X : Type 0} (view : X → Spot) (p : Place) (soft follow : Bool) (f : A → SeenPart) (xs : List A) (i : ℕ) (x : A) (s : Spot) (more : ℕ) (on : Bool) (t : Said Spot) (z : Stop) → i < length xs → x ≡ get_or xs i x → more ≡ length xs - (i + 1)
    → on ≡ (follow || nat_lt 0 more) → walked p soft follow (map f (drop i xs)) s ≡ t → Gives view (Err z) (f x p soft on s) → Gives view (Err z) t
walk_stops view p soft follow f xs i x s more on t (stop.Refused r) h e c o inv g =
    sym inv ∙ walked_at p soft follow f xs i x s more h e c ∙ ap (λ z. and_said z (walked p soft follow (map f (drop (i + 1) xs)))) (ap (λ b. f x p soft b s) (sym o) ∙ g)
walk_stops view p soft follow f xs i x s more on t stop.NoMemory h e c o inv g = tt
