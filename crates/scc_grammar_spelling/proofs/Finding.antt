-- Look-ups by place in a list whose elements have texts.
use Rattle.std.proofs.Common.{◌≡◌, ℕ, suc, ◌+◌, Bool, true, false, cond, not, List, [], ◌∷◌, map, length, position, Option, Some, None, option_map, bytes_eq, nat_lt, refl, sym, ap, ◌∙◌, arith}
use Rattle.std.specs.List.{find, prefix_len, zip}
use Rattle.std.proofs.lemmas.Bool.Decides.{nat_tests}
use Rattle.std.proofs.lemmas.Slice.Eq.{bytes_eq-Decides}

-- the first place in a list, by its head and the rest
pub position_cons : {X : Type 0} (p : X → Bool) (x : X) (xs : List X) → position p (x ∷ xs) ≡ cond (p x) (Some 0) (option_map suc (position p xs))
position_cons p x xs = by (p x)
  where
    k : ℕ
    k = prefix_len (λ y. not (p y)) xs

    at_head : (a : Bool) → nat_lt 0 (suc (length xs)) ≡ a → cond {A = Option ℕ} a (Some 0) None ≡ Some 0
    at_head true e = refl
    at_head false e = absurd (grind (arith, nat_tests, e))

    behind : (a b : Bool) → nat_lt (1 + k) (suc (length xs)) ≡ a → nat_lt k (length xs) ≡ b
        → cond a (Some (1 + k)) None ≡ option_map suc (cond b (Some k) None)
    behind true true e g = ap Some (omega arith)
    behind false false e g = refl
    behind true false e g = absurd (grind (arith, nat_tests, e, g))
    behind false true e g = absurd (grind (arith, nat_tests, e, g))

    by : (b : Bool) → cond (nat_lt (cond (not b) (1 + k) 0) (suc (length xs))) (Some (cond (not b) (1 + k) 0)) None
        ≡ cond b (Some 0) (option_map suc (cond (nat_lt k (length xs)) (Some k) None))
    by true = at_head _ refl
    by false = behind _ _ refl refl

-- what f gives of the numbers from k on, one for each of a list
abbrev pub numbered : {A B : Type 0} → (ℕ → B) → ℕ → List A → List B
numbered f k [] = []
numbered f k (w ∷ ws) = f k ∷ numbered f (suc k) ws

one_further : {B : Type 0} (f : ℕ → B) (k : ℕ) (o : Option ℕ) → option_map (λ i. f (k + i)) (option_map suc o) ≡ option_map (λ i. f (suc k + i)) o
one_further f k None = refl
one_further f k (Some i) = ap (λ n. Some (f n)) (omega arith)

pub from_zero : {B : Type 0} (f : ℕ → B) (o : Option ℕ) → option_map f o ≡ option_map (λ i. f (0 + i)) o
from_zero f None = refl
from_zero f (Some i) = ap (λ n. Some (f n)) (omega arith)

pub same_number : (o : Option ℕ) → o ≡ option_map (λ i. 0 + i) o
same_number None = refl
same_number (Some i) = ap Some (omega arith)

-- what f gives of the place of a text is what stands beside that text
pub beside : {A B : Type 0} (text_of : A → List ℕ) (f : ℕ → B) (k : ℕ) (ws : List A) (text : List ℕ)
    → option_map (λ i. f (k + i)) (position (λ w. bytes_eq (text_of w) text) ws) ≡ option_map (λ r. r.1) (find (λ r. bytes_eq r.0 text) (zip (map text_of ws) (numbered f k ws)))
beside text_of f k [] text = refl
beside {A} {B} text_of f k (w ∷ ws) text =
    ap (option_map (λ i. f (k + i))) (position_cons (λ w. bytes_eq (text_of w) text) w ws)
    ∙ by (bytes_eq (text_of w) text) (beside text_of f (suc k) ws text)
  where
    by : (v : Bool)
        → option_map (λ i. f (suc k + i)) (position (λ w. bytes_eq (text_of w) text) ws) ≡ option_map (λ r. r.1) (find (λ r. bytes_eq r.0 text) (zip (map text_of ws) (numbered f (suc k) ws)))
        → option_map (λ i. f (k + i)) (cond v (Some 0) (option_map suc (position (λ w. bytes_eq (text_of w) text) ws)))
        ≡ option_map (λ r. r.1) (cond v (Some (text_of w, f k)) (find (λ r. bytes_eq r.0 text) (zip (map text_of ws) (numbered f (suc k) ws))))
    by true rest = ap (λ n. Some (f n)) (omega arith)
    by false rest = one_further f k (position (λ w. bytes_eq (text_of w) text) ws) ∙ rest

abbrev first_or : {B : Type 0} → B → List B → B
first_or d [] = d
first_or d (x ∷ xs) = x

abbrev behind_first : {B : Type 0} → List B → List B
behind_first [] = []
behind_first (x ∷ xs) = xs

-- Where f of each number is g of the text that stands there, it is so of the number at which a text is found.
numbered_by : {A B : Type 0} (text_of : A → List ℕ) (f : ℕ → B) (g : List ℕ → B) (k : ℕ) (ws : List A) (text : List ℕ) (i : ℕ)
    → numbered f k ws ≡ map (λ w. g (text_of w)) ws → position (λ w. bytes_eq (text_of w) text) ws ≡ Some i → f (k + i) ≡ g text
numbered_by text_of f g k [] text i e h = cc
numbered_by {A} {B} text_of f g k (w ∷ ws) text i e h =
    by (bytes_eq (text_of w) text) refl (position (λ w. bytes_eq (text_of w) text) ws) refl (sym (position_cons (λ w. bytes_eq (text_of w) text) w ws) ∙ h)
    (λ j q. numbered_by text_of f g (suc k) ws text j (ap behind_first e) q)
  where
    by : (v : Bool) → bytes_eq (text_of w) text ≡ v → (o : Option ℕ) → position (λ w. bytes_eq (text_of w) text) ws ≡ o → cond v (Some 0) (option_map suc o) ≡ Some i
        → ((j : ℕ) → position (λ w. bytes_eq (text_of w) text) ws ≡ Some j → f (suc k + j) ≡ g text) → f (k + i) ≡ g text
    by true c o q h rest = let zero_is : 0 ≡ i = cc in let here : k + i ≡ k = omega (arith, zero_is) in
        ap f here ∙ ap (first_or (f k)) e ∙ ap g ((bytes_eq-Decides (text_of w) text).0 c)
    by false c None q h rest = cc
    by false c (Some j) q h rest = let next : suc j ≡ i = cc in let there : k + i ≡ suc k + j = omega (arith, next) in
        ap f there ∙ rest j q

pub by_number : {A B : Type 0} (text_of : A → List ℕ) (f : ℕ → B) (g : List ℕ → B) (ws : List A) (text : List ℕ) (i : ℕ)
    → numbered f 0 ws ≡ map (λ w. g (text_of w)) ws → position (λ w. bytes_eq (text_of w) text) ws ≡ Some i → f i ≡ g text
by_number text_of f g ws text i e h = ap f (let same : i ≡ 0 + i = omega arith in same) ∙ numbered_by text_of f g 0 ws text i e h
