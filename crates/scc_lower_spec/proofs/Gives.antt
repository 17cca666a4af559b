-- How words go up through emitted expressions.
use Rattle.std.specs.Prelude.{◌≡◌, ℕ, ◌+◌, ◌-◌, ◌*◌, ◌^◌, ◌<◌, ◌≤◌, max, Bool, true, false, cond, ◌&&◌, nat_eq, pos}
use Rattle.std.proofs.Common.{refl, sym, ◌∙◌, ap, arith}
use Rattle.std.proofs.lemmas.Nat.{pow-add, mul-add-lt}
use Rattle.scc_bits_kinds.specs.declared.op.Op.{Op}
use Rattle.scc_bits_kinds.specs.Numbers.{low, reading}
use Rattle.scc_bits_kinds.specs.Operators.{exact}
use Rattle.scc_bits_kinds.proofs.Low.{low_less, low_word, low_reading}
use Rattle.scc_svtree.specs.declared.class.Class.{Class}
use Rattle.scc_svtree.specs.declared.class.Class.TheVariants.{Context, Shift, Comparison, Logical}
use Rattle.scc_svtree.specs.declared.expr.SvLeft.{SvLeft}
use Rattle.scc_svtree.specs.declared.expr.SvLeft.TheVariants.{Whole, Bit, Range}
use Rattle.scc_svtree.specs.declared.expr.SvUnary.TheVariants as unary
use Rattle.scc_svtree.specs.Classes.{class_of}
use Rattle.scc_svtree.specs.Term.{Term, Literal, Part, Unary, Binary, Cond, Join, Cast, Sign}
use Rattle.scc_svtree.specs.Sizes.{Sized, own, fixed, sized, sized_context, sized_shift, sized_compare, sized_logical, sized_class, sized_inner, sized_bit, sized_cond, sized_join, sized_sign, sized_cast}
use Rattle.scc_lower_spec.specs.Gives.{Gives}
use Rattle.scc_lower_spec.specs.Conversion.{is_test, takes_own_size}

pub gives_own : (s : Bool) (e : Sized) (w v : ℕ) → Gives s e w v → own e ≡ v
gives_own s e w v g = (λ i. e.word (g.0 i) (g.1 i)) ∙ g.2

pub gives_fixed : (s : Bool) (w v : ℕ) → v < 2 ^ w → Gives s (fixed w s v) w v
gives_fixed s w v h = (refl, refl, low_reading s w (low w (pos v)) (low_less w (pos v)) ∙ low_word w v h)

pub gives_sign : (s t : Bool) (e : Sized) (w v : ℕ) → v < 2 ^ w → Gives s e w v → Gives t (sized_sign t e) w v
gives_sign s t e w v h g = (g.0, refl, (λ i. low w (reading t (g.0 i) (low (g.0 i) (pos (gives_own s e w v g i))))) ∙ (gives_fixed t w v h).2)

same : (s : Bool) → (s && s) ≡ s
same true = refl
same false = refl

pub gives_context : (s : Bool) (o : Op) (a b : Sized) (n v u : ℕ) → Gives s a n v → Gives s b n u → Gives s (sized_context o a b) n (low n (exact o n (reading s n v) (reading s n u)))
gives_context s o a b n v u g h = ((λ i. max (g.0 i) (h.0 i)) ∙ omega arith, (λ i. g.1 i && h.1 i) ∙ same s, λ i. low n (exact o n (reading s n (g.2 i)) (reading s n (h.2 i))))

pub gives_inner : (s : Bool) (o : Op) (a : Sized) (n v : ℕ) → Gives s a n v → Gives s (sized_inner o a) n (low n (exact o n (reading s n v) (pos 0)))
gives_inner s o a n v g = (g.0, g.1, λ i. low n (exact o n (reading s n (g.2 i)) (pos 0)))

pub gives_shift : (s t fills : Bool) (o : Op) (a b : Sized) (n m v u : ℕ) → Gives s a n v → Gives t b m u → Gives s (sized_shift fills o a b) n (low n (exact o n (reading (fills && s) n v) (pos u)))
gives_shift s t fills o a b n m v u g h = (g.0, g.1, λ i. low n (exact o n (reading (fills && s) n (g.2 i)) (pos (gives_own t b m u h i))))

pub gives_compare : (s : Bool) (o : Op) (a b : Sized) (n v u : ℕ) → Gives s a n v → Gives s b n u → Gives false (sized_compare o a b) 1 (low 1 (exact o n (reading s n v) (reading s n u)))
gives_compare s o a b n v u g h =
    let l : max a.len b.len ≡ n = (λ i. max (g.0 i) (h.0 i)) ∙ omega arith in
    let t : (a.signed && b.signed) ≡ s = (λ i. g.1 i && h.1 i) ∙ same s in
    let z = low_less 1 (exact o n (reading s n v) (reading s n u)) in
    let e : low 1 (exact o (max a.len b.len) (reading (a.signed && b.signed) (max a.len b.len) (a.word (max a.len b.len) (a.signed && b.signed))) (reading (a.signed && b.signed) (max a.len b.len) (b.word (max a.len b.len) (a.signed && b.signed)))) ≡ low 1 (exact o n (reading s n v) (reading s n u)) =
    (λ i. low 1 (exact o (l i) (reading (t i) (l i) (a.word (l i) (t i))) (reading (t i) (l i) (b.word (l i) (t i))))) ∙ (λ i. low 1 (exact o n (reading s n (g.2 i)) (reading s n (h.2 i)))) in
    (refl, refl, ap (λ x. low 1 (pos (low 1 (pos x)))) e ∙ (gives_fixed false 1 _ z).2)

pub gives_logical : (s t : Bool) (o : Op) (a b : Sized) (n m v u : ℕ) → Gives s a n v → Gives t b m u → Gives false (sized_logical o a b) 1 (low 1 (exact o n (pos v) (pos u)))
gives_logical s t o a b n m v u g h =
    let z = low_less 1 (exact o n (pos v) (pos u)) in
    let e : low 1 (exact o a.len (pos (own a)) (pos (own b))) ≡ low 1 (exact o n (pos v) (pos u)) = λ i. low 1 (exact o (g.0 i) (pos (gives_own s a n v g i)) (pos (gives_own t b m u h i))) in
    (refl, refl, ap (λ x. low 1 (pos (low 1 (pos x)))) e ∙ (gives_fixed false 1 _ z).2)

pub gives_bit : (s : Bool) (o : Op) (a : Sized) (n v : ℕ) → Gives s a n v → Gives false (sized_bit o a) 1 (low 1 (exact o n (pos v) (pos 0)))
gives_bit s o a n v g =
    let z = low_less 1 (exact o n (pos v) (pos 0)) in
    let e : low 1 (exact o a.len (pos (own a)) (pos 0)) ≡ low 1 (exact o n (pos v) (pos 0)) = λ i. low 1 (exact o (g.0 i) (pos (gives_own s a n v g i)) (pos 0)) in
    (refl, refl, ap (λ x. low 1 (pos (low 1 (pos x)))) e ∙ (gives_fixed false 1 _ z).2)

pub gives_cond : (s t : Bool) (c a b : Sized) (m n k v u : ℕ) → Gives t c m k → Gives s a n v → Gives s b n u → Gives s (sized_cond c a b) n (cond (nat_eq k 0) u v)
gives_cond s t c a b m n k v u f g h = ((λ i. max (g.0 i) (h.0 i)) ∙ omega arith, (λ i. g.1 i && h.1 i) ∙ same s, λ i. cond (nat_eq (gives_own t c m k f i) 0) (h.2 i) (g.2 i))

pub gives_join : (a b : Sized) (m n v u : ℕ) → v < 2 ^ m → u < 2 ^ n → Gives false a m v → Gives false b n u → Gives false (sized_join a b) (m + n) (v * 2 ^ n + u)
gives_join a b m n v u p q g h =
    let small : v * 2 ^ n + u < 2 ^ (m + n) = omega (arith, pow-add 2 m n, mul-add-lt v (2 ^ n) u (2 ^ m) p q) in
    let r = gives_fixed false (m + n) (v * 2 ^ n + u) small in
    ((λ i. g.0 i + h.0 i), refl, (λ i. low (m + n) (reading false (g.0 i + h.0 i) (low (g.0 i + h.0 i) (pos (gives_own false a m v g i * 2 ^ h.0 i + gives_own false b n u h i))))) ∙ r.2)

-- ---- size casts

-- a wider context only extends it
pub Steady : Bool → Sized → ℕ → ℕ → Type 0
Steady s e w v = (n : ℕ) → w ≤ n → e.word n s ≡ low n (reading s w v)

pub steady_fixed : (s t : Bool) (e : Sized) (l w v u : ℕ) → e ≡ fixed l t u → Gives s e w v → Steady s e w v
unfolding Steady
steady_fixed s t e l w v u f g n p =
    let len : l ≡ w = sym (ap (λ x. x.len) f) ∙ g.0 in
    let at : (k : ℕ) → e.word k s ≡ low k (reading s w (low w (pos u))) = λ k. ap (λ x. x.word k s) f ∙ ap (λ x. low k (reading s x (low x (pos u)))) len in
    let is : low w (pos u) ≡ v = sym (low_reading s w (low w (pos u)) (low_less w (pos u))) ∙ sym (at w) ∙ g.2 in
    at n ∙ ap (λ x. low n (reading s w x)) is

cast_at : (s : Bool) (e : Sized) (v w r y : ℕ) → y ≡ r → r < 2 ^ v → e.signed ≡ s → Gives s (fixed v e.signed y) v r
cast_at s e v w r y d h t = (refl, t, ap (λ k. low v (reading s v (low v (pos k)))) d ∙ (gives_fixed s v r h).2)

-- to fewer bits
pub gives_narrow : (s wide : Bool) (e : Sized) (w v x : ℕ) → v ≤ w → Gives s e w x → Gives s (sized_cast wide v e) v (low v (reading s w x))
gives_narrow s wide e w v x p g =
    let l : cond wide (max v e.len) e.len ≡ w = by wide in
    cast_at s e v w (low v (reading s w x)) _ (ap (λ k. low v (reading k (cond wide (max v e.len) e.len) (e.word (cond wide (max v e.len) e.len) k))) (g.1) ∙ (λ i. low v (reading s (l i) (e.word (l i) s))) ∙ (λ i. low v (reading s w (g.2 i)))) (low_less v _) g.1
  where
    by : (t : Bool) → cond t (max v e.len) e.len ≡ w
    by true = omega (arith, g.0)
    by false = g.0

-- to more bits
pub gives_wide : (s wide : Bool) (e : Sized) (w v x : ℕ) → w ≤ v → Gives s e w x → Steady s e w x → Gives s (sized_cast wide v e) v (low v (reading s w x))
unfolding Steady
gives_wide s false e w v x p g d = cast_at s e v w (low v (reading s w x)) _ (ap (λ k. low v (reading k e.len (e.word e.len k))) (g.1) ∙ (λ i. low v (reading s (g.0 i) (e.word (g.0 i) s))) ∙ (λ i. low v (reading s w (g.2 i)))) (low_less v _) g.1
gives_wide s true e w v x p g d =
    let l : max v e.len ≡ v = omega (arith, g.0) in
    cast_at s e v w (low v (reading s w x)) _ (ap (λ k. low v (reading k (max v e.len) (e.word (max v e.len) k))) (g.1) ∙ (λ i. low v (reading s (l i) (e.word (l i) s))) ∙ ap (λ k. low v (reading s v k)) (d v p) ∙ low_reading s v _ (low_less v _)) (low_less v _) g.1

-- what takes its own size is steady
IsFixed : Sized → Type 0
IsFixed e = (l : ℕ) × (t : Bool) × (u : ℕ) × (e ≡ fixed l t u)

left_fixed : (wide : Bool) (width x : ℕ → ℕ) (l : SvLeft) → IsFixed (sized wide width x (Part l))
unfolding IsFixed
left_fixed wide width x (Whole v) = (_, _, _, refl)
left_fixed wide width x (Bit v at) = (_, _, _, refl)
left_fixed wide width x (Range v h l) = (_, _, _, refl)

class_fixed : (k : Class) (a b : Sized) → is_test k ≡ true → IsFixed (sized_class k a b)
unfolding IsFixed
class_fixed (Context o) a b e = absurd (cc)
class_fixed (Shift o fills) a b e = absurd (cc)
class_fixed (Comparison o) a b e = (_, _, _, refl)
class_fixed (Logical o) a b e = (_, _, _, refl)

term_fixed : (wide : Bool) (width x : ℕ → ℕ) (t : Term) → takes_own_size t ≡ true → IsFixed (sized wide width x t)
unfolding IsFixed
term_fixed wide width x (Literal w v) e = (_, _, _, refl)
term_fixed wide width x (Part l) e = left_fixed wide width x l
term_fixed wide width x (Unary unary.Not a) e = absurd (cc)
term_fixed wide width x (Unary unary.Neg a) e = absurd (cc)
term_fixed wide width x (Unary unary.LogNot a) e = (_, _, _, refl)
term_fixed wide width x (Unary unary.And a) e = (_, _, _, refl)
term_fixed wide width x (Unary unary.Or a) e = (_, _, _, refl)
term_fixed wide width x (Unary unary.Xor a) e = (_, _, _, refl)
term_fixed wide width x (Binary o a b) e = class_fixed (class_of o) (sized wide width x a) (sized wide width x b) e
term_fixed wide width x (Cond c a b) e = absurd (cc)
term_fixed wide width x (Join a b) e = (_, _, _, refl)
term_fixed wide width x (Cast w a) e = (_, _, _, refl)
term_fixed wide width x (Sign s a) e = (_, _, _, refl)

pub steady : (wide : Bool) (width x : ℕ → ℕ) (t : Term) (s : Bool) (w v : ℕ) → takes_own_size t ≡ true → Gives s (sized wide width x t) w v → Steady s (sized wide width x t) w v
unfolding IsFixed
steady wide width x t s w v h g = let p = term_fixed wide width x t h in steady_fixed s p.1 (sized wide width x t) p.0 w v p.2 p.3 g
