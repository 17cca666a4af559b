-- How sizes of code add up.
use Rattle.std.proofs.Common.{◌≡◌, refl, arith, ℕ, ◌-◌, ◌^◌, Bool, true, false, List, [], ◌∷◌, ◌++◌, take, get_or, length, add-one, ◌+◌, ◌*◌, ◌≤◌, ◌<◌, ◌||◌, min, max, zero, suc, Option, ap, ◌∙◌, sym, if◌then◌else◌, ◌⊎◌, inl, inr}
use Rattle.std.proofs.Math.Nat.{mul-le-mul_left, mul-le-mul_right}
use Rattle.std.proofs.Math.Seq.{take-suc}
use Rattle.std.proofs.lemmas.Bool.{cases_lt}
use Rattle.scc_base.specs.declared.refusal.Place.{Place}
use Rattle.scc_core.specs.declared.stmt.CoreStmt.{CoreStmt}
use Rattle.scc_core_spec.specs.Term.{Term}
use Rattle.scc_core_spec.specs.Code.{Code, Count, End, Put, Aim, If, Block, Loop, Exit, Wait, size, holds_wait}
use Rattle.scc_core_spec.specs.Sizes.{loops_deep}
use Rattle.scc_core_view.specs.Codes.{code_of, stmt_code}
use Rattle.scc_core_view.proofs.Statements.{stmt_adds}
use Rattle.scc_core_bounds.specs.declared.sizes.Size.{Size}
use Rattle.scc_core_bounds.specs.Bounds.{most, measured, beside, wrapped, deeper, looped, steps}

abbrev sized : ℕ → ℕ → Bool → Size
sized s l w = record { statements = s; loops = l; waits = w }

same : (a b c d : ℕ) (v w : Bool) → a ≡ b → c ≡ d → v ≡ w → sized a c v ≡ sized b d w
same a b c d v w h i j = ap (λ x. sized x c v) h ∙ ap (λ x. sized b x v) i ∙ ap (λ x. sized b d x) j

-- ---- sums that stand still at a limit

cut_zero : (m n : ℕ) → min (min 0 m + min n m) m ≡ min n m
cut_zero m n = omega arith

deep_zero : (m n : ℕ) → max (min 0 m) (min n m) ≡ min n m
deep_zero m n = omega arith

cut_sum : (m a b : ℕ) → min (min a m + min b m) m ≡ min (a + b) m
cut_sum m a b = omega arith

cut_max : (m a b : ℕ) → max (min a m) (min b m) ≡ min (max a b) m
cut_max m a b = omega arith

cut_assoc : (m a b c : ℕ) → min (a + min (b + c) m) m ≡ min (min (a + b) m + c) m
cut_assoc m a b c = omega arith

max_assoc : (a b c : ℕ) → max a (max b c) ≡ max (max a b) c
max_assoc a b c = omega arith

or_assoc : (a b c : Bool) → (a || (b || c)) ≡ ((a || b) || c)
or_assoc true b c = refl
or_assoc false b c = refl

or_end : (a : Bool) → a ≡ (a || false)
or_end true = refl
or_end false = refl

-- ---- sizes side by side

beside_nothing : (c : Code) → beside (measured End) (measured c) ≡ measured c
beside_nothing c = same _ _ _ _ _ _ (cut_zero most (size c)) (deep_zero most (loops_deep c)) refl

beside_assoc : (x y z : Size) → beside x (beside y z) ≡ beside (beside x y) z
beside_assoc x y z = same _ _ _ _ _ _ (cut_assoc most x.statements y.statements z.statements) (max_assoc x.loops y.loops z.loops) (or_assoc x.waits y.waits z.waits)

-- a statement before others
measured_before : (s : CoreStmt) (c : Code) → measured (stmt_code s c) ≡ beside (measured (stmt_code s End)) (measured c)
measured_before s c =
    let a = stmt_adds s in
    same _ _ _ _ _ _
    (ap (λ n. min n most) (a.statements c) ∙ sym (cut_sum most (size (stmt_code s End)) (size c)))
    (ap (λ n. min n most) (a.loops c) ∙ sym (cut_max most (loops_deep (stmt_code s End)) (loops_deep c)))
    (a.waits c)

-- a list with one more
measured_more : (ss : List CoreStmt) (s : CoreStmt) → measured (code_of (ss ++ s ∷ [])) ≡ beside (measured (code_of ss)) (measured (stmt_code s End))
measured_more [] s = sym (beside_nothing (stmt_code s End))
measured_more (x ∷ xs) s =
    measured_before x (code_of (xs ++ s ∷ []))
    ∙ ap (λ z. beside (measured (stmt_code x End)) z) (measured_more xs s)
    ∙ beside_assoc (measured (stmt_code x End)) (measured (code_of xs)) (measured (stmt_code s End))
    ∙ ap (λ z. beside z (measured (stmt_code s End))) (sym (measured_before x (code_of xs)))

-- a walk along a list that is one further
pub goes_on : (ss : List CoreStmt) (i : ℕ) (s : CoreStmt) → i < length ss → s ≡ get_or ss i s → (z one w : Size) → z ≡ measured (code_of (take i ss)) → one ≡ measured (stmt_code s End) → w ≡ beside z one → w ≡ measured (code_of (take (i + 1) ss))
goes_on ss i s h is z one w j k l =
    l ∙ ap (λ x. beside x one) j ∙ ap (λ x. beside (measured (code_of (take i ss))) x) k
    ∙ sym (measured_more (take i ss) s)
    ∙ ap (λ d. measured (code_of (take i ss ++ d ∷ []))) is
    ∙ ap (λ x. measured (code_of x)) (sym (take-suc ss i s h))
    ∙ ap (λ n. measured (code_of (take n ss))) (sym (add-one i))

-- ---- statements that hold others

if_size : (m a b : ℕ) → min (min (min a m + min b m) m + 1) m ≡ min (1 + (a + (b + 0))) m
if_size m a b = omega arith

if_loops : (m a b : ℕ) → max (min a m) (min b m) ≡ min (max a (max b 0)) m
if_loops m a b = omega arith

pub measured_if : (p : Place) (t : Term) (a b : Code) → wrapped (beside (measured a) (measured b)) ≡ measured (If p t a b End)
measured_if p t a b = same _ _ _ _ _ _ (if_size most (size a) (size b)) (if_loops most (loops_deep a) (loops_deep b)) (ap (λ z. holds_wait a || z) (or_end (holds_wait b)))

block_size : (m a : ℕ) → min (min a m + 1) m ≡ min (1 + (a + 0)) m
block_size m a = omega arith

block_loops : (m a : ℕ) → min a m ≡ min (max a 0) m
block_loops m a = omega arith

pub measured_block : (p : Place) (b : Code) → wrapped (measured b) ≡ measured (Block p b End)
measured_block p b = same _ _ _ _ _ _ (block_size most (size b)) (block_loops most (loops_deep b)) (or_end (holds_wait b))

one_deeper : (m a : ℕ) → min (min a m + 1) m ≡ min (max (1 + a) 0) m
one_deeper m a = omega arith

as_deep : (m a : ℕ) → min a m ≡ min (max (0 + a) 0) m
as_deep m a = omega arith

loop_loops : (a : ℕ) (w : Bool) → deeper (min a most) w ≡ min (max ((if w then 1 else 0) + a) 0) most
loop_loops a true = one_deeper most a
loop_loops a false = as_deep most a

pub measured_loop : (p : Place) (n : Option Count) (b : Code) → looped (measured b) ≡ measured (Loop p n b End)
measured_loop p n b = same _ _ _ _ _ _ (block_size most (size b)) (loop_loops (loops_deep b) (holds_wait b)) (or_end (holds_wait b))

-- ---- the bound

below : (a b : ℕ) → a ≤ b → a ≤ 1 + b
below a b h = omega (arith, h)

below_two : (a b x y : ℕ) → a ≤ x → b ≤ y → max a b ≤ 1 + (x + y)
below_two a b x y h i = omega (arith, h, i)

below_three : (a b c x y z : ℕ) → a ≤ x → b ≤ y → c ≤ z → max a (max b c) ≤ 1 + (x + (y + z))
below_three a b c x y z h i j = omega (arith, h, i, j)

below_loop : (w : Bool) (a b x y : ℕ) → a ≤ x → b ≤ y → max ((if w then 1 else 0) + a) b ≤ 1 + (x + y)
below_loop true a b x y h i = omega (arith, h, i)
below_loop false a b x y h i = omega (arith, h, i)

-- loops are as deep as there are statements at most
loops_within : (c : Code) → loops_deep c ≤ size c
loops_within End = omega arith
loops_within (Put p l k e r) = below (loops_deep r) (size r) (loops_within r)
loops_within (Aim p to t r) = below (loops_deep r) (size r) (loops_within r)
loops_within (If p t a b r) = below_three (loops_deep a) (loops_deep b) (loops_deep r) (size a) (size b) (size r) (loops_within a) (loops_within b) (loops_within r)
loops_within (Block p b r) = below_two (loops_deep b) (loops_deep r) (size b) (size r) (loops_within b) (loops_within r)
loops_within (Loop p n b r) = below_loop (holds_wait b) (loops_deep b) (loops_deep r) (size b) (size r) (loops_within b) (loops_within r)
loops_within (Exit p n r) = below (loops_deep r) (size r) (loops_within r)
loops_within (Wait p l n r) = below (loops_deep r) (size r) (loops_within r)

-- a product stands still at a limit where a factor does
past : (m x s : ℕ) → m < x → min (min x m * s) m ≡ min (x * s) m
past m x zero h = omega arith
past m x (suc n) h =
    let e : min x m ≡ m = omega (arith, h) in
    let f : m * 1 ≤ m * suc n = mul-le-mul_left m (omega arith) in
    let g : x * 1 ≤ x * suc n = mul-le-mul_left x (omega arith) in
    let i : min (m * suc n) m ≡ m = omega (arith, f) in
    let j : min (x * suc n) m ≡ m = omega (arith, g, h) in
    ap (λ y. min (y * suc n) m) e ∙ i ∙ sym j

within : (m x s : ℕ) → x ≤ m → min (min x m * s) m ≡ min (x * s) m
within m x s h = let e : min x m ≡ x = omega (arith, h) in ap (λ y. min (y * s) m) e

by_order : (m x s : ℕ) → (m < x) ⊎ (x ≤ m) → min (min x m * s) m ≡ min (x * s) m
by_order m x s (inl h) = past m x s h
by_order m x s (inr h) = within m x s h

cut_times : (m x s : ℕ) → min (min x m * s) m ≡ min (x * s) m
cut_times m x s = by_order m x s (cases_lt m x)

three_cut : (m l : ℕ) → min (min (l + 1) m * 3) m ≡ min (3 * (l + 1)) m
three_cut m l = omega arith

pub cut_bound : (l s : ℕ) → min (min (min (l + 1) most * 3) most * s) most ≡ min (3 * (l + 1) * s) most
cut_bound l s = ap (λ y. min (y * s) most) (three_cut most l) ∙ cut_times most (3 * (l + 1)) s

-- three for each statement and each loop around is at least one for each statement
at_least : (d s : ℕ) → s ≤ 3 * (d + 1) * s
at_least d s =
    let f : 1 * s ≤ 3 * (d + 1) * s = mul-le-mul_right s (omega arith) in
    omega (arith, f)

bound_past : (m d s : ℕ) → m < s → min (3 * (min d m + 1) * min s m) m ≡ min (3 * (d + 1) * s) m
bound_past m d s h =
    let e : min s m ≡ m = omega (arith, h) in
    let f = at_least (min d m) m in
    let g = at_least d s in
    let i : min (3 * (min d m + 1) * m) m ≡ m = omega (arith, f) in
    let j : min (3 * (d + 1) * s) m ≡ m = omega (arith, g, h) in
    ap (λ y. min (3 * (min d m + 1) * y) m) e ∙ i ∙ sym j

bound_within : (m d s : ℕ) → d ≤ s → s ≤ m → min (3 * (min d m + 1) * min s m) m ≡ min (3 * (d + 1) * s) m
bound_within m d s h i =
    let e : min s m ≡ s = omega (arith, i) in
    let f : min d m ≡ d = omega (arith, h, i) in
    ap (λ y. min (3 * (min d m + 1) * y) m) e ∙ ap (λ y. min (3 * (y + 1) * s) m) f

bound_by : (m d s : ℕ) → d ≤ s → (m < s) ⊎ (s ≤ m) → min (3 * (min d m + 1) * min s m) m ≡ min (3 * (d + 1) * s) m
bound_by m d s h (inl i) = bound_past m d s i
bound_by m d s h (inr i) = bound_within m d s h i

-- the bound of cut sizes is the bound
pub bound_measured : (c : Code) → min (3 * (min (loops_deep c) most + 1) * min (size c) most) most ≡ steps c
bound_measured c = bound_by most (loops_deep c) (size c) (loops_within c) (cases_lt most (size c))
