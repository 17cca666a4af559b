-- What a search in ascending rows finds.
use Rattle.std.specs.Prelude.{◌≡◌, ℕ, zero, suc, ◌+◌, ◌<◌, ◌≤◌, ◌↔◌, ◌⊎◌, Bool, true, false, cond, ◌&&◌, nat_lt, ◌==◌, List, [], ◌∷◌, length, get_or, Option, Some}
use Rattle.std.specs.Ordering.{nat_cmp, ordering_index}
use Rattle.std.specs.declared.cmp.Ordering.TheVariants.{Less, Equal, Greater}
use Rattle.std.specs.List.{Contains, HoldsAt}
use Rattle.std.specs.List.Sorted.{IsPartitionPoint, IsNonDecreasingBy}
use Rattle.std.proofs.lemmas.List.{get_or_default}
use Rattle.std.proofs.lemmas.Bool.{cases_lt}
use Rattle.std.proofs.Common.{inl, inr, refl, sym, ◌∙◌, ap, arith}
use Rattle.scc_bits_kinds.specs.declared.op.Op.{Op}
use Rattle.scc_bits_kinds.specs.declared.op.Op.TheVariants as op
use Rattle.scc_bits_kinds.specs.declared.group.Group.{Group}
use Rattle.scc_bits_kinds.specs.declared.group.Group.TheVariants as group
use Rattle.scc_bits_kinds.specs.declared.rule.Rule.{Rule}
use Rattle.scc_bits_kinds.specs.declared.table.Row.{Row}
use Rattle.scc_bits_kinds.specs.Rows.{every_op, every_group, op_place, group_place, place, ascend_from, ascend}

-- comparisons of numbers
cmp_less : (a b : ℕ) → nat_cmp a b ≡ Less → a < b
cmp_less a b e = by (nat_lt a b) (a == b) refl refl e
  where
    by : (s t : Bool) → nat_lt a b ≡ s → (a == b) ≡ t → cond s Less (cond t Equal Greater) ≡ Less → a < b
    by true t p q e = grind arith
    by false true p q e = absurd (cc)
    by false false p q e = absurd (cc)

cmp_equal : (a b : ℕ) → nat_cmp a b ≡ Equal → a ≡ b
cmp_equal a b e = by (nat_lt a b) (a == b) refl refl e
  where
    by : (s t : Bool) → nat_lt a b ≡ s → (a == b) ≡ t → cond s Less (cond t Equal Greater) ≡ Equal → a ≡ b
    by true t p q e = absurd (cc)
    by false true p q e = grind arith
    by false false p q e = absurd (cc)

cmp_greater : (a b : ℕ) → nat_cmp a b ≡ Greater → b < a
cmp_greater a b e = by (nat_lt a b) (a == b) refl refl e
  where
    by : (s t : Bool) → nat_lt a b ≡ s → (a == b) ≡ t → cond s Less (cond t Equal Greater) ≡ Greater → b < a
    by true t p q e = absurd (cc)
    by false true p q e = absurd (cc)
    by false false p q e = grind arith

rank_rises : (a b k : ℕ) → a ≤ b → ordering_index (nat_cmp a k) ≤ ordering_index (nat_cmp b k)
rank_rises a b k h = by (nat_lt a k) (a == k) (nat_lt b k) (b == k) refl refl refl refl
  where
    by : (s t u v : Bool) → nat_lt a k ≡ s → (a == k) ≡ t → nat_lt b k ≡ u → (b == k) ≡ v → ordering_index (cond s Less (cond t Equal Greater)) ≤ ordering_index (cond u Less (cond v Equal Greater))
    by true t true v p q r w = omega arith
    by true t false true p q r w = omega arith
    by true t false false p q r w = omega arith
    by false true true v p q r w = absurd (grind arith)
    by false true false true p q r w = omega arith
    by false true false false p q r w = omega arith
    by false false true v p q r w = absurd (grind arith)
    by false false false true p q r w = absurd (grind arith)
    by false false false false p q r w = omega arith

-- the place of a row tells its operator and groups
abbrev key : Row → ℕ
key r = place r.op r.left r.right

op_back : (o : Op) → get_or every_op (op_place o) op.Add ≡ o
op_back op.Add = refl
op_back op.Sub = refl
op_back op.Mul = refl
op_back op.Div = refl
op_back op.Rem = refl
op_back op.And = refl
op_back op.Or = refl
op_back op.Xor = refl
op_back op.Eq = refl
op_back op.Ne = refl
op_back op.Lt = refl
op_back op.Le = refl
op_back op.Gt = refl
op_back op.Ge = refl
op_back op.Shl = refl
op_back op.Shr = refl
op_back op.LogAnd = refl
op_back op.LogOr = refl
op_back op.Plus = refl
op_back op.Neg = refl
op_back op.Not = refl
op_back op.LogNot = refl
op_back op.AndReduce = refl
op_back op.OrReduce = refl
op_back op.XorReduce = refl

group_back : (g : Group) → get_or every_group (group_place g) group.Bool ≡ g
group_back group.Bool = refl
group_back group.Native = refl
group_back group.Int = refl
group_back group.Uint = refl
group_back group.Big = refl
group_back group.BigInt = refl
group_back group.Bv = refl
group_back group.Wide = refl

group_small : (g : Group) → group_place g < 8
group_small group.Bool = omega arith
group_small group.Native = omega arith
group_small group.Int = omega arith
group_small group.Uint = omega arith
group_small group.Big = omega arith
group_small group.BigInt = omega arith
group_small group.Bv = omega arith
group_small group.Wide = omega arith

same_op : (o p : Op) (g h i j : Group) → place o g h ≡ place p i j → o ≡ p
same_op o p g h i j e =
    let d : op_place o ≡ op_place p = omega (arith, group_small g, group_small h, group_small i, group_small j) in
    sym (op_back o) ∙ ap (λ n. get_or every_op n op.Add) d ∙ op_back p

same_left : (o p : Op) (g h i j : Group) → place o g h ≡ place p i j → g ≡ i
same_left o p g h i j e =
    let d : group_place g ≡ group_place i = omega (arith, group_small g, group_small h, group_small i, group_small j) in
    sym (group_back g) ∙ ap (λ n. get_or every_group n group.Bool) d ∙ group_back i

same_right : (o p : Op) (g h i j : Group) → place o g h ≡ place p i j → h ≡ j
same_right o p g h i j e =
    let d : group_place h ≡ group_place j = omega (arith, group_small g, group_small h, group_small i, group_small j) in
    sym (group_back h) ∙ ap (λ n. get_or every_group n group.Bool) d ∙ group_back j

-- rows that ascend
both_true : (s t : Bool) → (s && t) ≡ true → (s ≡ true) × (t ≡ true)
both_true true true e = (refl, refl)
both_true true false e = absurd (cc)
both_true false t e = absurd (cc)

above : (n : ℕ) (rows : List Row) → ascend_from n rows ≡ true → (j : ℕ) (d : Row) → j < length rows → n ≤ key (get_or rows j d)
above n [] h j d p = absurd (omega arith)
above n (r ∷ rs) h zero d p =
    let t = both_true (nat_lt n (key r + 1)) (ascend_from (key r + 1) rs) h in
    let l = t.0 in
    grind arith
above n (r ∷ rs) h (suc j) d p =
    let t = both_true (nat_lt n (key r + 1)) (ascend_from (key r + 1) rs) h in
    let l : n < key r + 1 = let f = t.0 in grind arith in
    let m = above (key r + 1) rs t.1 j d (omega arith) in
    omega arith

rises : (n : ℕ) (rows : List Row) → ascend_from n rows ≡ true → (i j : ℕ) (d : Row) → i < j → j < length rows → key (get_or rows i d) < key (get_or rows j d)
rises n [] h i j d p q = absurd (omega arith)
rises n (r ∷ rs) h i zero d p q = absurd (omega arith)
rises n (r ∷ rs) h zero (suc j) d p q =
    let t = both_true (nat_lt n (key r + 1)) (ascend_from (key r + 1) rs) h in
    let m = above (key r + 1) rs t.1 j d (omega arith) in
    omega arith
rises n (r ∷ rs) h (suc i) (suc j) d p q =
    let t = both_true (nat_lt n (key r + 1)) (ascend_from (key r + 1) rs) h in
    rises (key r + 1) rs t.1 i j d (omega arith) (omega arith)

abbrev made : Op → Group → Group → Rule → Row
made o g h r = record { op = o; left = g; right = h; rule = r }

alike : (o : Op) (g h : Group) (r : Row) → place r.op r.left r.right ≡ place o g h → r ≡ made o g h r.rule
alike o g h r e = λ i. record { op = same_op r.op o r.left r.right g h e i; left = same_left r.op o r.left r.right g h e i; right = same_right r.op o r.left r.right g h e i; rule = r.rule }

no_fall : (rows : List Row) → ascend rows ≡ true → (i j : ℕ) (d : Row) → i ≤ j → j < length rows → key (get_or rows i d) ≤ key (get_or rows j d)
no_fall rows s i j d p q = by (cases_lt i j)
  where
    by : (i < j) ⊎ (j ≤ i) → key (get_or rows i d) ≤ key (get_or rows j d)
    by (inl l) = let r = rises 0 rows s i j d l q in omega arith
    by (inr l) = let e : i ≡ j = omega arith in let k = ap (λ n. key (get_or rows n d)) e in omega arith

same_place : (rows : List Row) → ascend rows ≡ true → (i j : ℕ) (d : Row) → i < length rows → j < length rows → key (get_or rows i d) ≡ key (get_or rows j d) → i ≡ j
same_place rows s i j d p q e = by (cases_lt i j) (cases_lt j i)
  where
    by : (i < j) ⊎ (j ≤ i) → (j < i) ⊎ (i ≤ j) → i ≡ j
    by (inl l) t = let r = rises 0 rows s i j d l q in absurd (omega arith)
    by (inr l) (inl t) = let r = rises 0 rows s j i d t p in absurd (omega arith)
    by (inr l) (inr t) = omega arith

-- the row at a place where the key is right is the one row
pub found : (rows : List Row) (o : Op) (g h : Group) (at : ℕ) (d : Row) → ascend rows ≡ true → at < length rows → HoldsAt (λ y. nat_cmp (key y) (place o g h) ≡ Equal) rows at → (rule : Rule) → (◌≡◌ {A = Option Rule} (Some (get_or rows at d).rule) (Some rule)) ↔ Contains rows (made o g h rule)
found rows o g h at d s p e rule = (forth, back)
  where
    is : (f : Row) → key (get_or rows at f) ≡ place o g h
    is f = cmp_equal (key (get_or rows at f)) (place o g h) (e f)

    forth : Some (get_or rows at d).rule ≡ Some rule → Contains rows (made o g h rule)
    forth q =
        let same : (get_or rows at d).rule ≡ rule = cc in
        (at, p, get_or_default rows at (made o g h rule) d p ∙ alike o g h (get_or rows at d) (is d) ∙ ap (made o g h) same)

    back : Contains rows (made o g h rule) → Some (get_or rows at d).rule ≡ Some rule
    back (x, l, q) =
        let there : key (get_or rows x (made o g h rule)) ≡ place o g h = ap key q in
        let one : x ≡ at = same_place rows s x at (made o g h rule) l p (there ∙ sym (is (made o g h rule))) in
        ap (λ (y : Row). Some y.rule) (get_or_default rows at d (made o g h rule) p ∙ ap (λ n. get_or rows n (made o g h rule)) (sym one) ∙ q)

pub missing : (rows : List Row) (o : Op) (g h : Group) (at : ℕ) → ascend rows ≡ true → (IsNonDecreasingBy (λ y. ordering_index (nat_cmp (key y) (place o g h))) rows → IsPartitionPoint (λ y. nat_cmp (key y) (place o g h) ≡ Less) (λ y. nat_cmp (key y) (place o g h) ≡ Greater) rows at) → (rule : Rule) → Contains rows (made o g h rule) → ⊥
missing rows o g h at s f rule (x, l, q) =
    let m = made o g h rule in
    let there : key (get_or rows x m) ≡ place o g h = ap key q in
    let parts = f (λ i j d p n. rank_rises (key (get_or rows i d)) (key (get_or rows j d)) (place o g h) (no_fall rows s i j d p n)) in
    by (cases_lt x at) there parts
  where
    by : (x < at) ⊎ (at ≤ x) → key (get_or rows x (made o g h rule)) ≡ place o g h → IsPartitionPoint (λ y. nat_cmp (key y) (place o g h) ≡ Less) (λ y. nat_cmp (key y) (place o g h) ≡ Greater) rows at → ⊥
    by (inl t) e w = let r = cmp_less (key (get_or rows x (made o g h rule))) (place o g h) (w.0 x (made o g h rule) (omega arith) t) in absurd (omega arith)
    by (inr t) e w = let r = cmp_greater (key (get_or rows x (made o g h rule))) (place o g h) (w.1 x (made o g h rule) t l) in absurd (omega arith)
