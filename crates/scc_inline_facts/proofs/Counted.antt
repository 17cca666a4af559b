-- Sizes and heights that are counted step by step.
use Rattle.std.proofs.Common.{◌≡◌, refl, sym, ap, ◌∙◌, arith, ℕ, zero, suc, ◌+◌, ◌*◌, ◌≤◌, ◌<◌, max, min, List, [], ◌∷◌, ◌++◌, map, flat_map, drop, length, get_or, Some, option_map, slice_get, unwrap_or, Result, Ok, Err, IfOk, Bool, true, false, nat_le}
use Rattle.std.specs.List.{range_with_len}
use Rattle.std.proofs.lemmas.Option.{slice_get-map}
use Rattle.scc_plain_tree.specs.declared.stmt.PlainArg.{PlainArg}
use Rattle.scc_plain_tree.specs.declared.program.Plain.{Plain as Tree}
use Rattle.scc_plain_tree.specs.declared.program.PlainFunction.{PlainFunction}
use Rattle.scc_elab_spec.specs.Term.{Argument, Value, Leads, ModuleName}
use Rattle.scc_elab_spec.specs.Program.{Function}
use Rattle.scc_elab_spec.specs.Bodies.{elements}
use Rattle.scc_plain_view.specs.Plains.{plain_of, function_of}
use Rattle.scc_plain_view.specs.Terms.{argument_of}
use Rattle.scc_inline_size_laws.specs.Counts.{many, deep, level, passed_size, result_size, call_size, call_height}
use Rattle.scc_inline_facts.specs.declared.extent.Extent.{Extent}
use Rattle.scc_inline_facts.specs.Extents.{Grows, reaching}
use Rattle.scc_inline_facts.specs.Parted.{raised}

-- ---- heights at depths

pub reaching_max : (d a b : ℕ) → reaching d (max a b) ≡ max (reaching d a) (reaching d b)
reaching_max d zero zero = refl
reaching_max d zero (suc b) = cover d (max 0 (suc b)) (suc b) (omega arith) ∙ none (d + suc b)
  where
    none : (x : ℕ) → x ≡ max 0 x
    none x = omega arith

    cover : (d x y : ℕ) → x ≡ y → reaching d x ≡ reaching d y
    cover d x y e = ap (reaching d) e
reaching_max d (suc a) zero = ap (reaching d) left ∙ none (d + suc a)
  where
    none : (x : ℕ) → x ≡ max x 0
    none x = omega arith

    left : max (suc a) 0 ≡ suc a
    left = omega arith
reaching_max d (suc a) (suc b) = ap (reaching d) both ∙ apart
  where
    both : max (suc a) (suc b) ≡ suc (max a b)
    both = omega arith

    apart : d + suc (max a b) ≡ max (d + suc a) (d + suc b)
    apart = omega arith

-- what stands in a statement at a depth, in one that is there itself
pub reaching_next : (d h : ℕ) → reaching d (suc h) ≡ max (d + 1) (reaching (d + 1) h)
reaching_next d zero = omega arith
reaching_next d (suc h) = omega arith

pub reaching_raised : (d h : ℕ) → reaching d (raised h) ≡ reaching (d + 1) h
reaching_raised d zero = refl
reaching_raised d (suc h) = omega arith

-- depths past the limit are alike
pub reaching_alike : (d e h : ℕ) → deep d ≡ deep e → deep (reaching d h) ≡ deep (reaching e h)
reaching_alike d e zero p = refl
reaching_alike d e (suc h) p = omega (arith, p)

pub raised_if : (a b : ℕ) → max (max 1 (max 0 0)) (max (raised a) (raised b)) ≡ max (1 + max a b) 0
raised_if zero zero = omega arith
raised_if zero (suc b) = omega arith
raised_if (suc a) zero = omega arith
raised_if (suc a) (suc b) = omega arith

pub raised_in : (a : ℕ) → max (max 1 (max 0 0)) (max (raised a) 0) ≡ max (1 + a) 0
raised_in zero = omega arith
raised_in (suc a) = omega arith

-- ---- counts that grow

max_alike : (a b h k : ℕ) → deep a ≡ deep b → deep h ≡ deep k → deep (max a h) ≡ deep (max b k)
max_alike a b h k p q = omega (arith, p, q)

pub grows_alike : (a b : Extent) (n h k : ℕ) → deep h ≡ deep k → Grows a b n h → Grows a b n k
grows_alike a b n h k e g = record { size = g.size; height = g.height ∙ max_alike a.height a.height h k refl e }

size_then : (a b c n m : ℕ) → many b ≡ many (a + n) → many c ≡ many (b + m) → many c ≡ many (a + (n + m))
size_then a b c n m p q = omega (arith, p, q)

height_then : (a b c n m : ℕ) → deep b ≡ deep (max a n) → deep c ≡ deep (max b m) → deep c ≡ deep (max a (max n m))
height_then a b c n m p q = omega (arith, p, q)

pub grows_then : (a b c : Extent) (n m h k : ℕ) → Grows a b n h → Grows b c m k → Grows a c (n + m) (max h k)
grows_then a b c n m h k p q = record { size = size_then a.size b.size c.size n m p.size q.size; height = height_then a.height b.height c.height h k p.height q.height }

pub grows_same : (a b : Extent) (n h k : ℕ) → h ≡ k → Grows a b n h → Grows a b n k
grows_same a b n h k e g = grows_alike a b n h k (ap deep e) g

pub if_ok : {A X : Type 0} (r : Result A X) (P Q : A → Type 0) → ((a : A) → P a → Q a) → IfOk r P → IfOk r Q
if_ok (Ok a) P Q f h = f a h
if_ok (Err e) P Q f h = tt

pub own_ok : {X : Type 0} (r : Result Extent X) (a b c : Extent) (d n m k h i j : ℕ) → Grows a b n (reaching d h) → Grows b c m (reaching d i) → IfOk r (λ e. Grows c e k (reaching d j))
    → IfOk r (λ e. Grows a e (n + (m + k)) (reaching d (max h (max i j))))
own_ok r a b c d n m k h i j p q s =
    if_ok r (λ e. Grows c e k (reaching d j)) (λ e. Grows a e (n + (m + k)) (reaching d (max h (max i j))))
    (λ e t. grows_same a e (n + (m + k)) (max (reaching d h) (max (reaching d i) (reaching d j))) (reaching d (max h (max i j)))
    (sym (reaching_max d h (max i j) ∙ ap (max (reaching d h)) (reaching_max d i j))) (grows_then a b e n (m + k) (reaching d h) (max (reaching d i) (reaching d j)) p (grows_then b c e m k (reaching d i) (reaching d j) q t))) s

-- ---- calls

call_reaches : (d i r p b : ℕ) → deep i ≡ deep (d + 1) → deep (max (reaching d 1) (max (reaching i r) (max (reaching i p) (reaching i b)))) ≡ deep (reaching d (1 + max r (max p b)))
call_reaches d i r p b e =
    let same : (h : ℕ) → deep (reaching i h) ≡ deep (reaching (d + 1) h) = λ h. reaching_alike i (d + 1) h e in
    max_alike (reaching d 1) (d + 1) (max (reaching i r) (max (reaching i p) (reaching i b))) (reaching (d + 1) (max r (max p b))) refl
    (deep_max (reaching i r) (reaching (d + 1) r) (max (reaching i p) (reaching i b)) (max (reaching (d + 1) p) (reaching (d + 1) b)) (same r) (deep_max (reaching i p) (reaching (d + 1) p) (reaching i b) (reaching (d + 1) b) (same p) (same b))
    ∙ ap deep (sym (reaching_max (d + 1) r (max p b) ∙ ap (max (reaching (d + 1) r)) (reaching_max (d + 1) p b))))
    ∙ ap deep (sym (ap (reaching d) (next (max r (max p b))) ∙ reaching_next d (max r (max p b))))
  where
    deep_max : (a b h k : ℕ) → deep a ≡ deep b → deep h ≡ deep k → deep (max a h) ≡ deep (max b k)
    deep_max = max_alike

    next : (x : ℕ) → 1 + x ≡ suc x
    next x = omega arith

pub call_grows : (t : Tree) (n : ℕ) (f : PlainFunction) (args : List Argument) (sizes heights : ℕ → ℕ) (a b c e g : Extent) (d i r p s h : ℕ) → slice_get t.functions n ≡ Some f
    → deep i ≡ deep (d + 1) → r ≡ result_size f.result → p ≡ passed_size args → s ≡ sizes n → h ≡ heights n
    → Grows a b 1 (reaching d (level 1)) → Grows b c r (reaching i (level r)) → Grows c e p (reaching i (level p)) → Grows e g s (reaching i h)
    → Grows a g (call_size sizes (plain_of t) n args) (reaching d (call_height heights (plain_of t) n args))
call_grows t n f args sizes heights a b c e g d i r p s h there near is_r is_p is_s is_h q u v w =
    let found = slice_get-map function_of t.functions n ∙ ap (option_map function_of) there in
    let size : call_size sizes (plain_of t) n args ≡ 1 + (r + (p + s)) =
    ap (λ o. unwrap_or (option_map (λ (g : Function). 1 + (result_size g.result + (passed_size args + sizes n))) o) 0) found ∙ (λ j. 1 + (sym is_r j + (sym is_p j + sym is_s j))) in
    let height : call_height heights (plain_of t) n args ≡ 1 + max (level r) (max (level p) h) =
    ap (λ o. unwrap_or (option_map (λ (g : Function). 1 + max (level (result_size g.result)) (max (level (passed_size args)) (heights n))) o) 0) found
    ∙ (λ j. 1 + max (level (sym is_r j)) (max (level (sym is_p j)) (sym is_h j))) in
    let all = grows_then a b g 1 (r + (p + s)) (reaching d 1) (max (reaching i (level r)) (max (reaching i (level p)) (reaching i h))) q
    (grows_then b c g r (p + s) (reaching i (level r)) (max (reaching i (level p)) (reaching i h)) u (grows_then c e g p s (reaching i (level p)) (reaching i h) v w)) in
    let told = grows_alike a g (1 + (r + (p + s))) (max (reaching d 1) (max (reaching i (level r)) (max (reaching i (level p)) (reaching i h)))) (reaching d (1 + max (level r) (max (level p) h))) (call_reaches d i (level r) (level p) h near) all in
    record { size = told.size ∙ ap (λ k. many (a.size + k)) (sym size); height = told.height ∙ ap (λ k. deep (max a.height (reaching d k))) (sym height) }

-- ---- parameters one after another

drop_at : {A : Type 0} (xs : List A) (i : ℕ) (d : A) → i < length xs → drop i xs ≡ get_or xs i d ∷ drop (i + 1) xs
drop_at [] i d h = absurd (omega (arith, h))
drop_at (y ∷ ys) zero d h = refl
drop_at (y ∷ ys) (suc i) d h =
    let a : i < length ys = omega (arith, h) in
    let e : suc i + 1 ≡ suc (i + 1) = omega arith in
    drop_at ys i d a ∙ ap (λ n. get_or ys i d ∷ drop n (y ∷ ys)) (sym e)

passed_on : (a : Argument) (args : List Argument) → passed_size (a ∷ args) ≡ passed_size (a ∷ []) + passed_size args
passed_on (Value e) args = one (passed_size args)
  where
    one : (n : ℕ) → suc n ≡ 1 + n
    one n = omega arith
passed_on (Leads t) args = one (passed_size args)
  where
    one : (n : ℕ) → suc n ≡ 1 + n
    one n = omega arith
passed_on ModuleName args = one (passed_size args)
  where
    one : (n : ℕ) → n ≡ 0 + n
    one n = omega arith

pub passed_goes : (xs : List PlainArg) (i : ℕ) (x : PlainArg) (count new total : ℕ) → i < length xs → x ≡ get_or xs i x → count + passed_size (map argument_of (drop i xs)) ≡ total
    → new ≡ count + passed_size (argument_of x ∷ []) → new + passed_size (map argument_of (drop (i + 1) xs)) ≡ total
passed_goes xs i x count new total h e inv added =
    let rest = passed_size (map argument_of (drop (i + 1) xs)) in
    let step = ap (λ l. passed_size (map argument_of l)) (drop_at xs i x h) ∙ ap (λ y. passed_size (argument_of y ∷ map argument_of (drop (i + 1) xs))) (sym e) ∙ passed_on (argument_of x) (map argument_of (drop (i + 1) xs)) in
    sums count (passed_size (argument_of x ∷ [])) (passed_size (map argument_of (drop i xs))) rest new total inv step added
  where
    sums : (c o s r n t : ℕ) → c + s ≡ t → s ≡ o + r → n ≡ c + o → n + r ≡ t
    sums c o s r n t p q u = omega (arith, p, q, u)

-- ---- elements of arrays

map_long : {A B : Type 0} (f : A → B) (xs : List A) → length (map f xs) ≡ length xs
map_long f [] = refl
map_long f (x ∷ xs) = ap suc (map_long f xs)

both_long : {A : Type 0} (xs ys : List A) → length (xs ++ ys) ≡ length xs + length ys
both_long [] ys = none (length ys)
  where
    none : (n : ℕ) → n ≡ 0 + n
    none n = omega arith
both_long (x ∷ xs) ys = ap suc (both_long xs ys) ∙ next (length xs) (length ys)
  where
    next : (a b : ℕ) → suc (a + b) ≡ suc a + b
    next a b = omega arith

rows_long : {A B : Type 0} (f : A → List B) (n : ℕ) → ((a : A) → length (f a) ≡ n) → (xs : List A) → length (flat_map f xs) ≡ length xs * n
rows_long f n e [] = none n
  where
    none : (n : ℕ) → 0 ≡ 0 * n
    none n = omega arith
rows_long f n e (x ∷ xs) = both_long (f x) (flat_map f xs) ∙ (λ i. e x i + rows_long f n e xs i) ∙ next n (length xs)
  where
    next : (n l : ℕ) → n + l * n ≡ suc l * n
    next n l = omega arith

range_long : (from n : ℕ) → length (range_with_len from n) ≡ n
range_long from zero = refl
range_long from (suc n) = ap suc (range_long (from + 1) n)

pub elements_long : (n : ℕ) (ns : List ℕ) → length (elements (n ∷ ns)) ≡ n * length (elements ns)
elements_long n ns = rows_long (λ i. map (λ is. i ∷ is) (elements ns)) (length (elements ns)) (λ i. map_long (λ is. i ∷ is) (elements ns)) (range_with_len 0 n) ∙ ap (λ k. k * length (elements ns)) (range_long 0 n)

many_times : (a r : ℕ) → many (many a * r) ≡ many (a * r)
many_times a zero = ap many (zeros (many a) ∙ sym (zeros a))
  where
    zeros : (x : ℕ) → x * 0 ≡ 0
    zeros x = omega arith
many_times a (suc r) = by (nat_le a 65537) refl
  where
    kept : (a : ℕ) → nat_le a 65537 ≡ true → many a ≡ a
    kept a e = grind (arith, e)

    full : (a : ℕ) → nat_le a 65537 ≡ false → many a ≡ 65537
    full a e = grind (arith, e)

    over : (a : ℕ) → nat_le a 65537 ≡ false → 65537 ≤ a
    over a e = grind (arith, e)

    more : (x r : ℕ) → x * suc r ≡ x + x * r
    more x r = omega arith

    most : (x y : ℕ) → 65537 ≤ x → many (x + y) ≡ 65537
    most x y h = omega (arith, h)

    least : 65537 ≤ 65537
    least = omega arith

    by : (b : Bool) → nat_le a 65537 ≡ b → many (many a * suc r) ≡ many (a * suc r)
    by true e = ap (λ k. many (k * suc r)) (kept a e)
    by false e = ap (λ k. many (k * suc r)) (full a e) ∙ ap many (more 65537 r) ∙ most 65537 (65537 * r) least ∙ sym (ap many (more a r) ∙ most a (a * r) (over a e))

pub product_goes : (xs : List ℕ) (i d count new total : ℕ) → i < length xs → many (count * length (elements (drop i xs))) ≡ many total → new ≡ many (count * get_or xs i d)
    → many (new * length (elements (drop (i + 1) xs))) ≡ many total
product_goes xs i d count new total h inv is =
    let x = get_or xs i d in
    let r = length (elements (drop (i + 1) xs)) in
    ap (λ k. many (k * r)) is ∙ many_times (count * x) r ∙ ap many (turned count x r ∙ ap (λ k. count * k) (sym (ap (λ l. length (elements l)) (drop_at xs i d h) ∙ elements_long x (drop (i + 1) xs)))) ∙ inv
  where
    turned : (a b c : ℕ) → (a * b) * c ≡ a * (b * c)
    turned a b c = omega arith

pub saturated : (d i : ℕ) → i ≡ min (d + 1) 4294967295 → deep i ≡ deep (d + 1)
saturated d i e = omega (arith, e)
