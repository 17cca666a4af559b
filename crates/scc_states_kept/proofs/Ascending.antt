-- Ascending lists of cells, and lists that are what a test leaves of all cells.
use Rattle.std.proofs.Common.{◌≡◌, ◌<◌, ◌≤◌, ◌+◌, ℕ, zero, suc, arith, add-one, Bool, true, false, List, [], ◌∷◌, length, refl, sym, ap, subst, ◌∙◌, if◌then◌else◌}
use Rattle.std.specs.Prelude.{◌||◌, ◌&&◌, nat_eq, filter, slice_index_or}
use Rattle.std.specs.List.{list_any, range_with_len, AllByRecursion, IsDistinct}
use Rattle.std.specs.List.Sorted.{IsSorted}
use Rattle.std.specs.Ordering.{nat_cmp, is_lt}
use Rattle.std.proofs.lemmas.Bool.Decides.{nat_tests}
use Rattle.scc_core_flow.specs.Live.{Each}
use Rattle.scc_core_spec.specs.Uses.{among}
use Rattle.scc_states_kept.proofs.Bools.{or_true}
use Rattle.scc_states_kept.proofs.Standing.{same_number, same_test}

-- each at least n, and below the next
abbrev pub Rises : ℕ → List ℕ → Type 0
Rises n [] = Unit {0}
Rises n (x ∷ xs) = (n ≤ x) × Rises (suc x) xs

abbrev pub Below : ℕ → List ℕ → Type 0
Below b xs = Each (λ x. x < b) xs

other_number : (a b : ℕ) → a < b → nat_eq a b ≡ false
other_number a b h = grind (arith, nat_tests, h)

later_number : (a b : ℕ) → b < a → nat_eq a b ≡ false
later_number a b h = grind (arith, nat_tests, h)

cut : (n x : ℕ) → n ≤ x → nat_eq n x ≡ false → n < x
cut n x h e = grind (arith, nat_tests, h, e)

-- nothing below the first is among them
absent : (n z : ℕ) (xs : List ℕ) → Rises n xs → z < n → among z xs ≡ false
absent n z [] r h = refl
absent n z (x ∷ xs) r h =
    let here : nat_eq z x ≡ false = other_number z x (omega (arith, r.0, h)) in
    ap (λ b. b || among z xs) here ∙ absent (suc x) z xs r.1 (omega (arith, r.0, h))

-- from n on, the first of them below isn't met
passed : (m n x : ℕ) (xs : List ℕ) → x < n → filter (λ z. among z (x ∷ xs)) (range_with_len n m) ≡ filter (λ z. among z xs) (range_with_len n m)
passed zero n x xs h = refl
passed (suc m) n x xs h =
    ap (λ b. if (b || among n xs) then n ∷ filter (λ z. among z (x ∷ xs)) (range_with_len (n + 1) m) else filter (λ z. among z (x ∷ xs)) (range_with_len (n + 1) m)) (later_number n x h)
    ∙ ap (λ l. if among n xs then n ∷ l else l) (passed m (n + 1) x xs (omega (arith, h)))

none_left : (m n : ℕ) → filter (λ z. among z []) (range_with_len n m) ≡ []
none_left zero n = refl
none_left (suc m) n = none_left m (n + 1)

no_number : (n x : ℕ) → n ≤ x → x < n + 0 → ⊥
no_number n x h k = omega arith

pub all_met : (m n : ℕ) (xs : List ℕ) → Rises n xs → Below (n + m) xs → xs ≡ filter (λ z. among z xs) (range_with_len n m)
all_met zero n [] r b = refl
all_met zero n (x ∷ xs) r b = absurd (no_number n x r.0 b.0)
all_met (suc m) n [] r b = sym (none_left (suc m) n)
all_met (suc m) n (x ∷ xs) r b = by (all_met m (n + 1)) (nat_eq n x) refl
  where
    next : (k : ℕ) → k + suc m ≡ k + 1 + m
    next k = omega arith

    further : Below (n + 1 + m) xs
    further = subst (λ k. Below k xs) (next n) b.1

    by : ((ys : List ℕ) → Rises (n + 1) ys → Below (n + 1 + m) ys → ys ≡ filter (λ z. among z ys) (range_with_len (n + 1) m)) → (t : Bool) → nat_eq n x ≡ t
        → x ∷ xs ≡ filter (λ z. among z (x ∷ xs)) (range_with_len n (suc m))
    by met true e =
        let same : n ≡ x = same_number n x e in
        let rest = met xs (subst (λ k. Rises k xs) (ap suc (sym same) ∙ sym (add-one n)) r.1) further in
        ap (λ k. k ∷ xs) (sym same)
        ∙ ap (λ l. n ∷ l) (rest ∙ sym (passed m (n + 1) x xs (omega (arith, same))))
        ∙ ap (λ t. if (t || among n xs) then n ∷ filter (λ z. among z (x ∷ xs)) (range_with_len (n + 1) m) else filter (λ z. among z (x ∷ xs)) (range_with_len (n + 1) m)) (sym e)
    by met false e =
        let above : n < x = cut n x r.0 e in
        let later : n + 1 ≤ x = omega (arith, above) in
        let whole = met (x ∷ xs) (later, r.1) (subst (λ k. x < k) (next n) b.0, further) in
        whole
        ∙ ap (λ t. if t then n ∷ filter (λ z. among z (x ∷ xs)) (range_with_len (n + 1) m) else filter (λ z. among z (x ∷ xs)) (range_with_len (n + 1) m)) (sym (absent (n + 1) n (x ∷ xs) (later, r.1) (omega arith)))

-- sorted and distinct
at_most : (x y : ℕ) → is_lt (nat_cmp y x) ≡ false → x ≤ y
at_most x y h = grind (arith, nat_tests, h)

step : (k : ℕ) → suc k + 1 ≡ suc (k + 1)
step k = omega arith

pub rises : (x : ℕ) (xs : List ℕ) → IsSorted nat_cmp (x ∷ xs) → IsDistinct nat_eq (x ∷ xs) → Rises x (x ∷ xs)
unfolding IsDistinct
rises x [] s d = (omega arith, tt)
rises x (y ∷ ys) s d =
    let below : x ≤ y = at_most x y (s 0 0 (omega arith) (omega arith)) in
    let above : x < y = cut x y below d.0.0 in
    let rest = rises y ys (λ k e z h. tail k e h) d.1 in
    (omega arith, (omega (arith, above), rest.1))
  where
    tail : (k e : ℕ) → k + 1 < length (y ∷ ys) → is_lt (nat_cmp (slice_index_or (y ∷ ys) (k + 1) e) (slice_index_or (y ∷ ys) k e)) ≡ false
    tail k e h = subst (λ n. is_lt (nat_cmp (slice_index_or (x ∷ y ∷ ys) n e) (slice_index_or (y ∷ ys) k e)) ≡ false) (step k) (s (suc k) e (omega arith) (omega (arith, h)))

lower : (n x : ℕ) (xs : List ℕ) → n ≤ x → Rises x (x ∷ xs) → Rises n (x ∷ xs)
lower n x xs h r = (h, r.1)

pub rises_all : (xs : List ℕ) → IsSorted nat_cmp xs → IsDistinct nat_eq xs → Rises 0 xs
rises_all [] s d = tt
rises_all (x ∷ xs) s d = lower 0 x xs (omega arith) (rises x xs s d)

self_among : (x : ℕ) (xs : List ℕ) → among x (x ∷ xs) ≡ true
self_among x xs = ap (λ b. b || among x xs) (same_test x x refl)

more_among : (z x : ℕ) (xs : List ℕ) → among z xs ≡ true → among z (x ∷ xs) ≡ true
more_among z x xs h = ap (λ b. nat_eq z x || b) h ∙ or_true (nat_eq z x)

-- what holds of each number that is among them
pub each_among : (P : ℕ → Type 0) (xs : List ℕ) → ((z : ℕ) → among z xs ≡ true → P z) → Each P xs
each_among P [] h = tt
each_among P (x ∷ xs) h = (h x (self_among x xs), each_among P xs (λ z e. h z (more_among z x xs e)))

pub filter_as : (f g : ℕ → Bool) (xs : List ℕ) → ((z : ℕ) → f z ≡ g z) → filter f xs ≡ filter g xs
filter_as f g xs h = ap (λ (t : ℕ → Bool). filter t xs) (λ i z. h z i)

-- a sorted list of what a test tells of
pub list_is : (xs : List ℕ) (f : ℕ → Bool) (n : ℕ) → IsSorted nat_cmp xs → IsDistinct nat_eq xs → ((z : ℕ) → among z xs ≡ f z) → ((z : ℕ) → f z ≡ true → z < n) → xs ≡ filter f (range_with_len 0 n)
list_is xs f n s d told below =
    all_met n 0 xs (rises_all xs s d) (each_among (λ z. z < 0 + n) xs (λ z e. let b = below z (sym (told z) ∙ e) in omega (arith, b)))
    ∙ filter_as (λ z. among z xs) f (range_with_len 0 n) told

-- one test behind another
pub filter_two : (f g : ℕ → Bool) (xs : List ℕ) → filter g (filter f xs) ≡ filter (λ z. f z && g z) xs
filter_two f g [] = refl
filter_two f g (x ∷ xs) = by (filter_two f g xs) (f x)
  where
    by : filter g (filter f xs) ≡ filter (λ z. f z && g z) xs → (b : Bool) → filter g (if b then x ∷ filter f xs else filter f xs) ≡ (if b && g x then x ∷ filter (λ z. f z && g z) xs else filter (λ z. f z && g z) xs)
    by e true = ap (λ l. if g x then x ∷ l else l) e
    by e false = e
