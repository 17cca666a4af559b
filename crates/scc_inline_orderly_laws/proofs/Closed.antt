-- What the calls of a function lead to is closed: in each round a further function is met, of which there are only so many.
use Rattle.std.proofs.Common.{◌≡◌, ℕ, zero, suc, ◌+◌, ◌<◌, ◌≤◌, Bool, true, false, not, ◌&&◌, ◌||◌, nat_eq, List, [], ◌∷◌, ◌++◌, length, flat_map, None, option_map, unwrap_or, slice_get, refl, sym, ap, ◌∙◌, subst, arith}
use Rattle.std.specs.Prelude.{nat_lt}
use Rattle.std.specs.List.{list_all}
use Rattle.scc_elab_spec.specs.Program.{Function, Plain}
use Rattle.scc_inline_orderly_laws.specs.Reached.{among, callees, callees_at, grown, is_closed, joined, reached}
use Rattle.scc_inline_orderly_laws.proofs.Bools.{and-first, and-second, eq-is, lt-is, not-false}
use Rattle.scc_inline_orderly_laws.proofs.Reached.{behind, in-front}

both : (a b : Bool) → a ≡ true → b ≡ true → (a && b) ≡ true
both a b e f = λ z. e z && f z

self : (n : ℕ) → nat_eq n n ≡ true
self n = grind arith

abbrev one : Bool → ℕ
one true = 1
one false = 0

-- each once
abbrev distinct : List ℕ → Bool
distinct [] = true
distinct (f ∷ fs) = not (among f fs) && distinct fs

-- how often a number is there, and how many are below another one
abbrev times : ℕ → List ℕ → ℕ
times n [] = 0
times n (f ∷ fs) = one (nat_eq n f) + times n fs

abbrev inside : ℕ → List ℕ → ℕ
inside n [] = 0
inside n (f ∷ fs) = one (nat_lt f n) + inside n fs

none-below : (fs : List ℕ) → inside 0 fs ≡ 0
none-below [] = refl
none-below (f ∷ fs) = let e : nat_lt f 0 ≡ false = below f in let h = none-below fs in ap (λ b. one b + inside 0 fs) e ∙ (let z : 0 + inside 0 fs ≡ inside 0 fs = omega arith in z ∙ h)
  where
    below : (f : ℕ) → nat_lt f 0 ≡ false
    below f = grind arith

next : (f n : ℕ) → one (nat_lt f (suc n)) ≤ one (nat_lt f n) + one (nat_eq n f)
next f n = by (nat_lt f n) (nat_eq n f) refl refl
  where
    most : (b : Bool) → one b ≤ 1
    most true = omega arith
    most false = omega arith

    over : (f n : ℕ) → nat_lt f n ≡ false → nat_eq n f ≡ false → nat_lt f (suc n) ≡ false
    over f n e u = grind (arith, e, u)

    by : (a b : Bool) → nat_lt f n ≡ a → nat_eq n f ≡ b → one (nat_lt f (suc n)) ≤ one a + one b
    by true b e u = let x = most (nat_lt f (suc n)) in omega (arith, x)
    by false true e u = let x = most (nat_lt f (suc n)) in omega (arith, x)
    by false false e u = subst (λ c. one c ≤ 0 + 0) (sym (over f n e u)) (omega arith)

inside-next : (n : ℕ) (fs : List ℕ) → inside (suc n) fs ≤ inside n fs + times n fs
inside-next n [] = omega arith
inside-next n (f ∷ fs) = let x = next f n in let y = inside-next n fs in omega (arith, x, y)

none-there : (n : ℕ) (fs : List ℕ) → among n fs ≡ false → times n fs ≡ 0
none-there n [] e = refl
none-there n (f ∷ fs) e = by (nat_eq n f) e (none-there n fs)
  where
    by : (b : Bool) → (b || among n fs) ≡ false → (among n fs ≡ false → times n fs ≡ 0) → one b + times n fs ≡ 0
    by true e ih = cc
    by false e ih = let x = ih e in omega (arith, x)

once : (n : ℕ) (fs : List ℕ) → distinct fs ≡ true → times n fs ≤ 1
once n [] e = omega arith
once n (f ∷ fs) e = by (nat_eq n f) refl (once n fs (and-second (not (among f fs)) (distinct fs) e))
  where
    by : (b : Bool) → nat_eq n f ≡ b → times n fs ≤ 1 → one b + times n fs ≤ 1
    by true u ih = let z : times n fs ≡ 0 = none-there n fs (ap (λ m. among m fs) (eq-is n f u) ∙ not-false (among f fs) (and-first (not (among f fs)) (distinct fs) e)) in omega (arith, z)
    by false u ih = omega (arith, ih)

few : (n : ℕ) (fs : List ℕ) → distinct fs ≡ true → inside n fs ≤ n
few zero fs e = let x = none-below fs in omega (arith, x)
few (suc n) fs e = let x = inside-next n fs in let y = once n fs e in let z = few n fs e in omega (arith, x, y, z)

all-from : (test : ℕ → Bool) (fs : List ℕ) → ((f : ℕ) → among f fs ≡ true → test f ≡ true) → list_all test fs ≡ true
all-from test [] h = refl
all-from test (f ∷ fs) h = both (test f) (list_all test fs) (h f (ap (λ b. b || among f fs) (self f))) (all-from test fs (λ g e. h g (later (nat_eq g f) (among g fs) e)))
  where
    later : (a b : Bool) → b ≡ true → (a || b) ≡ true
    later true b e = refl
    later false b e = e

flat-among : (h : ℕ → List ℕ) (fs : List ℕ) (f g : ℕ) → among f fs ≡ true → among g (h f) ≡ true → among g (flat_map h fs) ≡ true
flat-among h [] f g e u = cc
flat-among h (x ∷ fs) f g e u = by (nat_eq f x) refl e (λ e. flat-among h fs f g e u)
  where
    by : (b : Bool) → nat_eq f x ≡ b → (b || among f fs) ≡ true → (among f fs ≡ true → among g (flat_map h fs) ≡ true) → among g (h x ++ flat_map h fs) ≡ true
    by true v w ih = in-front g (h x) (flat_map h fs) (ap (λ x. among g (h x)) (sym (eq-is f x v)) ∙ u)
    by false v w ih = behind g (h x) (flat_map h fs) (ih w)

module _ (p : Plain) where
  abbrev N : ℕ
  N = length p.functions

  old : (fs : List ℕ) (g : ℕ) (gs : List ℕ) → among g fs ≡ true → joined p fs (g ∷ gs) ≡ joined p fs gs
  old fs g gs e = rw e refl

  new : (fs : List ℕ) (g : ℕ) (gs : List ℕ) → among g fs ≡ false → joined p fs (g ∷ gs) ≡ joined p (g ∷ fs) gs
  new fs g gs e = rw e refl

  -- one way or the other
  either : {X : Type 0} (b : Bool) → (b ≡ true → X) → (b ≡ false → X) → X
  either true f g = f refl
  either false f g = g refl

  joined-distinct : (gs fs : List ℕ) → distinct fs ≡ true → distinct (joined p fs gs) ≡ true
  joined-distinct [] fs e = e
  joined-distinct (g ∷ gs) fs e = either (among g fs) (λ u. ap distinct (old fs g gs u) ∙ joined-distinct gs fs e)
      (λ u. ap distinct (new fs g gs u) ∙ joined-distinct gs (g ∷ fs) (both (not (among g fs)) (distinct fs) (ap not u) e))

  joined-keeps : (gs fs : List ℕ) (f : ℕ) → among f fs ≡ true → among f (joined p fs gs) ≡ true
  joined-keeps [] fs f e = e
  joined-keeps (g ∷ gs) fs f e = either (among g fs) (λ u. ap (among f) (old fs g gs u) ∙ joined-keeps gs fs f e) (λ u. ap (among f) (new fs g gs u) ∙ joined-keeps gs (g ∷ fs) f (later (nat_eq f g) (among f fs) e))
    where
      later : (a b : Bool) → b ≡ true → (a || b) ≡ true
      later true b e = refl
      later false b e = e

  joined-all : (gs fs : List ℕ) (f : ℕ) → among f gs ≡ true → among f (joined p fs gs) ≡ true
  joined-all [] fs f e = cc
  joined-all (g ∷ gs) fs f e = either (nat_eq f g)
      (λ u. let same = eq-is f g u in either (among g fs) (λ v. ap (among f) (old fs g gs v) ∙ joined-keeps gs fs f (ap (λ f. among f fs) same ∙ v))
      (λ v. ap (among f) (new fs g gs v) ∙ joined-keeps gs (g ∷ fs) f (ap (λ b. b || among f fs) u)))
      (λ u. let rest : among f gs ≡ true = sym (ap (λ b. b || among f gs) u) ∙ e in either (among g fs) (λ v. ap (among f) (old fs g gs v) ∙ joined-all gs fs f rest) (λ v. ap (among f) (new fs g gs v) ∙ joined-all gs (g ∷ fs) f rest))

  joined-more : (n : ℕ) (gs fs : List ℕ) → inside n fs ≤ inside n (joined p fs gs)
  joined-more n [] fs = omega arith
  joined-more n (g ∷ gs) fs = either (among g fs) (λ u. subst (λ hs. inside n fs ≤ inside n hs) (sym (old fs g gs u)) (joined-more n gs fs))
      (λ u. subst (λ hs. inside n fs ≤ inside n hs) (sym (new fs g gs u)) (let x = joined-more n gs (g ∷ fs) in omega (arith, x)))

  -- where no further function is met, those that are there were there
  joined-old : (gs fs : List ℕ) → inside N (joined p fs gs) ≤ inside N fs → (f : ℕ) → nat_lt f N ≡ true → among f (joined p fs gs) ≡ true → among f fs ≡ true
  joined-old [] fs h f i e = e
  joined-old (g ∷ gs) fs h f i e = either (among g fs)
      (λ u. joined-old gs fs (subst (λ hs. inside N hs ≤ inside N fs) (old fs g gs u) h) f i (sym (ap (among f) (old fs g gs u)) ∙ e))
      (λ u.
      let k : inside N (joined p (g ∷ fs) gs) ≤ inside N fs = subst (λ hs. inside N hs ≤ inside N fs) (new fs g gs u) h in
      let m : one (nat_lt g N) + inside N fs ≤ inside N (joined p (g ∷ fs) gs) = joined-more N gs (g ∷ fs) in
      let t = joined-old gs (g ∷ fs) (omega (arith, k)) f i (sym (ap (among f) (new fs g gs u)) ∙ e) in
      either (nat_eq f g) (λ v. absurd (never (nat_lt g N) (inside N fs) (inside N (joined p (g ∷ fs) gs)) (sym (ap (λ f. nat_lt f N) (eq-is f g v)) ∙ i) m k)) (λ v. sym (ap (λ b. b || among f fs) v) ∙ t))
    where
      never : (b : Bool) (i j : ℕ) → b ≡ true → one b + i ≤ j → j ≤ i → ⊥
      never true i j e x y = omega (arith, x, y)
      never false i j e x y = cc

  no-callees : (f : ℕ) → nat_lt f N ≡ false → callees_at p f ≡ []
  no-callees f e = ap (λ o. unwrap_or (option_map (λ g. callees g.body) o) []) (none-at p.functions f e)
    where
      none-at : (xs : List Function) (f : ℕ) → nat_lt f (length xs) ≡ false → slice_get xs f ≡ None
      none-at [] f e = refl
      none-at (x ∷ xs) zero e = absurd (let z : nat_lt 0 (suc (length xs)) ≡ true = first (length xs) in let w : true ≡ false = sym z ∙ e in cc)
        where
          first : (n : ℕ) → nat_lt 0 (suc n) ≡ true
          first n = grind arith
      none-at (x ∷ xs) (suc f) e = none-at xs f (down f (length xs) e)
        where
          down : (f n : ℕ) → nat_lt (suc f) (suc n) ≡ false → nat_lt f n ≡ false
          down f n e = grind (arith, e)

  abbrev round : List ℕ → List ℕ
  round fs = joined p fs (flat_map (callees_at p) fs)

  -- a round in which no further function is met closes
  round-closes : (fs : List ℕ) → inside N (round fs) ≤ inside N fs → is_closed p (round fs) ≡ true
  round-closes fs h = all-from (λ f. list_all (λ g. among g (round fs)) (callees_at p f)) (round fs) (λ f e. either (nat_lt f N)
      (λ i. let there = joined-old (flat_map (callees_at p) fs) fs h f i e in
      all-from (λ g. among g (round fs)) (callees_at p f) (λ g u. joined-all (flat_map (callees_at p) fs) fs g (flat-among (callees_at p) fs f g there u)))
      (λ i. ap (list_all (λ g. among g (round fs))) (no-callees f i)))

  -- what is closed stays
  all-old : (gs fs : List ℕ) → list_all (λ g. among g fs) gs ≡ true → joined p fs gs ≡ fs
  all-old [] fs e = refl
  all-old (g ∷ gs) fs e = old fs g gs (and-first (among g fs) (list_all (λ g. among g fs) gs) e) ∙ all-old gs fs (and-second (among g fs) (list_all (λ g. among g fs) gs) e)

  all-append : (test : ℕ → Bool) (xs ys : List ℕ) → list_all test xs ≡ true → list_all test ys ≡ true → list_all test (xs ++ ys) ≡ true
  all-append test [] ys e f = f
  all-append test (x ∷ xs) ys e f = both (test x) (list_all test (xs ++ ys)) (and-first (test x) (list_all test xs) e) (all-append test xs ys (and-second (test x) (list_all test xs) e) f)

  all-flat : (test : ℕ → Bool) (h : ℕ → List ℕ) (fs : List ℕ) → list_all (λ f. list_all test (h f)) fs ≡ true → list_all test (flat_map h fs) ≡ true
  all-flat test h [] e = refl
  all-flat test h (f ∷ fs) e = all-append test (h f) (flat_map h fs) (and-first (list_all test (h f)) (list_all (λ f. list_all test (h f)) fs) e) (all-flat test h fs (and-second (list_all test (h f)) (list_all (λ f. list_all test (h f)) fs) e))

  closed-stays : (n : ℕ) (fs : List ℕ) → is_closed p fs ≡ true → is_closed p (grown p n fs) ≡ true
  closed-stays zero fs e = e
  closed-stays (suc n) fs e = subst (λ hs. is_closed p (grown p n hs) ≡ true) (sym (all-old (flat_map (callees_at p) fs) fs (all-flat (λ g. among g fs) (callees_at p) fs e))) (closed-stays n fs e)

  grown-closed : (n : ℕ) (fs : List ℕ) → distinct fs ≡ true → N + 1 ≤ inside N fs + n → is_closed p (grown p n fs) ≡ true
  grown-closed zero fs e h = absurd (let x = few N fs e in never N (inside N fs) x h)
    where
      never : (i j : ℕ) → j ≤ i → i + 1 ≤ j + 0 → ⊥
      never i j x y = omega (arith, x, y)
  grown-closed (suc n) fs e h = either (nat_lt (inside N fs) (inside N (round fs)))
      (λ u. let x = lt-is (inside N fs) (inside N (round fs)) u in grown-closed n (round fs) (joined-distinct (flat_map (callees_at p) fs) fs e) (more N (inside N fs) (inside N (round fs)) n h x))
      (λ u. closed-stays n (round fs) (round-closes fs (not-lt (inside N fs) (inside N (round fs)) u)))
    where
      more : (i j k n : ℕ) → i + 1 ≤ j + suc n → j < k → i + 1 ≤ k + n
      more i j k n x y = omega (arith, x, y)

      not-lt : (i j : ℕ) → nat_lt i j ≡ false → j ≤ i
      not-lt i j e = grind (arith, e)

  grown-keeps : (n : ℕ) (fs : List ℕ) (f : ℕ) → among f fs ≡ true → among f (grown p n fs) ≡ true
  grown-keeps zero fs f e = e
  grown-keeps (suc n) fs f e = grown-keeps n (round fs) f (joined-keeps (flat_map (callees_at p) fs) fs f e)

  pub reached-itself : (f : ℕ) → among f (reached p f) ≡ true
  reached-itself f = grown-keeps N (f ∷ []) f (ap (λ b. b || false) (self f))

  pub reached-closed : (f : ℕ) → is_closed p (reached p f) ≡ true
  reached-closed f = either (nat_lt f N) (λ i. grown-closed N (f ∷ []) refl (start N (nat_lt f N) i))
      (λ i. closed-stays N (f ∷ []) (both (list_all (λ g. among g (f ∷ [])) (callees_at p f)) true (ap (list_all (λ g. among g (f ∷ []))) (no-callees f i)) refl))
    where
      start : (n : ℕ) (b : Bool) → b ≡ true → n + 1 ≤ (one b + 0) + n
      start n true e = omega arith
      start n false e = cc
