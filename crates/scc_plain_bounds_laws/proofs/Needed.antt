-- The queue of a static stage that isn't refused has what the walks over its entries need.
use Rattle.std.proofs.Common.{◌≡◌, ℕ, zero, suc, ◌+◌, ◌<◌, ◌≤◌, Bool, true, false, ◌&&◌, ◌||◌, nat_eq, List, [], ◌∷◌, ◌++◌, slice_get, length, Option, Some, None, refl, sym, ap, ◌∙◌, subst, if◌then◌else◌, arith}
use Rattle.std.specs.Prelude.{not, nat_lt, filter}
use Rattle.std.specs.List.{list_all, list_any}
use Rattle.scc_base.specs.declared.code.Code.TheVariants as reason
use Rattle.scc_base.specs.declared.refusal.Place.{Place}
use Rattle.scc_base.specs.declared.refusal.Refusal.{Refusal}
use Rattle.scc_bits_kinds.specs.declared.kind.Kind.{Kind}
use Rattle.scc_bits_kinds.specs.declared.kind.Kind.TheVariants as kind
use Rattle.scc_templates_spec.specs.Walk.{Arg, Value, Sort, Of, Args, Nil, Cons, Event, Fault, Need, Late, Uses, Calls, Needed, Class, Free, Tally, Went, refusal, went_on, stopped, then_go, is_class, same_bool, same_kind, same_arg, same_args, same_needed, most, needed, go, empty}
use Rattle.scc_templates_spec.specs.Stage.{next, stage, enough, staged_from}
use Rattle.scc_plain_first.specs.Static.{Walks, staged}
use Rattle.scc_plain_bounds_laws.specs.Needed.{needs, has_all, HasAll}
use Rattle.scc_plain_bounds_laws.proofs.Before.{Before, same, on, next as one-more}
use Rattle.scc_plain_bounds_laws.proofs.Bounded.{both}

-- ---- an entry is the same as itself

number-self : (n : ℕ) → nat_eq n n ≡ true
number-self n = grind arith

bool-self : (b : Bool) → same_bool b b ≡ true
bool-self true = refl
bool-self false = refl

kind-self : (k : Kind) → same_kind k k ≡ true
kind-self kind.Bool = refl
kind-self (kind.Native w s) = both (nat_eq w w) (same_bool s s) (number-self w) (bool-self s)
kind-self (kind.Int w) = number-self w
kind-self (kind.Uint w) = number-self w
kind-self (kind.Big w) = number-self w
kind-self (kind.BigInt w) = number-self w
kind-self (kind.Bv w) = number-self w
kind-self (kind.Wide b s) = both (nat_eq b b) (same_bool s s) (number-self b) (bool-self s)

mutual
  arg-self : (x : Arg) → same_arg x x ≡ true
  arg-self (Value k w) = both (same_kind k k) (nat_eq w w) (kind-self k) (number-self w)
  arg-self (Sort k) = kind-self k
  arg-self (Of c xs) = both (nat_eq c c) (same_args xs xs) (number-self c) (args-self xs)

  pub args-self : (xs : Args) → same_args xs xs ≡ true
  args-self Nil = refl
  args-self (Cons x xs) = both (same_arg x x) (same_args xs xs) (arg-self x) (args-self xs)

needed-self : (x : Needed) → same_needed x x ≡ true
needed-self (Class c xs) = both (nat_eq c c) (same_args xs xs) (number-self c) (args-self xs)
needed-self (Free f) = number-self f

-- ---- a queue that goes on has what it had

any-more : {A : Type 0} (f : A → Bool) (xs ys : List A) → list_any f xs ≡ true → list_any f (xs ++ ys) ≡ true
any-more f [] ys e = absurd cc
any-more f (x ∷ xs) ys e = by (f x) (any-more f xs ys) e
  where
    by : (b : Bool) → (list_any f xs ≡ true → list_any f (xs ++ ys) ≡ true) → (b || list_any f xs) ≡ true → (b || list_any f (xs ++ ys)) ≡ true
    by true more e = refl
    by false more e = more e

any-last : {A : Type 0} (f : A → Bool) (xs : List A) (x : A) → f x ≡ true → list_any f (xs ++ x ∷ []) ≡ true
any-last f [] x e = ap (λ b. b || false) e
any-last f (y ∷ xs) x e = by (f y) (any-last f xs x e)
  where
    by : (b : Bool) → list_any f (xs ++ x ∷ []) ≡ true → (b || list_any f (xs ++ x ∷ [])) ≡ true
    by true h = refl
    by false h = h

has-later : (x : Needed) (q r : List Needed) → Before q r → list_any (same_needed x) q ≡ true → list_any (same_needed x) r ≡ true
has-later x q r g e = ap (list_any (same_needed x)) (sym g.whole) ∙ any-more (same_needed x) q g.more e

all-later : (xs : List Needed) (q r : List Needed) → Before q r → list_all (λ x. list_any (same_needed x) q) xs ≡ true → list_all (λ x. list_any (same_needed x) r) xs ≡ true
all-later [] q r g e = refl
all-later (x ∷ xs) q r g e = by (list_any (same_needed x) q) refl (all-later xs q r g) e
  where
    by : (b : Bool) → list_any (same_needed x) q ≡ b → (list_all (λ x. list_any (same_needed x) q) xs ≡ true → list_all (λ x. list_any (same_needed x) r) xs ≡ true) → (b && list_all (λ x. list_any (same_needed x) q) xs) ≡ true → (list_any (same_needed x) r && list_all (λ x. list_any (same_needed x) r) xs) ≡ true
    by true h more e = both (list_any (same_needed x) r) (list_all (λ x. list_any (same_needed x) r) xs) (has-later x q r g h) (more e)
    by false h more e = absurd cc

pub has-all-later : (es : List Event) (q r : List Needed) → Before q r → HasAll q es → HasAll r es
has-all-later es q r g e = all-later (needs es) q r g e

-- ---- one walk

-- what is needed is there, too many or new
abbrev answered : Bool → Bool → Needed → Place → Tally → Went
answered b c x p t = if b then went_on t else (if c then stopped t (refusal reason.TooManyInstances p None) else went_on (record { queue = t.queue ++ x ∷ []; late = t.late }))

needed-grows : (x : Needed) (p : Place) (t : Tally) → Before t.queue (needed x p t).tally.queue
needed-grows x p t = by (list_any (same_needed x) t.queue) (is_class x && not (nat_lt (length (filter is_class t.queue)) most))
  where
    by : (b c : Bool) → Before t.queue (answered b c x p t).tally.queue
    by true c = same t.queue
    by false true = same t.queue
    by false false = one-more t.queue x

needed-has : (x : Needed) (p : Place) (t : Tally) → (needed x p t).stop ≡ None → list_any (same_needed x) (needed x p t).tally.queue ≡ true
needed-has x p t e = by (list_any (same_needed x) t.queue) (is_class x && not (nat_lt (length (filter is_class t.queue)) most)) refl e
  where
    by : (b c : Bool) → list_any (same_needed x) t.queue ≡ b → (answered b c x p t).stop ≡ None → list_any (same_needed x) (answered b c x p t).tally.queue ≡ true
    by true c h e = h
    by false true h e = absurd cc
    by false false h e = any-last (same_needed x) t.queue x (needed-self x)

then-grows : (q : List Needed) (w : Went) (f : Tally → Went) → Before q w.tally.queue → ((t : Tally) → Before t.queue (f t).tally.queue) → Before q (then_go w f).tally.queue
then-grows q w f a g = by w.stop
  where
    by : (o : Option Refusal) → Before q (then_go (record { tally = w.tally; stop = o }) f).tally.queue
    by None = on a (g w.tally)
    by (Some r) = a

then-first : (w : Went) (f : Tally → Went) → (then_go w f).stop ≡ None → w.stop ≡ None
then-first w f e = by w.stop refl e
  where
    by : (o : Option Refusal) → w.stop ≡ o → (then_go (record { tally = w.tally; stop = o }) f).stop ≡ None → w.stop ≡ None
    by None d h = d
    by (Some r) d h = d ∙ h

-- where nothing stops, the rest goes on from there
then-is : (w : Went) (f : Tally → Went) → w.stop ≡ None → then_go w f ≡ f w.tally
then-is w f e = by w.stop e
  where
    by : (o : Option Refusal) → o ≡ None → then_go (record { tally = w.tally; stop = o }) f ≡ f w.tally
    by None e = refl
    by (Some r) e = absurd cc

go-grows : (es : List Event) (t : Tally) → Before t.queue (go es t).tally.queue
go-grows [] t = same t.queue
go-grows (Fault code place other ∷ es) t = same t.queue
go-grows (Need x p ∷ es) t = then-grows t.queue (needed x p t) (go es) (needed-grows x p t) (go-grows es)
go-grows (Late place ∷ es) t = go-grows es _
go-grows (Uses ∷ es) t = go-grows es t
go-grows (Calls f how place ∷ es) t = go-grows es t

go-has : (es : List Event) (t : Tally) → (go es t).stop ≡ None → HasAll (go es t).tally.queue es
go-has [] t e = refl
go-has (Fault code place other ∷ es) t e = absurd cc
go-has (Need x p ∷ es) t e =
    let w = needed x p t in
    let none = then-first w (go es) e in
    let is = then-is w (go es) none in
    let q = (go es w.tally).tally.queue in
    subst (λ (v : Went). HasAll v.tally.queue (Need x p ∷ es)) (sym is)
    (both (list_any (same_needed x) q) (has_all q es) (has-later x w.tally.queue q (go-grows es w.tally) (needed-has x p t none)) (go-has es w.tally (ap (λ (v : Went). v.stop) (sym is) ∙ e)))
go-has (Late place ∷ es) t e = go-has es _ e
go-has (Uses ∷ es) t e = go-has es t e
go-has (Calls f how place ∷ es) t e = go-has es t e

-- ---- entry after entry

get-more : {A : Type 0} (xs ys : List A) (n : ℕ) (x : A) → slice_get xs n ≡ Some x → slice_get (xs ++ ys) n ≡ Some x
get-more [] ys n x e = absurd cc
get-more (y ∷ xs) ys zero x e = e
get-more (y ∷ xs) ys (suc n) x e = get-more xs ys n x e

-- nothing stands behind where nothing stands
none-behind : {A : Type 0} (xs : List A) (i j : ℕ) → i ≤ j → slice_get xs i ≡ None → slice_get xs j ≡ None
none-behind [] i j h e = refl
none-behind (x ∷ xs) zero j h e = absurd cc
none-behind (x ∷ xs) (suc i) zero h e = absurd (let z : suc i ≤ zero = h in omega (arith, z))
none-behind (x ∷ xs) (suc i) (suc j) h e = none-behind xs i j (omega (arith, h)) e

module _ (walk_of : Needed → List Event) where
  next-grows : (o : Option Needed) (t : Tally) (more : Tally → Went) → ((u : Tally) → Before u.queue (more u).tally.queue) → Before t.queue (next walk_of t o more).tally.queue
  next-grows None t more g = same t.queue
  next-grows (Some x) t more g = then-grows t.queue (go (walk_of x) t) more (go-grows (walk_of x) t) g

  stage-grows : (n i : ℕ) (t : Tally) → Before t.queue (stage walk_of n i t).tally.queue
  stage-grows zero i t = same t.queue
  stage-grows (suc n) i t = next-grows (slice_get t.queue i) t (stage walk_of n (i + 1)) (stage-grows n (i + 1))

  -- what the entries from one on need
  abbrev HasEach : ℕ → ℕ → Tally → Type 0
  HasEach n i t = (j : ℕ) (x : Needed) → i ≤ j → j < i + n → slice_get t.queue j ≡ Some x → HasAll t.queue (walk_of x)

  -- the first is walked, and those behind
  each-more : (n i : ℕ) (t : Tally) (y : Needed) → slice_get t.queue i ≡ Some y → HasAll t.queue (walk_of y) → HasEach n (i + 1) t → HasEach (suc n) i t
  each-more n i t y e h more j x a b g = by (nat_eq i j) refl
    where
      some : {A : Type 0} {a b : A} → Some a ≡ Some b → a ≡ b
      some e = cc

      eq-is : (m n : ℕ) → nat_eq m n ≡ true → m ≡ n
      eq-is m n e = grind arith

      ne-is : (m n : ℕ) → nat_eq m n ≡ false → m ≤ n → m + 1 ≤ n
      ne-is m n e h = grind arith

      by : (o : Bool) → nat_eq i j ≡ o → HasAll t.queue (walk_of x)
      by true u = subst (λ x. HasAll t.queue (walk_of x)) (some (sym e ∙ (ap (slice_get t.queue) (eq-is i j u) ∙ g))) h
      by false u = more j x (ne-is i j u a) (let z = b in omega (arith, z)) g

  stage-has : (n i : ℕ) (t : Tally) → (stage walk_of n i t).stop ≡ None → HasEach n i (stage walk_of n i t).tally
  stage-has zero i t e = λ j x a b g. absurd (no-number i j a b)
    where
      no-number : (i j : ℕ) → i ≤ j → j < i + 0 → ⊥
      no-number i j a b = omega (arith, a, b)
  stage-has (suc n) i t e = by (slice_get t.queue i) refl (stage-has n (i + 1)) e
    where
      by : (o : Option Needed) → slice_get t.queue i ≡ o → ((u : Tally) → (stage walk_of n (i + 1) u).stop ≡ None → HasEach n (i + 1) (stage walk_of n (i + 1) u).tally) → (next walk_of t o (stage walk_of n (i + 1))).stop ≡ None → HasEach (suc n) i (next walk_of t o (stage walk_of n (i + 1))).tally
      by None u more e = λ j x a b g. absurd (never j x (sym (none-behind t.queue i j a u) ∙ g))
        where
          never : (j : ℕ) (x : Needed) → None ≡ Some x → ⊥
          never j x e = absurd cc
      by (Some y) u more e =
          let w = go (walk_of y) t in
          let none = then-first w (stage walk_of n (i + 1)) e in
          let is = then-is w (stage walk_of n (i + 1)) none in
          let k = stage walk_of n (i + 1) w.tally in
          let g = on (go-grows (walk_of y) t) (stage-grows n (i + 1) w.tally) in
          subst (λ (v : Went). HasEach (suc n) i v.tally) (sym is)
          (each-more n i k.tally y (ap (λ q. slice_get q i) (sym g.whole) ∙ get-more t.queue g.more i y u)
          (has-all-later (walk_of y) w.tally.queue k.tally.queue (stage-grows n (i + 1) w.tally) (go-has (walk_of y) t none)) (more w.tally (ap (λ (v : Went). v.stop) (sym is) ∙ e)))

  pub staged-has : (first : List Event) → (staged_from walk_of first).stop ≡ None
      → HasAll (staged_from walk_of first).tally.queue first × ((i : ℕ) (x : Needed) → i < enough walk_of → slice_get (staged_from walk_of first).tally.queue i ≡ Some x → HasAll (staged_from walk_of first).tally.queue (walk_of x))
  unfolding staged_from
  staged-has first e =
      let w = go first empty in
      let none = then-first w (stage walk_of (enough walk_of) 0) e in
      let is = then-is w (stage walk_of (enough walk_of) 0) none in
      let k = stage walk_of (enough walk_of) 0 w.tally in
      let h = stage-has (enough walk_of) 0 w.tally (ap (λ (v : Went). v.stop) (sym is) ∙ e) in
      subst (λ (v : Went). HasAll v.tally.queue first × ((i : ℕ) (x : Needed) → i < enough walk_of → slice_get v.tally.queue i ≡ Some x → HasAll v.tally.queue (walk_of x))) (sym is)
      (has-all-later first w.tally.queue k.tally.queue (stage-grows (enough walk_of) 0 w.tally) (go-has first empty none), (λ i x a g. h i x (omega arith) (let z = a in omega (arith, z)) g))
