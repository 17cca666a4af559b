-- A chain of calls leads to a function that is reached.
use Rattle.std.proofs.Common.{◌≡◌, ℕ, Bool, true, false, nat_eq, List, [], ◌∷◌, ◌++◌, Option, Some, None, option_map, option_and_then, unwrap_or, slice_get, if◌then◌else◌, refl, sym, ap, ◌∙◌, arith}
use Rattle.std.specs.Prelude.{◌||◌}
use Rattle.std.specs.List.{list_all}
use Rattle.scc_elab_spec.specs.Program.{Code, End, Declare, Assign, Point, Write, Call, If, Loop, Block, Exit, Return, Wait, Make, Bind, Process, Sensitive, Quiet, Reset, Plain}
use Rattle.scc_elab_spec.specs.Numbering.{callee, function_at}
use Rattle.scc_inline_orderly_laws.specs.Reached.{callees, among, callees_at, is_closed}
use Rattle.scc_inline_orderly_laws.proofs.Bools.{and-first, and-second, eq-is}

some-is : {x y : ℕ} → Some x ≡ Some y → x ≡ y
some-is e = cc

self : (n : ℕ) → nat_eq n n ≡ true
self n = grind arith

pub in-front : (n : ℕ) (xs ys : List ℕ) → among n xs ≡ true → among n (xs ++ ys) ≡ true
in-front n [] ys e = cc
in-front n (x ∷ xs) ys e = by (nat_eq n x) e (in-front n xs ys)
  where
    by : (b : Bool) → (b || among n xs) ≡ true → (among n xs ≡ true → among n (xs ++ ys) ≡ true) → (b || among n (xs ++ ys)) ≡ true
    by true e ih = refl
    by false e ih = ih e

pub behind : (n : ℕ) (xs ys : List ℕ) → among n ys ≡ true → among n (xs ++ ys) ≡ true
behind n [] ys e = e
behind n (x ∷ xs) ys e = by (nat_eq n x) (behind n xs ys e)
  where
    by : (b : Bool) → among n (xs ++ ys) ≡ true → (b || among n (xs ++ ys)) ≡ true
    by true e = refl
    by false e = e

-- the function of a call is among those that are called
called : (n f : ℕ) (c : Code) → callee c n ≡ Some f → among f (callees c) ≡ true
called n f End e = cc
called n f (Declare o m r) e = called n f r e
called n f (Assign o x k v r) e = called n f r e
called n f (Point o x t r) e = called n f r e
called n f (Write o x v r) e = called n f r e
called n f (Call o m g x args r) e = by (nat_eq m n) e (called n f r)
  where
    by : (b : Bool) → (if b then Some g else callee r n) ≡ Some f → (callee r n ≡ Some f → among f (callees r) ≡ true) → (nat_eq f g || among f (callees r)) ≡ true
    by true e ih = ap (λ b. b || among f (callees r)) (ap (λ h. nat_eq f h) (some-is e) ∙ self f)
    by false e ih = either (nat_eq f g) (ih e)
      where
        either : (b : Bool) → among f (callees r) ≡ true → (b || among f (callees r)) ≡ true
        either true e = refl
        either false e = e
called n f (If o t a b r) e = by (callee a n) refl (callee b n) refl (called n f a) (called n f b) (called n f r)
  where
    first : (g : ℕ) → callee a n ≡ Some g → callee (If o t a b r) n ≡ Some g
    first g u = rw u refl

    second : (g : ℕ) → callee a n ≡ None → callee b n ≡ Some g → callee (If o t a b r) n ≡ Some g
    second g u v = rw u (rw v refl)

    third : callee a n ≡ None → callee b n ≡ None → callee (If o t a b r) n ≡ callee r n
    third u v = rw u (rw v refl)

    by : (x : Option ℕ) → callee a n ≡ x → (y : Option ℕ) → callee b n ≡ y → (callee a n ≡ Some f → among f (callees a) ≡ true) → (callee b n ≡ Some f → among f (callees b) ≡ true) → (callee r n ≡ Some f → among f (callees r) ≡ true)
        → among f (callees a ++ (callees b ++ callees r)) ≡ true
    by (Some g) u y v ia ib ir = in-front f (callees a) (callees b ++ callees r) (ia (u ∙ (sym (first g u) ∙ e)))
    by None u (Some g) v ia ib ir = behind f (callees a) (callees b ++ callees r) (in-front f (callees b) (callees r) (ib (v ∙ (sym (second g u v) ∙ e))))
    by None u None v ia ib ir = behind f (callees a) (callees b ++ callees r) (behind f (callees b) (callees r) (ir (sym (third u v) ∙ e)))
called n f (Loop o c b r) e = by (callee b n) refl (called n f b) (called n f r)
  where
    first : (g : ℕ) → callee b n ≡ Some g → callee (Loop o c b r) n ≡ Some g
    first g u = rw u refl

    second : callee b n ≡ None → callee (Loop o c b r) n ≡ callee r n
    second u = rw u refl

    by : (x : Option ℕ) → callee b n ≡ x → (callee b n ≡ Some f → among f (callees b) ≡ true) → (callee r n ≡ Some f → among f (callees r) ≡ true) → among f (callees b ++ callees r) ≡ true
    by (Some g) u ib ir = in-front f (callees b) (callees r) (ib (u ∙ (sym (first g u) ∙ e)))
    by None u ib ir = behind f (callees b) (callees r) (ir (sym (second u) ∙ e))
called n f (Block o b r) e = by (callee b n) refl (called n f b) (called n f r)
  where
    first : (g : ℕ) → callee b n ≡ Some g → callee (Block o b r) n ≡ Some g
    first g u = rw u refl

    second : callee b n ≡ None → callee (Block o b r) n ≡ callee r n
    second u = rw u refl

    by : (x : Option ℕ) → callee b n ≡ x → (callee b n ≡ Some f → among f (callees b) ≡ true) → (callee r n ≡ Some f → among f (callees r) ≡ true) → among f (callees b ++ callees r) ≡ true
    by (Some g) u ib ir = in-front f (callees b) (callees r) (ib (u ∙ (sym (first g u) ∙ e)))
    by None u ib ir = behind f (callees b) (callees r) (ir (sym (second u) ∙ e))
called n f (Exit o m r) e = called n f r e
called n f (Return o v r) e = called n f r e
called n f (Wait o m r) e = called n f r e
called n f (Make o x b args r) e = called n f r e
called n f (Bind o x t r) e = called n f r e
called n f (Process o t g v r) e = called n f r e
called n f (Sensitive o is r) e = called n f r e
called n f (Quiet o r) e = called n f r e
called n f (Reset o s v a r) e = called n f r e

then-is : {A B : Type 0} (o : Option A) (k : A → Option B) (y : B) → option_and_then k o ≡ Some y → (x : A) × (o ≡ Some x) × (k x ≡ Some y)
then-is None k y e = absurd cc
then-is (Some x) k y e = (x, refl, e)

-- what passes all passes each of them
pub all-among : (test : ℕ → Bool) (fs : List ℕ) (f : ℕ) → list_all test fs ≡ true → among f fs ≡ true → test f ≡ true
all-among test [] f a e = cc
all-among test (g ∷ fs) f a e = by (nat_eq f g) refl e (all-among test fs f (and-second (test g) (list_all test fs) a))
  where
    by : (b : Bool) → nat_eq f g ≡ b → (b || among f fs) ≡ true → (among f fs ≡ true → test f ≡ true) → test f ≡ true
    by true u e ih = ap test (eq-is f g u) ∙ and-first (test g) (list_all test fs) a
    by false u e ih = ih e

module _ (p : Plain) (fs : List ℕ) (closed : is_closed p fs ≡ true) (f : ℕ) (start : among f fs ≡ true) where
  pub leads-inside : (cs : List ℕ) (g : ℕ) → function_at p f cs ≡ Some g → among g fs ≡ true
  leads-inside [] g e = ap (λ x. among x fs) (sym (some-is e)) ∙ start
  leads-inside (n ∷ cs) g e =
      let x = then-is (function_at p f cs) (λ g. option_and_then (λ h. callee h.body n) (slice_get p.functions g)) g e in
      let y = then-is (slice_get p.functions x.0) (λ h. callee h.body n) g x.2 in
      let at = leads-inside cs x.0 x.1 in
      let calls : among g (callees_at p x.0) ≡ true = ap (λ o. among g (unwrap_or (option_map (λ g. callees g.body) o) [])) y.1 ∙ called n g y.0.body y.2 in
      all-among (λ g. among g fs) (callees_at p x.0) g (all-among (λ f. list_all (λ g. among g fs) (callees_at p f)) fs x.0 closed at) calls
