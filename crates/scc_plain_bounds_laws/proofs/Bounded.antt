-- Statements that are bounded before statements that are: their calls have numbers from one on up to another, and their exits stay inside blocks.
use Rattle.std.proofs.Common.{◌≡◌, ℕ, suc, ◌+◌, ◌<◌, ◌≤◌, Bool, true, false, ◌&&◌, nat_eq, List, [], ◌∷◌, ◌++◌, Option, refl, sym, subst, arith}
use Rattle.std.specs.Prelude.{nat_lt}
use Rattle.scc_base.specs.declared.refusal.Place.{Place}
use Rattle.scc_templates_spec.specs.Walk.{Callee}
use Rattle.scc_elab_spec.specs.Term.{Term, Left, Argument}
use Rattle.scc_elab_spec.specs.Program.{Reach, Code, End, Call, If, Loop, Block, Exit, Count}
use Rattle.scc_plain_spec.specs.Room.{Numbering, Writes, nothing, then_write}
use Rattle.scc_plain_bounds_laws.specs.Bounds.{leaves, one, times}
use Rattle.scc_plain_bounds_laws.proofs.Before.{Before, lt-true, lt-is, same, on, next}
use Rattle.scc_plain_bounds_laws.specs.Within.{within_arguments, within_code, within_object, within_term}

pub both : (a b : Bool) → a ≡ true → b ≡ true → (a && b) ≡ true
both a b e f = λ z. e z && f z

-- calls so far, and what the locals so far hold
pub record Mark : Type 0 where
  pub calls : ℕ
  pub locals : List Reach

-- from one mark to another, at depths of which D holds
pub record Bounded (v : Bool) (D : ℕ → Type 0) (lo hi : Mark) (x : Writes) : Type 0 where
  pub calls : (n : Numbering) (c : Code) (k : ℕ) → times k (x n c) + one (nat_lt k lo.calls) ≤ times k c + one (nat_lt k hi.calls)
  pub stays : (n : Numbering) (c : Code) (d : ℕ) → D d → leaves v d c ≡ true → leaves v d (x n c) ≡ true
  pub grows : Before lo.locals hi.locals
  pub within : (n : Numbering) (c : Code) (b : List Reach) → Before hi.locals b → within_code b c ≡ true → within_code b (x n c) ≡ true

abbrev pub Anywhere : ℕ → Type 0
Anywhere d = Unit {0}

module _ (v : Bool) (D : ℕ → Type 0) where
  -- what has no call and no exit of its own
  pub plain : (lo : Mark) {x : Writes} → ((n : Numbering) (c : Code) (k : ℕ) → times k (x n c) ≡ times k c) → ((n : Numbering) (c : Code) (d : ℕ) → D d → leaves v d c ≡ true → leaves v d (x n c) ≡ true)
      → ((n : Numbering) (c : Code) (b : List Reach) → Before lo.locals b → within_code b c ≡ true → within_code b (x n c) ≡ true) → Bounded v D lo lo x
  plain lo e f g = record { calls = λ n c k. let z = e n c k in omega (arith, z); stays = f; grows = same lo.locals; within = g }

  pub none : (lo : Mark) → Bounded v D lo lo nothing
  none lo = plain lo (λ n c k. refl) (λ n c d w h. h) (λ n c b w h. h)

  pub in-turn : {lo mid hi : Mark} {x y : Writes} → Bounded v D lo mid x → Bounded v D mid hi y → Bounded v D lo hi (then_write x y)
  in-turn {lo} {mid} {hi} {x} {y} a b = record {
    calls = λ n c k. let g = a.calls n (y n c) k in let h = b.calls n c k in omega (arith, g, h);
    stays = λ n c d w h. a.stays n (y n c) d w (b.stays n c d w h);
    grows = on a.grows b.grows;
    within = λ n c k w h. a.within n (y n c) k (on b.grows w) (b.within n c k w h);
  }

  pub branch : {lo mid hi : Mark} (p : Place) (t : Term) (y z : Writes) → ((b : List Reach) → Before lo.locals b → within_term b t ≡ true) → Bounded v D lo mid y → Bounded v D mid hi z → Bounded v D lo hi (λ n c. If p t (y n End) (z n End) c)
  branch p t y z f a b = record {
    calls = λ n c k. let g = a.calls n End k in let h = b.calls n End k in omega (arith, g, h);
    stays = λ n c d w h. both (leaves v d (y n End)) (leaves v d (z n End) && leaves v d c) (a.stays n End d w refl) (both (leaves v d (z n End)) (leaves v d c) (b.stays n End d w refl) h);
    grows = on a.grows b.grows;
    within = λ n c k w h.
        both (within_term k t) (within_code k (y n End) && (within_code k (z n End) && within_code k c)) (f k (on a.grows (on b.grows w)))
        (both (within_code k (y n End)) (within_code k (z n End) && within_code k c) (a.within n End k (on b.grows w) refl) (both (within_code k (z n End)) (within_code k c) (b.within n End k w refl) h));
  }

  pub exit : (lo : Mark) (p : Place) (n : ℕ) → ((d : ℕ) → D d → n < d) → Bounded v D lo lo (λ m c. Exit p n c)
  exit lo p n f = plain lo (λ m c k. refl) (λ m c d w h. both (nat_lt n d) (leaves v d c) (lt-true n d (f d w)) h) (λ m c b w h. h)

  module _ (E : ℕ → Type 0) (inner : (d : ℕ) → D d → E (suc d)) where
    pub block : {lo hi : Mark} (p : Place) (x : Writes) → Bounded v E lo hi x → Bounded v D lo hi (λ n c. Block p (x n End) c)
    block p x a = record {
      calls = λ n c k. let g = a.calls n End k in omega (arith, g);
      stays = λ n c d w h. both (leaves v (suc d) (x n End)) (leaves v d c) (a.stays n End (suc d) (inner d w) refl) h;
      grows = a.grows;
      within = λ n c k w h. both (within_code k (x n End)) (within_code k c) (a.within n End k w refl) h;
    }

    pub loop : {lo hi : Mark} (p : Place) (count : Numbering → Option Count) (x : Writes) → Bounded v E lo hi x → Bounded v D lo hi (λ n c. Block p (Loop p (count n) (x n End) End) c)
    loop p count x a = record {
      calls = λ n c k. let g = a.calls n End k in omega (arith, g);
      stays = λ n c d w h. both (leaves v (suc d) (x n End) && true) (leaves v d c) (both (leaves v (suc d) (x n End)) true (a.stays n End (suc d) (inner d w) refl) refl) h;
      grows = a.grows;
      within = λ n c k w h. both (within_code k (x n End) && true) (within_code k c) (both (within_code k (x n End)) true (a.within n End k w refl) refl) h;
    }

  pub weaker : {E : ℕ → Type 0} {lo hi : Mark} {x : Writes} → ((d : ℕ) → D d → E d) → Bounded v E lo hi x → Bounded v D lo hi x
  weaker {E} {lo} {hi} {x} f a = record { calls = a.calls; stays = λ n c d w h. a.stays n c d (f d w) h; grows = a.grows; within = a.within }

  -- with a further local
  pub further : {lo : Mark} {k : ℕ} {m : List Reach} (r : Reach) {x : Writes} → Bounded v D lo (record { calls = k; locals = m }) x → Bounded v D lo (record { calls = k; locals = m ++ r ∷ [] }) x
  further {lo} {k} {m} r {x} a = record { calls = a.calls; stays = a.stays; grows = on a.grows (next m r); within = λ n c b w h. a.within n c b (on (next m r) w) h }

eq-is : (m n : ℕ) → nat_eq m n ≡ true → m ≡ n
eq-is m n e = grind arith

-- a number, and those below it, are those below the next one
one-more : (k m : ℕ) → one (nat_eq k m) + one (nat_lt k m) ≤ one (nat_lt k (m + 1))
one-more k m = by (nat_eq k m) (nat_lt k m) refl refl
  where
    by : (a b : Bool) → nat_eq k m ≡ a → nat_lt k m ≡ b → one a + one b ≤ one (nat_lt k (m + 1))
    by true true e f = let x = eq-is k m e in let y = lt-is k m f in omega (arith, x, y)
    by true false e f = let g : nat_lt k (m + 1) ≡ true = lt-true k (m + 1) (let x = eq-is k m e in omega (arith, x)) in subst (λ b. 1 + 0 ≤ one b) (sym g) (omega arith)
    by false true e f = let g : nat_lt k (m + 1) ≡ true = lt-true k (m + 1) (let x = lt-is k m f in omega (arith, x)) in subst (λ b. 0 + 1 ≤ one b) (sym g) (omega arith)
    by false false e f = omega arith

pub call : (v : Bool) (D : ℕ → Type 0) (p : Place) (m : ℕ) (l : List Reach) (f : Callee) (o : Option Left) (args : List Argument) → ((b : List Reach) → Before l b → within_object b o ≡ true) → ((b : List Reach) → Before l b → within_arguments b args ≡ true)
    → Bounded v D (record { calls = m; locals = l }) (record { calls = m + 1; locals = l }) (λ n c. Call p m (n.function f) o args c)
call v D p m l f o args g i = record {
  calls = λ n c k. let z = one-more k m in omega (arith, z);
  stays = λ n c d w h. h;
  grows = same l;
  within = λ n c b w h. both (within_object b o) (within_arguments b args && within_code b c) (g b w) (both (within_arguments b args) (within_code b c) (i b w) h);
}
