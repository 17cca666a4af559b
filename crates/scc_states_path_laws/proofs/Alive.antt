-- Paths without a wait through the live part are among its paths; where it has no wait, they are all.
use Rattle.std.proofs.Common.{◌≡◌, ◌⊎◌, inl, inr, ℕ, suc, Bool, true, false, ◌||◌, Option, Some, None, refl, sym, subst}
use Rattle.scc_base.specs.declared.refusal.Place.{Place}
use Rattle.scc_core_spec.specs.Term.{Term}
use Rattle.scc_core_spec.specs.Code.{Code, Count, End, Put, Aim, If, Block, Loop, Exit, Wait}
use Rattle.scc_core_spec.specs.Static.{Cells, goes}
use Rattle.scc_core_spec.specs.Live.{Alive, alive, live, then_alive, by_test, looped, shut}
use Rattle.scc_core_spec.specs.Segments.{opens}
use Rattle.scc_core_spec.specs.Flow.{Idle, idle, then_idle}
use Rattle.scc_states_path_laws.proofs.Codes.{idle-append, or_parts, or_left, or_right, opens-append}

pub or_true : (a b : Bool) → (a || b) ≡ true → (a ≡ true) ⊎ (b ≡ true)
or_true true b h = inl refl
or_true false b h = inr h

pub then_ends : (e : Bool) (f : ℕ → Bool) (y : Idle) → (then_idle e f y).ends ≡ true → (e ≡ true) × (y.ends ≡ true)
then_ends true f y h = (refl, h)
then_ends false f y h = absurd cc

pub then_leaves : (e : Bool) (f : ℕ → Bool) (y : Idle) (j : ℕ) → (then_idle e f y).leaves j ≡ true → (f j ≡ true) ⊎ ((e ≡ true) × (y.leaves j ≡ true))
then_leaves true f y j h = by (or_true (f j) (y.leaves j) h)
  where
    by : (f j ≡ true) ⊎ (y.leaves j ≡ true) → (f j ≡ true) ⊎ ((true ≡ true) × (y.leaves j ≡ true))
    by (inl a) = inl a
    by (inr b) = inr (refl, b)
then_leaves false f y j h = inl h

pub ends_then : (e : Bool) (f : ℕ → Bool) (y : Idle) → e ≡ true → y.ends ≡ true → (then_idle e f y).ends ≡ true
ends_then true f y h i = i
ends_then false f y h i = absurd cc

pub leaves_first : (e : Bool) (f : ℕ → Bool) (y : Idle) (j : ℕ) → f j ≡ true → (then_idle e f y).leaves j ≡ true
leaves_first true f y j h = or_left (f j) (y.leaves j) h
leaves_first false f y j h = h

pub leaves_then : (e : Bool) (f : ℕ → Bool) (y : Idle) (j : ℕ) → e ≡ true → y.leaves j ≡ true → (then_idle e f y).leaves j ≡ true
leaves_then true f y j h i = or_right (f j) (y.leaves j) i
leaves_then false f y j h i = absurd cc

-- a path without a wait is one of all
pub record Among (x : Alive) : Type 0 where
  pub ends : (idle x.code).ends ≡ true → x.ends ≡ true
  pub leaves : (j : ℕ) → (idle x.code).leaves j ≡ true → x.leaves j ≡ true

-- and each path has no wait
pub record All (x : Alive) : Type 0 where
  pub ends : x.ends ≡ true → (idle x.code).ends ≡ true
  pub leaves : (j : ℕ) → x.leaves j ≡ true → (idle x.code).leaves j ≡ true

among_then : (e : Bool) (x y : Alive) → x.ends ≡ e → Among x → Among y → Among (then_alive e x y)
among_then true x y is ax ay = record {
  ends = λ h. ay.ends (then_ends (idle x.code).ends (idle x.code).leaves (idle y.code) (subst (λ z. z.ends ≡ true) (idle-append x.code y.code) h)).1;
  leaves = λ j h. by j (then_leaves (idle x.code).ends (idle x.code).leaves (idle y.code) j (subst (λ z. z.leaves j ≡ true) (idle-append x.code y.code) h));
}
  where
    by : (j : ℕ) → ((idle x.code).leaves j ≡ true) ⊎ (((idle x.code).ends ≡ true) × ((idle y.code).leaves j ≡ true)) → (x.leaves j || y.leaves j) ≡ true
    by j (inl a) = or_left (x.leaves j) (y.leaves j) (ax.leaves j a)
    by j (inr b) = or_right (x.leaves j) (y.leaves j) (ay.leaves j b.1)
among_then false x y is ax ay = ax

pub among_if : (g : Option Bool) (p : Place) (t : Term) (x y : Alive) → Among x → Among y → Among (by_test g p t x y)
among_if (Some true) p t x y ax ay = ax
among_if (Some false) p t x y ax ay = ay
among_if None p t x y ax ay = record {
  ends = λ h. ends_by (or_true (idle x.code).ends (idle y.code).ends (then_ends ((idle x.code).ends || (idle y.code).ends) (λ n. (idle x.code).leaves n || (idle y.code).leaves n) (idle End) h).0);
  leaves = λ j h. leaves_by j (then_leaves ((idle x.code).ends || (idle y.code).ends) (λ n. (idle x.code).leaves n || (idle y.code).leaves n) (idle End) j h);
}
  where
    ends_by : ((idle x.code).ends ≡ true) ⊎ ((idle y.code).ends ≡ true) → (x.ends || y.ends) ≡ true
    ends_by (inl a) = or_left x.ends y.ends (ax.ends a)
    ends_by (inr b) = or_right x.ends y.ends (ay.ends b)

    either_leaves : (j : ℕ) → ((idle x.code).leaves j ≡ true) ⊎ ((idle y.code).leaves j ≡ true) → (x.leaves j || y.leaves j) ≡ true
    either_leaves j (inl a) = or_left (x.leaves j) (y.leaves j) (ax.leaves j a)
    either_leaves j (inr b) = or_right (x.leaves j) (y.leaves j) (ay.leaves j b)

    leaves_by : (j : ℕ) → (((idle x.code).leaves j || (idle y.code).leaves j) ≡ true) ⊎ ((((idle x.code).ends || (idle y.code).ends) ≡ true) × (false ≡ true)) → (x.leaves j || y.leaves j) ≡ true
    leaves_by j (inl a) = either_leaves j (or_true ((idle x.code).leaves j) ((idle y.code).leaves j) a)
    leaves_by j (inr b) = absurd cc

pub among_shut : (p : Place) (x : Alive) → Among x → Among (shut p x)
among_shut p x ax = record {
  ends = λ h. ends_by (or_true (idle x.code).ends ((idle x.code).leaves 0) (then_ends ((idle x.code).ends || (idle x.code).leaves 0) (λ n. (idle x.code).leaves (suc n)) (idle End) h).0);
  leaves = λ j h. leaves_by j (then_leaves ((idle x.code).ends || (idle x.code).leaves 0) (λ n. (idle x.code).leaves (suc n)) (idle End) j h);
}
  where
    ends_by : ((idle x.code).ends ≡ true) ⊎ ((idle x.code).leaves 0 ≡ true) → (x.ends || x.leaves 0) ≡ true
    ends_by (inl a) = or_left x.ends (x.leaves 0) (ax.ends a)
    ends_by (inr b) = or_right x.ends (x.leaves 0) (ax.leaves 0 b)

    leaves_by : (j : ℕ) → ((idle x.code).leaves (suc j) ≡ true) ⊎ ((((idle x.code).ends || (idle x.code).leaves 0) ≡ true) × (false ≡ true)) → x.leaves (suc j) ≡ true
    leaves_by j (inl a) = ax.leaves (suc j) a
    leaves_by j (inr b) = absurd cc

pub among_loop : (e : Bool) (p : Place) (n : Option Count) (x : Alive) → Among x → Among (looped e p n x)
among_loop true p n x ax = record { ends = λ h. absurd cc; leaves = ax.leaves }
among_loop false p n x ax = ax

pub among : (cs : Cells) (c : Code) → Among (alive cs c)
among cs End = record { ends = λ h. refl; leaves = λ j h. h }
among cs (Put p l k e r) = let a = among cs r in record { ends = a.ends; leaves = a.leaves }
among cs (Aim p to t r) = let a = among cs r in record { ends = a.ends; leaves = a.leaves }
among cs (If p t a b r) =
    among_then (by_test (goes cs t) p t (alive cs a) (alive cs b)).ends (by_test (goes cs t) p t (alive cs a) (alive cs b)) (alive cs r) refl
    (among_if (goes cs t) p t (alive cs a) (alive cs b) (among cs a) (among cs b)) (among cs r)
among cs (Block p b r) = among_then (shut p (alive cs b)).ends (shut p (alive cs b)) (alive cs r) refl (among_shut p (alive cs b) (among cs b)) (among cs r)
among cs (Loop p n b r) = among_loop (alive cs b).ends p n (alive cs b) (among cs b)
among cs (Exit p n r) = record { ends = λ h. absurd cc; leaves = λ j h. h }
among cs (Wait p l n r) = record { ends = λ h. absurd cc; leaves = λ j h. absurd cc }

all_then : (e : Bool) (x y : Alive) (d : ℕ) → x.ends ≡ e → opens d (then_alive e x y).code ≡ false → (opens d x.code ≡ false → All x) → (opens d y.code ≡ false → All y) → All (then_alive e x y)
all_then true x y d is o gx gy =
    let parts = opens-append x.code y.code d o in
    let ax = gx parts.0 in
    let ay = gy parts.1 in
    let back = sym (idle-append x.code y.code) in
    record {
      ends = λ h. subst (λ z. z.ends ≡ true) back (ends_then (idle x.code).ends (idle x.code).leaves (idle y.code) (ax.ends is) (ay.ends h));
      leaves = λ j h. subst (λ z. z.leaves j ≡ true) back (by j ax ay (or_true (x.leaves j) (y.leaves j) h));
    }
  where
    by : (j : ℕ) → All x → All y → (x.leaves j ≡ true) ⊎ (y.leaves j ≡ true) → (then_idle (idle x.code).ends (idle x.code).leaves (idle y.code)).leaves j ≡ true
    by j ax ay (inl a) = leaves_first (idle x.code).ends (idle x.code).leaves (idle y.code) j (ax.leaves j a)
    by j ax ay (inr b) = leaves_then (idle x.code).ends (idle x.code).leaves (idle y.code) j (ax.ends is) (ay.leaves j b)
all_then false x y d is o gx gy = gx o

all_if : (g : Option Bool) (p : Place) (t : Term) (x y : Alive) (d : ℕ) → opens d (by_test g p t x y).code ≡ false → (opens d x.code ≡ false → All x) → (opens d y.code ≡ false → All y) → All (by_test g p t x y)
all_if (Some true) p t x y d o gx gy = gx o
all_if (Some false) p t x y d o gx gy = gy o
all_if None p t x y d o gx gy =
    let ox = or_parts (opens d x.code) (opens d y.code || false) o in
    let oy = or_parts (opens d y.code) false ox.1 in
    let ax = gx ox.0 in
    let ay = gy oy.0 in
    record {
      ends = λ h. ends_then ((idle x.code).ends || (idle y.code).ends) (λ n. (idle x.code).leaves n || (idle y.code).leaves n) (idle End) (ends_by ax ay (or_true x.ends y.ends h)) refl;
      leaves = λ j h. leaves_first ((idle x.code).ends || (idle y.code).ends) (λ n. (idle x.code).leaves n || (idle y.code).leaves n) (idle End) j (leaves_by j ax ay (or_true (x.leaves j) (y.leaves j) h));
    }
  where
    ends_by : All x → All y → (x.ends ≡ true) ⊎ (y.ends ≡ true) → ((idle x.code).ends || (idle y.code).ends) ≡ true
    ends_by ax ay (inl a) = or_left (idle x.code).ends (idle y.code).ends (ax.ends a)
    ends_by ax ay (inr b) = or_right (idle x.code).ends (idle y.code).ends (ay.ends b)

    leaves_by : (j : ℕ) → All x → All y → (x.leaves j ≡ true) ⊎ (y.leaves j ≡ true) → ((idle x.code).leaves j || (idle y.code).leaves j) ≡ true
    leaves_by j ax ay (inl a) = or_left ((idle x.code).leaves j) ((idle y.code).leaves j) (ax.leaves j a)
    leaves_by j ax ay (inr b) = or_right ((idle x.code).leaves j) ((idle y.code).leaves j) (ay.leaves j b)

all_shut : (p : Place) (x : Alive) (d : ℕ) → opens d (shut p x).code ≡ false → (opens (suc d) x.code ≡ false → All x) → All (shut p x)
all_shut p x d o gx =
    let ax = gx (or_parts (opens (suc d) x.code) false o).0 in
    record {
      ends = λ h. ends_then ((idle x.code).ends || (idle x.code).leaves 0) (λ n. (idle x.code).leaves (suc n)) (idle End) (ends_by ax (or_true x.ends (x.leaves 0) h)) refl;
      leaves = λ j h. leaves_first ((idle x.code).ends || (idle x.code).leaves 0) (λ n. (idle x.code).leaves (suc n)) (idle End) j (ax.leaves (suc j) h);
    }
  where
    ends_by : All x → (x.ends ≡ true) ⊎ (x.leaves 0 ≡ true) → ((idle x.code).ends || (idle x.code).leaves 0) ≡ true
    ends_by ax (inl a) = or_left (idle x.code).ends ((idle x.code).leaves 0) (ax.ends a)
    ends_by ax (inr b) = or_right (idle x.code).ends ((idle x.code).leaves 0) (ax.leaves 0 b)

all_loop : (e : Bool) (p : Place) (n : Option Count) (x : Alive) (d : ℕ) → opens d (looped e p n x).code ≡ false → (opens d x.code ≡ false → All x) → All (looped e p n x)
all_loop true p n x d o gx = let ax = gx (or_parts (opens d x.code) false o).0 in record { ends = λ h. absurd cc; leaves = ax.leaves }
all_loop false p n x d o gx = gx o

pub all : (cs : Cells) (c : Code) (d : ℕ) → opens d (live cs c) ≡ false → All (alive cs c)
all cs End d o = record { ends = λ h. refl; leaves = λ j h. h }
all cs (Put p l k e r) d o = let a = all cs r d o in record { ends = a.ends; leaves = a.leaves }
all cs (Aim p to t r) d o = let a = all cs r d o in record { ends = a.ends; leaves = a.leaves }
all cs (If p t a b r) d o =
    all_then (by_test (goes cs t) p t (alive cs a) (alive cs b)).ends (by_test (goes cs t) p t (alive cs a) (alive cs b)) (alive cs r) d refl o
    (λ q. all_if (goes cs t) p t (alive cs a) (alive cs b) d q (all cs a d) (all cs b d)) (all cs r d)
all cs (Block p b r) d o = all_then (shut p (alive cs b)).ends (shut p (alive cs b)) (alive cs r) d refl o (λ q. all_shut p (alive cs b) d q (all cs b (suc d))) (all cs r d)
all cs (Loop p n b r) d o = all_loop (alive cs b).ends p n (alive cs b) d o (all cs b d)
all cs (Exit p n r) d o = record { ends = λ h. absurd cc; leaves = λ j h. h }
all cs (Wait p l n r) d o = absurd cc

-- a loop of the live part holds a wait, where none may come round without one
pub loop_waits : (cs : Cells) (b : Code) (d : ℕ) → (alive cs b).ends ≡ true → (idle (live cs b)).ends ≡ false → opens d (live cs b) ≡ false → ⊥
loop_waits cs b d e i o = let h = (all cs b d o).ends e in absurd cc
