-- Where exits leave blocks that stand around, and no path comes to the end, a thread never ends.
use Rattle.std.proofs.Common.{◌≡◌, ◌⊎◌, inl, inr, ℕ, suc, ◌<◌, Bool, true, false, Option, Some, None, refl, arith}
use Rattle.std.specs.Prelude.{◌&&◌, nat_lt, nat_eq}
use Rattle.std.proofs.lemmas.Bool.{ltb-true}
use Rattle.std.proofs.lemmas.Bool.Decides.{eqb_tells}
use Rattle.scc_base.specs.declared.refusal.Place.{Place}
use Rattle.scc_core_spec.specs.Term.{Term}
use Rattle.scc_core_spec.specs.Code.{Code, Count, End, Put, Aim, If, Block, Loop, Exit, Wait}
use Rattle.scc_core_spec.specs.Static.{Cells, goes}
use Rattle.scc_core_spec.specs.Live.{Alive, alive, then_alive, by_test, looped, shut}
use Rattle.scc_core_spec.specs.Exits.{exits_within}
use Rattle.scc_states_path_laws.specs.Tracks.{MayEnd}
use Rattle.scc_states_path_laws.proofs.Alive.{or_true}

pub and_both : (a b : Bool) → (a && b) ≡ true → (a ≡ true) × (b ≡ true)
and_both true b h = (refl, h)
and_both false b h = absurd cc

abbrev Below : ℕ → Alive → Type 0
Below d x = (j : ℕ) → x.leaves j ≡ true → j < d

below_then : (e : Bool) (x y : Alive) (d : ℕ) → Below d x → Below d y → Below d (then_alive e x y)
below_then true x y d f g j h = by (or_true (x.leaves j) (y.leaves j) h)
  where
    by : (x.leaves j ≡ true) ⊎ (y.leaves j ≡ true) → j < d
    by (inl a) = f j a
    by (inr b) = g j b
below_then false x y d f g j h = f j h

below_if : (g : Option Bool) (p : Place) (t : Term) (x y : Alive) (d : ℕ) → Below d x → Below d y → Below d (by_test g p t x y)
below_if (Some true) p t x y d f g j h = f j h
below_if (Some false) p t x y d f g j h = g j h
below_if None p t x y d f g j h = by (or_true (x.leaves j) (y.leaves j) h)
  where
    by : (x.leaves j ≡ true) ⊎ (y.leaves j ≡ true) → j < d
    by (inl a) = f j a
    by (inr b) = g j b

below_loop : (e : Bool) (p : Place) (n : Option Count) (x : Alive) (d : ℕ) → Below d x → Below d (looped e p n x)
below_loop true p n x d f = f
below_loop false p n x d f = f

below_shut : (p : Place) (x : Alive) (d : ℕ) → Below (suc d) x → Below d (shut p x)
below_shut p x d f j h = omega (arith, f (suc j) h)

pub same_below : (j n d : ℕ) → nat_eq j n ≡ true → nat_lt n d ≡ true → j < d
same_below j n d h i = let lt = ltb-true n d i in by (eqb_tells j n)
  where
    by : ((nat_eq j n ≡ true) × (j ≡ n)) ⊎ ((nat_eq j n ≡ false) × (j ≡ n → ⊥)) → j < d
    by (inl a) = let e = a.1 in let lt = ltb-true n d i in omega arith
    by (inr b) = absurd cc

pub leaves_within : (cs : Cells) (c : Code) (d : ℕ) → exits_within d c ≡ true → Below d (alive cs c)
leaves_within cs End d e j h = absurd cc
leaves_within cs (Put p l k v r) d e j h = leaves_within cs r d e j h
leaves_within cs (Aim p to t r) d e j h = leaves_within cs r d e j h
leaves_within cs (If p t a b r) d e j h =
    let x = and_both (exits_within d a) (exits_within d b && exits_within d r) e in
    let y = and_both (exits_within d b) (exits_within d r) x.1 in
    let u = by_test (goes cs t) p t (alive cs a) (alive cs b) in
    below_then u.ends u (alive cs r) d (below_if (goes cs t) p t (alive cs a) (alive cs b) d (leaves_within cs a d x.0) (leaves_within cs b d y.0)) (leaves_within cs r d y.1) j h
leaves_within cs (Block p b r) d e j h =
    let x = and_both (exits_within (suc d) b) (exits_within d r) e in
    below_then (shut p (alive cs b)).ends (shut p (alive cs b)) (alive cs r) d (below_shut p (alive cs b) d (leaves_within cs b (suc d) x.0)) (leaves_within cs r d x.1) j h
leaves_within cs (Loop p n b r) d e j h = below_loop (alive cs b).ends p n (alive cs b) d (leaves_within cs b d (and_both (exits_within d b) (exits_within d r) e).0) j h
leaves_within cs (Exit p n r) d e j h = same_below j n d h (and_both (nat_lt n d) (exits_within d r) e).0
leaves_within cs (Wait p l n r) d e j h = leaves_within cs r d e j h

pub never_ends : (cs : Cells) (c : Code) → exits_within 0 c ≡ true → (alive cs c).ends ≡ false → MayEnd cs c → ⊥
never_ends cs c e f (inl a) = cc
never_ends cs c e f (inr b) = let lt = leaves_within cs c 0 e b.0 b.1 in omega arith
