-- The live part of a method has no open statement.
use Rattle.std.proofs.Common.{◌≡◌, ℕ, suc, Bool, true, false, ◌||◌, List, [], ◌∷◌, ◌++◌, Option, Some, None, refl}
use Rattle.std.specs.Prelude.{◌&&◌, nat_lt, not, slice_get, if◌then◌else◌}
use Rattle.scc_base.specs.declared.refusal.Place.{Place}
use Rattle.scc_core_spec.specs.Term.{Term}
use Rattle.scc_core_spec.specs.Code.{Code, Count, End, Put, Aim, If, Block, Loop, Exit, Wait, append}
use Rattle.scc_core_spec.specs.Program.{Program, Process}
use Rattle.scc_core_spec.specs.Static.{Cells, goes}
use Rattle.scc_core_spec.specs.Live.{Alive, alive, live, then_alive, by_test, looped, shut}
use Rattle.scc_core_spec.specs.Segments.{opens}
use Rattle.scc_core_spec.specs.Rules.{waits, wait_in_method}
use Rattle.scc_core_spec.specs.Exits.{exits_within}
use Rattle.scc_states_path_laws.proofs.Codes.{or_parts}
use Rattle.scc_states_path_laws.proofs.Exits.{and_both}
use Rattle.scc_states_laws.proofs.Standing.{none_at, no_first}

no_front : {A : Type 0} (xs ys : List A) → xs ++ ys ≡ [] → (xs ≡ []) × (ys ≡ [])
no_front [] ys h = (refl, h)
no_front (x ∷ xs) ys h = absurd cc

two_false : (a b : Bool) → a ≡ false → b ≡ false → (a || b) ≡ false
two_false true b h i = h
two_false false b h i = i

opens_both : (x y : Code) (d : ℕ) → opens d x ≡ false → opens d y ≡ false → opens d (append x y) ≡ false
opens_both End y d f g = g
opens_both (Put p l k e r) y d f g = opens_both r y d f g
opens_both (Aim p to t r) y d f g = opens_both r y d f g
opens_both (If p t a b r) y d f g =
    let x = or_parts (opens d a) (opens d b || opens d r) f in
    let z = or_parts (opens d b) (opens d r) x.1 in
    two_false (opens d a) (opens d b || opens d (append r y)) x.0 (two_false (opens d b) (opens d (append r y)) z.0 (opens_both r y d z.1 g))
opens_both (Block p b r) y d f g = let x = or_parts (opens (suc d) b) (opens d r) f in two_false (opens (suc d) b) (opens d (append r y)) x.0 (opens_both r y d x.1 g)
opens_both (Loop p n b r) y d f g = let x = or_parts (opens d b) (opens d r) f in two_false (opens d b) (opens d (append r y)) x.0 (opens_both r y d x.1 g)
opens_both (Exit p n r) y d f g = let x = or_parts (not (nat_lt n d)) (opens d r) f in two_false (not (nat_lt n d)) (opens d (append r y)) x.0 (opens_both r y d x.1 g)
opens_both (Wait p l n r) y d f g = absurd cc

shut_then : (e : Bool) (x y : Alive) (d : ℕ) → opens d x.code ≡ false → opens d y.code ≡ false → opens d (then_alive e x y).code ≡ false
shut_then true x y d f g = opens_both x.code y.code d f g
shut_then false x y d f g = f

shut_if : (g : Option Bool) (p : Place) (t : Term) (x y : Alive) (d : ℕ) → opens d x.code ≡ false → opens d y.code ≡ false → opens d (by_test g p t x y).code ≡ false
shut_if (Some true) p t x y d f g = f
shut_if (Some false) p t x y d f g = g
shut_if None p t x y d f g = two_false (opens d x.code) (opens d y.code || false) f (two_false (opens d y.code) false g refl)

shut_loop : (e : Bool) (p : Place) (n : Option Count) (x : Alive) (d : ℕ) → opens d x.code ≡ false → opens d (looped e p n x).code ≡ false
shut_loop true p n x d f = two_false (opens d x.code) false f refl
shut_loop false p n x d f = f

not_true : (b : Bool) → b ≡ true → not b ≡ false
not_true true h = refl
not_true false h = absurd cc

pub closed : (cs : Cells) (c : Code) (d : ℕ) → exits_within d c ≡ true → waits c ≡ [] → opens d (live cs c) ≡ false
closed cs End d e w = refl
closed cs (Put p l k v r) d e w = closed cs r d e w
closed cs (Aim p to t r) d e w = closed cs r d e w
closed cs (If p t a b r) d e w =
    let x = and_both (exits_within d a) (exits_within d b && exits_within d r) e in
    let y = and_both (exits_within d b) (exits_within d r) x.1 in
    let u = no_front (waits a) (waits b ++ waits r) w in
    let v = no_front (waits b) (waits r) u.1 in
    let z = by_test (goes cs t) p t (alive cs a) (alive cs b) in
    shut_then z.ends z (alive cs r) d (shut_if (goes cs t) p t (alive cs a) (alive cs b) d (closed cs a d x.0 u.0) (closed cs b d y.0 v.0)) (closed cs r d y.1 v.1)
closed cs (Block p b r) d e w =
    let x = and_both (exits_within (suc d) b) (exits_within d r) e in
    let u = no_front (waits b) (waits r) w in
    shut_then (shut p (alive cs b)).ends (shut p (alive cs b)) (alive cs r) d (two_false (opens (suc d) (live cs b)) false (closed cs b (suc d) x.0 u.0) refl) (closed cs r d x.1 u.1)
closed cs (Loop p n b r) d e w =
    let x = and_both (exits_within d b) (exits_within d r) e in
    let u = no_front (waits b) (waits r) w in
    shut_loop (alive cs b).ends p n (alive cs b) d (closed cs b d x.0 u.0)
closed cs (Exit p n r) d e w = two_false (not (nat_lt n d)) false (not_true (nat_lt n d) (and_both (nat_lt n d) (exits_within d r) e).0) refl
closed cs (Wait p l n r) d e w = absurd cc

-- E507 is not refused
pub waits_nowhere : (p : Program) (i : ℕ) (q : Process) → wait_in_method p ≡ None → slice_get p.processes i ≡ Some q → q.is_thread ≡ false → waits q.body ≡ []
waits_nowhere p i q h at e = no_first _ (waits q.body) (by q.is_thread e (none_at _ p.processes i q h at))
  where
    by : {A : Type 0} {o : Option A} (b : Bool) → b ≡ false → (if b then None else o) ≡ None → o ≡ None
    by true f z = absurd cc
    by false f z = z

pub alone : (p : Program) (i : ℕ) (q : Process) → wait_in_method p ≡ None → slice_get p.processes i ≡ Some q → q.is_thread ≡ false → exits_within 0 q.body ≡ true → opens 0 (live p.cells q.body) ≡ false
alone p i q h at e x = closed p.cells q.body 0 x (waits_nowhere p i q h at e)
