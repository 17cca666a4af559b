-- Code without open statements goes out as its paths do.
use Rattle.std.proofs.Common.{◌≡◌, ℕ, zero, suc, ◌<◌, true, false, ◌||◌, Option, Some, None, refl, arith}
use Rattle.std.specs.Prelude.{not, nat_lt, nat_eq}
use Rattle.std.proofs.lemmas.Bool.{ltb-true, not-false}
use Rattle.scc_semantics.specs.Value.{Held}
use Rattle.scc_core_spec.specs.Code.{Code, End, Put, Aim, If, Block, Loop, Exit, Wait}
use Rattle.scc_core_spec.specs.Segments.{opens}
use Rattle.scc_core_spec.specs.Flow.{Idle, idle, then_idle}
use Rattle.scc_states_path_laws.specs.Moved.{World, Done, Fell, Out, Sticks, then_done, shut_done, or_sticks, either_done, effect_on, put_on, aim_on, word_of}
use Rattle.scc_states_path_laws.proofs.Codes.{or_parts, or_left, or_right}
use Rattle.scc_states_path_laws.proofs.Alive.{ends_then, leaves_first, leaves_then}

abbrev pub Way : ℕ → Idle → Done → Type 0
Way d x (Fell h) = x.ends ≡ true
Way d x (Out j h) = (j < d) × (x.leaves j ≡ true)
Way d x (Sticks h) = Unit {0}

pub way_map : (d : ℕ) (x y : Idle) (o : Done) → (x.ends ≡ true → y.ends ≡ true) → ((j : ℕ) → x.leaves j ≡ true → y.leaves j ≡ true) → Way d x o → Way d y o
way_map d x y (Fell h) f g p = f p
way_map d x y (Out j h) f g p = (p.0, g j p.1)
way_map d x y (Sticks h) f g p = tt

pub way_then : (d : ℕ) (x y : Idle) (o : Done) (f : Held → Done) → Way d x o → ((h : Held) → Way d y (f h)) → Way d (then_idle x.ends x.leaves y) (then_done o f)
way_then d x y (Fell h) f p q = way_map d y (then_idle x.ends x.leaves y) (f h) (λ e. ends_then x.ends x.leaves y p e) (λ j e. leaves_then x.ends x.leaves y j p e) (q h)
way_then d x y (Out j h) f p q = (p.0, leaves_first x.ends x.leaves y j p.1)
way_then d x y (Sticks h) f p q = tt

pub way_shut : (d : ℕ) (x y : Idle) (o : Done) (f : Held → Done) → Way (suc d) x o → ((h : Held) → Way d y (f h)) → Way d (then_idle (x.ends || x.leaves 0) (λ n. x.leaves (suc n)) y) (shut_done o f)
way_shut d x y (Fell h) f p q =
    let e = or_left x.ends (x.leaves 0) p in
    way_map d y (then_idle (x.ends || x.leaves 0) (λ n. x.leaves (suc n)) y) (f h) (λ i. ends_then (x.ends || x.leaves 0) (λ n. x.leaves (suc n)) y e i) (λ j i. leaves_then (x.ends || x.leaves 0) (λ n. x.leaves (suc n)) y j e i) (q h)
way_shut d x y (Out zero h) f p q =
    let e = or_right x.ends (x.leaves 0) p.1 in
    way_map d y (then_idle (x.ends || x.leaves 0) (λ n. x.leaves (suc n)) y) (f h) (λ i. ends_then (x.ends || x.leaves 0) (λ n. x.leaves (suc n)) y e i) (λ j i. leaves_then (x.ends || x.leaves 0) (λ n. x.leaves (suc n)) y j e i) (q h)
way_shut d x y (Out (suc j) h) f p q = (omega (arith, p.0), leaves_first (x.ends || x.leaves 0) (λ n. x.leaves (suc n)) y j p.1)
way_shut d x y (Sticks h) f p q = tt

pub way_or : {A : Type 0} (d : ℕ) (x : Idle) (h : Held) (o : Option A) (f : A → Done) → ((y : A) → Way d x (f y)) → Way d x (or_sticks h o f)
way_or d x h None f p = tt
way_or d x h (Some y) f p = p y

pub way_either : (v d : ℕ) (x y : Idle) (o u : Done) → Way d x o → Way d y u → Way d (record { ends = x.ends || y.ends; leaves = λ n. x.leaves n || y.leaves n }) (either_done v o u)
way_either zero d x y o u p q = way_map d y (record { ends = x.ends || y.ends; leaves = λ n. x.leaves n || y.leaves n }) u (λ e. or_right x.ends y.ends e) (λ j e. or_right (x.leaves j) (y.leaves j) e) q
way_either (suc v) d x y o u p q = way_map d x (record { ends = x.ends || y.ends; leaves = λ n. x.leaves n || y.leaves n }) o (λ e. or_left x.ends y.ends e) (λ j e. or_left (x.leaves j) (y.leaves j) e) p

pub eq_self : (n : ℕ) → nat_eq n n ≡ true
eq_self n = grind arith

module _ (w : World) where
  pub way : (c : Code) (d : ℕ) (h : Held) → opens d c ≡ false → Way d (idle c) (effect_on w c h)
  way End d h o = refl
  way (Put p l k e r) d h o = way_or d (idle r) h (put_on w l k e h) (effect_on w r) (λ h'. way r d h' o)
  way (Aim p to t r) d h o = way_or d (idle r) h (aim_on w to t h) (effect_on w r) (λ h'. way r d h' o)
  way (If p t a b r) d h o =
      let oa = or_parts (opens d a) (opens d b || opens d r) o in
      let ob = or_parts (opens d b) (opens d r) oa.1 in
      let x : Idle = record { ends = (idle a).ends || (idle b).ends; leaves = λ n. (idle a).leaves n || (idle b).leaves n } in
      way_or d (then_idle x.ends x.leaves (idle r)) h (word_of w t h) (λ v. then_done (either_done v (effect_on w a h) (effect_on w b h)) (effect_on w r))
      (λ v. way_then d x (idle r) (either_done v (effect_on w a h) (effect_on w b h)) (effect_on w r)
      (way_either v d (idle a) (idle b) (effect_on w a h) (effect_on w b h) (way a d h oa.0) (way b d h ob.0)) (λ h'. way r d h' ob.1))
  way (Block p b r) d h o =
      let ob = or_parts (opens (suc d) b) (opens d r) o in
      way_shut d (idle b) (idle r) (effect_on w b h) (effect_on w r) (way b (suc d) h ob.0) (λ h'. way r d h' ob.1)
  way (Loop p n b r) d h o = tt
  way (Exit p n r) d h o = (ltb-true n d (not-false _ (or_parts (not (nat_lt n d)) (opens d r) o).0), eq_self n)
  way (Wait p l n r) d h o = tt
