-- The table of what follows each wait: how long it is, and what stands where.
use Rattle.std.proofs.Common.{◌≡◌, ℕ, ◌+◌, ◌<◌, Bool, true, false, ◌||◌, List, [], ◌∷◌, ◌++◌, length, Option, Some, None, refl, ap, subst, ◌∙◌, arith, length-append, append_assoc}
use Rattle.std.specs.Prelude.{slice_get}
use Rattle.std.proofs.Math.Seq.{get_or-append_seam}
use Rattle.std.proofs.lemmas.Option.{slice_get-get_or}
use Rattle.scc_base.specs.declared.refusal.Place.{Place}
use Rattle.scc_semantics.specs.Machine.{Frames, Go, Inner, BehindBlock}
use Rattle.scc_core_spec.specs.Term.{Term}
use Rattle.scc_core_spec.specs.Code.{Code, Count, End, Put, Aim, If, Block, Loop, Exit, Wait, waits_in, holds_wait}
use Rattle.scc_core_spec.specs.Static.{Cells, goes}
use Rattle.scc_core_spec.specs.Live.{Alive, alive, live, then_alive, by_test, looped, shut}
use Rattle.scc_blocks_spec.specs.Places.{behind_waits, live_ways, if_ends, ends_of, rest_of}
use Rattle.scc_states_path_laws.specs.Moved.{World}
use Rattle.scc_states_path_laws.proofs.Codes.{waits_in-append, or_parts}
use Rattle.scc_semantics.specs.Body as machine
use Rattle.scc_core_spec.specs.Source.{body_of}

abbrev pub Point : Type 0
Point = ℕ × Frames

pub same_ends : (e : Bool) (x : Alive) (cs : Cells) → x.ends ≡ e → (then_alive e x (alive cs End)).ends ≡ e
same_ends true x cs is = refl
same_ends false x cs is = is

pub never_ends : (e : Bool) (x : Alive) (p : Place) (n : Option Count) → x.ends ≡ e → (looped e p n x).ends ≡ false
never_ends true x p n is = refl
never_ends false x p n is = is

pub seq_length : (e : Bool) (x y : Alive) (ws rs : List Point) → length ws ≡ waits_in x.code → length rs ≡ waits_in y.code → length (ws ++ if_ends e rs) ≡ waits_in (then_alive e x y).code
seq_length true x y ws rs p q = omega (arith, length-append ws rs, waits_in-append x.code y.code, p, q)
seq_length false x y ws rs p q = omega (arith, length-append {A = Point} ws [], p)

pub if_length : (g : Option Bool) (p : Place) (t : Term) (x y : Alive) (xs ys : List Point) → length xs ≡ waits_in x.code → length ys ≡ waits_in y.code → length (live_ways g xs ys) ≡ waits_in (by_test g p t x y).code
if_length (Some true) p t x y xs ys h i = h
if_length (Some false) p t x y xs ys h i = i
if_length None p t x y xs ys h i = omega (arith, length-append xs ys, h, i)

pub shut_length : (p : Place) (x : Alive) (xs : List Point) → length xs ≡ waits_in x.code → length xs ≡ waits_in (shut p x).code
shut_length p x xs h = omega (arith, h)

pub loop_length : (e : Bool) (p : Place) (n : Option Count) (x : Alive) (xs : List Point) → length xs ≡ waits_in x.code → length xs ≡ waits_in (looped e p n x).code
loop_length true p n x xs h = omega (arith, h)
loop_length false p n x xs h = h

module _ (w : World) where
  abbrev pub P : Code → Frames → List Point
  P = behind_waits w.home w.cells w.process w.names

  abbrev pub rest : Code → Frames → Frames
  rest = rest_of w.home w.cells w.process w.names

  abbrev pub blocked : Code → Frames → Frames
  blocked r k = Go BehindBlock w.names (body_of w.home w.cells w.process r) k

  abbrev pub looping : Code → Code → Frames → Frames
  looping b r k = Go Inner w.names (machine.Loop (body_of w.home w.cells w.process b) (body_of w.home w.cells w.process r)) k

  -- the points of a list in the form of its live part
  pub points_if : (p : Place) (t : Term) (x z r : Code) (k : Frames) → P (If p t x z r) k ≡ live_ways (goes w.cells t) (P x (rest r k)) (P z (rest r k)) ++ if_ends (by_test (goes w.cells t) p t (alive w.cells x) (alive w.cells z)).ends (P r k)
  points_if p t x z r k =
      let u = by_test (goes w.cells t) p t (alive w.cells x) (alive w.cells z) in
      ap (λ e. live_ways (goes w.cells t) (P x (rest r k)) (P z (rest r k)) ++ if_ends e (P r k)) (same_ends u.ends u w.cells refl)

  pub points_block : (p : Place) (b r : Code) (k : Frames) → P (Block p b r) k ≡ P b (blocked r k) ++ if_ends (shut p (alive w.cells b)).ends (P r k)
  points_block p b r k = ap (λ e. P b (blocked r k) ++ if_ends e (P r k)) (same_ends (shut p (alive w.cells b)).ends (shut p (alive w.cells b)) w.cells refl)

  pub points_loop : (p : Place) (n : Option Count) (b r : Code) (k : Frames) → P (Loop p n b r) k ≡ P b (looping b r k) ++ []
  points_loop p n b r k = ap (λ e. P b (looping b r k) ++ if_ends e (P r k)) (never_ends (alive w.cells b).ends (alive w.cells b) p n refl)

  pub length-points : (c : Code) (k : Frames) → length (P c k) ≡ waits_in (live w.cells c)
  length-points End k = refl
  length-points (Put p l e v r) k = length-points r k
  length-points (Aim p to t r) k = length-points r k
  length-points (If p t x z r) k =
      let u = by_test (goes w.cells t) p t (alive w.cells x) (alive w.cells z) in
      ap length (points_if p t x z r k)
      ∙ seq_length u.ends u (alive w.cells r) (live_ways (goes w.cells t) (P x (rest r k)) (P z (rest r k))) (P r k)
      (if_length (goes w.cells t) p t (alive w.cells x) (alive w.cells z) (P x (rest r k)) (P z (rest r k)) (length-points x (rest r k)) (length-points z (rest r k))) (length-points r k)
  length-points (Block p b r) k =
      ap length (points_block p b r k)
      ∙ seq_length (shut p (alive w.cells b)).ends (shut p (alive w.cells b)) (alive w.cells r) (P b (blocked r k)) (P r k)
      (shut_length p (alive w.cells b) (P b (blocked r k)) (length-points b (blocked r k))) (length-points r k)
  length-points (Loop p n b r) k =
      let e = ap length (points_loop p n b r k) in
      let f = length-append {A = Point} (P b (looping b r k)) [] in
      let g = loop_length (alive w.cells b).ends p n (alive w.cells b) (P b (looping b r k)) (length-points b (looping b r k)) in
      omega (arith, e, f, g)
  length-points (Exit p n r) k = refl
  length-points (Wait p l n r) k = omega (arith, length-points r k)

  no_points_two : (g : Option Bool) (xs ys : List Point) → xs ≡ [] → ys ≡ [] → live_ways g xs ys ≡ []
  no_points_two (Some true) xs ys h i = h
  no_points_two (Some false) xs ys h i = i
  no_points_two None xs ys h i = (λ j. h j ++ ys) ∙ i

  no_points_seq : (e : Bool) (xs ys : List Point) → xs ≡ [] → ys ≡ [] → xs ++ if_ends e ys ≡ []
  no_points_seq true xs ys h i = (λ j. h j ++ ys) ∙ i
  no_points_seq false xs ys h i = λ j. h j ++ []

  pub no_points : (c : Code) (k : Frames) → holds_wait c ≡ false → P c k ≡ []
  no_points End k h = refl
  no_points (Put p l e v r) k h = no_points r k h
  no_points (Aim p to t r) k h = no_points r k h
  no_points (If p t x z r) k h =
      let hx = or_parts (holds_wait x) (holds_wait z || holds_wait r) h in
      let hz = or_parts (holds_wait z) (holds_wait r) hx.1 in
      no_points_seq (ends_of w.cells (If p t x z End)) (live_ways (goes w.cells t) (P x (rest r k)) (P z (rest r k))) (P r k)
      (no_points_two (goes w.cells t) (P x (rest r k)) (P z (rest r k)) (no_points x (rest r k) hx.0) (no_points z (rest r k) hz.0)) (no_points r k hz.1)
  no_points (Block p b r) k h =
      let hb = or_parts (holds_wait b) (holds_wait r) h in
      no_points_seq (ends_of w.cells (Block p b End)) (P b (blocked r k)) (P r k) (no_points b (blocked r k) hb.0) (no_points r k hb.1)
  no_points (Loop p n b r) k h =
      let hb = or_parts (holds_wait b) (holds_wait r) h in
      no_points_seq (ends_of w.cells (Loop p n b End)) (P b (looping b r k)) (P r k) (no_points b (looping b r k) hb.0) (no_points r k hb.1)
  no_points (Exit p n r) k h = refl
  no_points (Wait p l n r) k h = absurd cc

-- these points stand in the table from n on
abbrev pub HasAt : List Point → ℕ → List Point → Type 0
HasAt table n [] = Unit {0}
HasAt table n (f ∷ fs) = (slice_get table n ≡ Some f) × HasAt table (n + 1) fs

pub has_front : (table : List Point) (n : ℕ) (a b : List Point) → HasAt table n (a ++ b) → HasAt table n a
has_front table n [] b h = tt
has_front table n (f ∷ a) b h = (h.0, has_front table (n + 1) a b h.1)

pub has_back : (table : List Point) (n m : ℕ) (a b : List Point) → n + length a ≡ m → HasAt table n (a ++ b) → HasAt table m b
has_back table n m [] b e h = let e' : n ≡ m = omega arith in subst (λ i. HasAt table i b) e' h
has_back table n m (f ∷ a) b e h = has_back table (n + 1) m a b (omega arith) h.1

pub has_all : (fs pre : List Point) → HasAt (pre ++ fs) (length pre) fs
has_all [] pre = tt
has_all (f ∷ fs) pre =
    let within : length pre < length (pre ++ f ∷ fs) = omega (arith, length-append pre (f ∷ fs)) in
    let here = slice_get-get_or (pre ++ f ∷ fs) (length pre) f within ∙ ap Some (get_or-append_seam pre f fs f) in
    let n : length (pre ++ f ∷ []) ≡ length pre + 1 = omega (arith, length-append pre (f ∷ [])) in
    let more = has_all fs (pre ++ f ∷ []) in
    let same : (pre ++ f ∷ []) ++ fs ≡ pre ++ f ∷ fs = append_assoc pre (f ∷ []) fs in
    let more' = subst (λ l. HasAt l (length (pre ++ f ∷ [])) fs) same more in
    (here, subst (λ m. HasAt (pre ++ f ∷ fs) m fs) n more')
