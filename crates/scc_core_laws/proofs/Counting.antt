-- A thread behind a wait that isn't over only counts.
use Rattle.std.proofs.Common.{◌≡◌, ℕ, zero, suc, ◌<◌, Bool, true, false, List, [], ◌∷◌, ◌++◌, Option, Some, None, refl, sym, ap, ◌∙◌, subst, arith, if◌then◌else◌, slice_get}
use Rattle.std.specs.Prelude.{option_map, unwrap_or}
use Rattle.scc_semantics.specs.Location.{Location}
use Rattle.scc_semantics.specs.Store.{updated}
use Rattle.scc_semantics.specs.Scene.{Names}
use Rattle.scc_semantics.specs.Value.{Held}
use Rattle.scc_semantics.specs.Body as machine
use Rattle.scc_semantics.specs.Machine.{Frames, Stop, Go, Inner, BehindBlock, BehindCall, Suspended, waiting}
use Rattle.scc_core_spec.specs.Code.{Code, End, Put, Aim, If, Block, Loop, Exit, Wait}
use Rattle.scc_core_spec.specs.Program.{Program, Process}
use Rattle.scc_core_spec.specs.Static.{Cells, goes}
use Rattle.scc_core_spec.specs.Source.{Home, body_of, cell_location}
use Rattle.scc_blocks_spec.specs.Acting.{Acting}
use Rattle.scc_blocks_spec.specs.Effect.{Place}
use Rattle.scc_blocks_spec.specs.Places.{live_ways, if_ends, ends_of, rest_of, behind_waits}
use Rattle.scc_blocks_spec.specs.Tied.{own_names, first_frames}
use Rattle.scc_blocks_spec.specs.Turns.{thread_turn, behind_wait}
use Rattle.scc_core_effect_laws.specs.Follows.{Meets, Leaves, Tracks, RunsSegments, StandsAt, runs}
use Rattle.scc_core_effect_laws.proofs.Names.{some-same, none-some, map-is}

-- some statements stand there
abbrev Stands : Frames → Type 0
Stands Stop = ⊥
Stands (Go Inner m b k) = Unit {0}
Stands (Go BehindBlock m b k) = ⊥
Stands (Go BehindCall m b k) = ⊥

abbrev AllStand : List (ℕ × Frames) → Type 0
AllStand [] = Unit {0}
AllStand (w ∷ ws) = Stands w.1 × AllStand ws

all-join : (xs ys : List (ℕ × Frames)) → AllStand xs → AllStand ys → AllStand (xs ++ ys)
all-join [] ys h k = k
all-join (x ∷ xs) ys h k = (h.0, all-join xs ys h.1 k)

all-ways : (o : Option Bool) (xs ys : List (ℕ × Frames)) → AllStand xs → AllStand ys → AllStand (live_ways o xs ys)
all-ways (Some true) xs ys h k = h
all-ways (Some false) xs ys h k = k
all-ways None xs ys h k = all-join xs ys h k

all-ends : (b : Bool) (xs : List (ℕ × Frames)) → AllStand xs → AllStand (if_ends b xs)
all-ends true xs h = h
all-ends false xs h = tt

all-at : (xs : List (ℕ × Frames)) (n : ℕ) (w : ℕ × Frames) → AllStand xs → slice_get xs n ≡ Some w → Stands w.1
all-at [] n w h e = none-some w e
all-at (x ∷ xs) zero w h e = subst (λ w. Stands w.1) (some-same x w e) h.0
all-at (x ∷ xs) (suc n) w h e = all-at xs n w h.1 e

module _ (home : Home) (cs : Cells) (i : ℕ) (names : Names) where
  all-behind : (c : Code) (outer : Frames) → AllStand (behind_waits home cs i names c outer)
  all-behind End outer = tt
  all-behind (Put p l k e r) outer = all-behind r outer
  all-behind (Aim p to t r) outer = all-behind r outer
  all-behind (If p t a b r) outer =
      all-join (live_ways (goes cs t) (behind_waits home cs i names a (rest_of home cs i names r outer)) (behind_waits home cs i names b (rest_of home cs i names r outer))) (if_ends (ends_of cs (If p t a b End)) (behind_waits home cs i names r outer))
      (all-ways (goes cs t) _ _ (all-behind a (rest_of home cs i names r outer)) (all-behind b (rest_of home cs i names r outer))) (all-ends (ends_of cs (If p t a b End)) (behind_waits home cs i names r outer) (all-behind r outer))
  all-behind (Block p b r) outer =
      all-join (behind_waits home cs i names b (Go BehindBlock names (body_of home cs i r) outer)) (if_ends (ends_of cs (Block p b End)) (behind_waits home cs i names r outer))
      (all-behind b (Go BehindBlock names (body_of home cs i r) outer)) (all-ends (ends_of cs (Block p b End)) (behind_waits home cs i names r outer) (all-behind r outer))
  all-behind (Loop p n b r) outer =
      all-join (behind_waits home cs i names b (Go Inner names (machine.Loop (body_of home cs i b) (body_of home cs i r)) outer)) (if_ends (ends_of cs (Loop p n b End)) (behind_waits home cs i names r outer))
      (all-behind b (Go Inner names (machine.Loop (body_of home cs i b) (body_of home cs i r)) outer)) (all-ends (ends_of cs (Loop p n b End)) (behind_waits home cs i names r outer) (all-behind r outer))
  all-behind (Exit p n r) outer = tt
  all-behind (Wait p l n r) outer = (tt, all-behind r outer)

module _ (home : Home) (p : Program) (bounds : ℕ → ℕ) (segments : RunsSegments home p bounds) where
  one-wait : (signals : Location → ℕ) (b number n : ℕ) (f : Frames) (h : Held) → 0 < b → Stands f → runs home p signals b (waiting number (suc n) f) h ≡ Suspended (waiting number n f) h
  one-wait signals (suc b) number n (Go Inner m c k) h e s = refl
  one-wait signals (suc b) number n (Go BehindBlock m c k) h e s = absurd s
  one-wait signals (suc b) number n (Go BehindCall m c k) h e s = absurd s
  one-wait signals zero number n f h e s = absurd (let q = e in grind (arith, q))
  one-wait signals (suc b) number n Stop h e s = absurd s

  leaves-all : (signals : Location → ℕ) (h : Held) (a : Acting) → Meets home p signals h.store.words a → Leaves home p h h a
  leaves-all signals h a m = record {
    numbers = λ c x e n. sym (m.numbers c x e n);
    roots = λ c x e r. refl;
    asked = λ c x w e r. sym (ap (λ o. unwrap_or o (updated h.requests w (cell_location home p x))) (m.calm c));
    unasked = λ c x w e n. refl;
  }

  pub tracks : Tracks home p bounds
  tracks = record { tracks = λ i q reset place f signals h a e t s m. by i q reset place f signals h a e t s m }
    where
      behind : (i : ℕ) (q : Process) (number left : ℕ) (f : Frames) (signals : Location → ℕ) (h : Held) (a : Acting) → slice_get p.processes i ≡ Some q → q.is_thread ≡ true
          → StandsAt home p i q (Some (record { number = number; left = left })) f → Meets home p signals h.store.words a
          → (b : Acting) × (to : Place) × (g : Frames) × (k : Held) × (behind_wait p.cells q (record { number = number; left = left }) a ≡ Some (record { acting = b; place = Some to }))
          × (runs home p signals (bounds i) f h ≡ Suspended g k) × Leaves home p h k b × StandsAt home p i q (Some to) g
      behind i q number zero f signals h a e t s m = segments.goes_on i q number f signals h a e t s m
      behind i q number (suc n) f signals h a e t s m =
          let w = map-is (slice_get (behind_waits home p.cells i (own_names i) q.body Stop) number) (λ w. waiting w.0 (suc n) w.1) f s in
          let stands = all-at (behind_waits home p.cells i (own_names i) q.body Stop) number w.0 (all-behind home p.cells i (own_names i) q.body Stop) w.1 in (
            a,
            record { number = number; left = n },
            waiting w.0.0 n w.0.1,
            h,
            refl,
            ap (λ f. runs home p signals (bounds i) f h) (sym w.2) ∙ one-wait signals (bounds i) w.0.0 n w.0.1 h (segments.enough i q e t) stands,
            leaves-all signals h a m,
            ap (option_map (λ w. waiting w.0 n w.1)) w.1,
          )

      by : (i : ℕ) (q : Process) (reset : Bool) (place : Option Place) (f : Frames) (signals : Location → ℕ) (h : Held) (a : Acting) → slice_get p.processes i ≡ Some q → q.is_thread ≡ true
          → StandsAt home p i q place f → Meets home p signals h.store.words a
          → (b : Acting) × (to : Place) × (g : Frames) × (k : Held) × (thread_turn p.cells q reset place a ≡ Some (record { acting = b; place = Some to }))
          × (runs home p signals (bounds i) (if reset then first_frames home p i q else f) h ≡ Suspended g k) × Leaves home p h k b × StandsAt home p i q (Some to) g
      by i q true place f signals h a e t s m = segments.begins i q signals h a e t m
      by i q false None f signals h a e t s m =
          let r = segments.begins i q signals h a e t m in
          (r.0, r.1, r.2, r.3, r.4, ap (λ f. runs home p signals (bounds i) f h) s ∙ r.5, r.6, r.7)
      by i q false (Some place) f signals h a e t s m = behind i q place.number place.left f signals h a e t s m
