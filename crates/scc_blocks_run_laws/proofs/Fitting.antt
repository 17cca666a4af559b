-- What processes make of registers that are proper fits.
use Rattle.std.proofs.Common.{◌≡◌, ◌<◌, ◌-◌, ℕ, zero, suc, Bool, true, false, Option, Some, None, slice_get, refl, sym, ap, ◌∙◌, subst, arith, if◌then◌else◌}
use Rattle.scc_core_spec.specs.Program.{Program, Process}
use Rattle.scc_core_spec.specs.Segments.{Segment, Plain, Test, Halt, Finish}
use Rattle.scc_core_spec.specs.Live.{live}
use Rattle.scc_blocks_spec.specs.Acting.{Acting, word_in}
use Rattle.scc_blocks_spec.specs.Effect.{Place, Waits, Fails, Effect, Fell, Left_out, Lost, effect, then_ran, or_fails, choose, run_segment}
use Rattle.scc_blocks_spec.specs.Tied.{Registers}
use Rattle.scc_blocks_spec.specs.Turns.{Regs, Left, turn, found, reset_at, method_left, thread_turn, behind_wait, ran_segment, segment_at}
use Rattle.scc_blocks_spec.specs.Shown.{Sight, sight_of}
use Rattle.scc_blocks_spec.specs.Lowered.{Fits}
use Rattle.scc_blocks_run_laws.specs.Blocks.{IsProper, IsPlaceOf}
use Rattle.scc_blocks_run_laws.specs.Follows.{KeepsSegment, IsSteady}
use Rattle.scc_blocks_run_laws.proofs.Segments.{waits-acting, waits-place}
use Rattle.scc_blocks_run_laws.proofs.Threads.{left-is, waited}

pub record FitsLeft (s : Sight) (q : Process) (a : Acting) (place : Place) : Type 0 where
  pub fits : Fits s a
  pub stands : IsPlaceOf s.cells q place

module _ (s : Sight) (q : Process) where
  segment-fits : (seg : Segment) (a b : Acting) (place : Place) → KeepsSegment s q seg → Fits s a → run_segment s.cells seg a ≡ Waits b place → FitsLeft s q b place
  segment-fits (Plain c r) a b place k f h = go (λ a' f' h'. segment-fits r a' b place k.1 f' h') (effect s.cells c a) refl
    where
      go : ((a' : Acting) → Fits s a' → run_segment s.cells r a' ≡ Waits b place → FitsLeft s q b place) → (o : Effect) → effect s.cells c a ≡ o → FitsLeft s q b place
      go next (Fell a') e = next a' (k.0 a a' f e) (sym (ap (λ o. then_ran o (run_segment s.cells r)) e) ∙ h)
      go next (Left_out n a') e = let t : then_ran (effect s.cells c a) (run_segment s.cells r) ≡ Fails = ap (λ o. then_ran o (run_segment s.cells r)) e in absurd (cc)
      go next Lost e = let t : then_ran (effect s.cells c a) (run_segment s.cells r) ≡ Fails = ap (λ o. then_ran o (run_segment s.cells r)) e in absurd (cc)
  segment-fits (Test p t u v) a b place k f h = go (segment-fits u a b place k.0 f) (segment-fits v a b place k.1 f) (word_in s.cells a t) refl
    where
      go : (run_segment s.cells u a ≡ Waits b place → FitsLeft s q b place) → (run_segment s.cells v a ≡ Waits b place → FitsLeft s q b place) → (o : Option ℕ) → word_in s.cells a t ≡ o → FitsLeft s q b place
      go first second None e = let r : or_fails (word_in s.cells a t) (λ n. choose n (run_segment s.cells u a) (run_segment s.cells v a)) ≡ Fails = ap (λ o. or_fails o (λ n. choose n (run_segment s.cells u a) (run_segment s.cells v a))) e in absurd (cc)
      go first second (Some zero) e = second (sym (ap (λ o. or_fails o (λ n. choose n (run_segment s.cells u a) (run_segment s.cells v a))) e) ∙ h)
      go first second (Some (suc n)) e = first (sym (ap (λ o. or_fails o (λ n. choose n (run_segment s.cells u a) (run_segment s.cells v a))) e) ∙ h)
  segment-fits (Halt p n count) a b place k f h =
      let here : Place = record { number = n; left = count - 1 } in
      let Q : Acting → Type 0 = λ a. FitsLeft s q a place in
      let R : Place → Type 0 = λ l. FitsLeft s q a l in
      subst Q (waits-acting a b here place h) (subst R (waits-place a b here place h) (record { fits = f; stands = (count, k.0, let l = k.1 in omega arith) }))
  segment-fits Finish a b place k f h = absurd (cc)

  at-fits : (o : Option Segment) (a : Acting) (l : Left) (place : Place) → ((seg : Segment) → o ≡ Some seg → KeepsSegment s q seg) → Fits s a → ran_segment s.cells o a ≡ Some l → l.place ≡ Some place → FitsLeft s q l.acting place
  at-fits None a l place k f h e = absurd (cc)
  at-fits (Some seg) a l place k f h e = segment-fits seg a l.acting place (k seg refl) f (waited (run_segment s.cells seg a) l place h e)

  wait-fits : (pl : Place) (a : Acting) (l : Left) (to : Place) → ((n : ℕ) (seg : Segment) → segment_at s.cells q n ≡ Some seg → KeepsSegment s q seg) → IsPlaceOf s.cells q pl → Fits s a
      → behind_wait s.cells q pl a ≡ Some l → l.place ≡ Some to → FitsLeft s q l.acting to
  wait-fits pl a l to k o f h e = go pl.left refl
    where
      here : (n : ℕ) → pl.left ≡ n → behind_wait s.cells q (record { number = pl.number; left = n }) a ≡ Some l
      here n z = sym (λ i. behind_wait s.cells q (record { number = pl.number; left = z i }) a) ∙ h

      go : (n : ℕ) → pl.left ≡ n → FitsLeft s q l.acting to
      go zero z = at-fits (segment_at s.cells q (suc pl.number)) a l to (λ seg x. k (suc pl.number) seg x) f (here 0 z) e
      go (suc n) z =
          let there : Place = record { number = pl.number; left = n } in
          let wt : Waits a there ≡ Waits l.acting to = left-is a there l to (here (suc n) z) e in
          let Q : Acting → Type 0 = λ a. FitsLeft s q a to in
          let R : Place → Type 0 = λ l. FitsLeft s q a l in
          let less : pl.left < o.0 = o.2 in
          subst Q (waits-acting a l.acting there to wt) (subst R (waits-place a l.acting there to wt) (record { fits = f; stands = (o.0, o.1, omega arith) }))

pub method-fits : (p : Program) (r : Registers) (i : ℕ) (q : Process) (g : Regs) (l : Left) → IsSteady p r → slice_get p.processes i ≡ Some q → Fits (sight_of p i q) (found p i q g) → q.is_thread ≡ false → turn p i q g ≡ Some l
    → Fits (sight_of p i q) l.acting
method-fits p r i q g l st s f h t = go (effect p.cells (live p.cells q.body) (found p i q g)) refl
  where
    left : method_left (effect p.cells (live p.cells q.body) (found p i q g)) ≡ Some l
    left = sym (ap (λ k. if k then thread_turn p.cells q (reset_at g.word q.reset) (g.place i) (found p i q g) else method_left (effect p.cells (live p.cells q.body) (found p i q g))) h) ∙ t

    go : (e : Effect) → effect p.cells (live p.cells q.body) (found p i q g) ≡ e → Fits (sight_of p i q) l.acting
    go (Fell a) e =
        let z : Some (record { acting = a; place = None }) ≡ Some l = sym (ap method_left e) ∙ left in
        let y : record { acting = a; place = None } ≡ l = cc in
        let P : Left → Type 0 = λ l. Fits (sight_of p i q) l.acting in
        subst P y (st.methods i q s h (found p i q g) a f e)
    go (Left_out n a) e = let z : None ≡ Some l = sym (ap method_left e) ∙ left in absurd (cc)
    go Lost e = let z : None ≡ Some l = sym (ap method_left e) ∙ left in absurd (cc)

pub thread-fits : (p : Program) (r : Registers) (i : ℕ) (q : Process) (g : Regs) (l : Left) (to : Place) → IsSteady p r → IsProper p r g → slice_get p.processes i ≡ Some q → Fits (sight_of p i q) (found p i q g) → q.is_thread ≡ true
    → turn p i q g ≡ Some l → l.place ≡ Some to → FitsLeft (sight_of p i q) q l.acting to
thread-fits p r i q g l to st pr s f h t e = go (reset_at g.word q.reset) refl (g.place i) refl
  where
    turns : thread_turn p.cells q (reset_at g.word q.reset) (g.place i) (found p i q g) ≡ Some l
    turns = sym (ap (λ k. if k then thread_turn p.cells q (reset_at g.word q.reset) (g.place i) (found p i q g) else method_left (effect p.cells (live p.cells q.body) (found p i q g))) h) ∙ t

    first : ran_segment p.cells (segment_at p.cells q 0) (found p i q g) ≡ Some l → FitsLeft (sight_of p i q) q l.acting to
    first x = at-fits (sight_of p i q) q (segment_at p.cells q 0) (found p i q g) l to (λ seg y. st.threads i 0 q seg s h y) f x e

    go : (w : Bool) → reset_at g.word q.reset ≡ w → (o : Option Place) → g.place i ≡ o → FitsLeft (sight_of p i q) q l.acting to
    go true w o z = first (sym (ap (λ k. thread_turn p.cells q k (g.place i) (found p i q g)) w) ∙ turns)
    go false w None z = first (sym (λ j. thread_turn p.cells q (w j) (z j) (found p i q g)) ∙ turns)
    go false w (Some pl) z = wait-fits (sight_of p i q) q pl (found p i q g) l to (λ n seg y. st.threads i n q seg s h y) (pr.places i q pl s z) f (sym (λ j. thread_turn p.cells q (w j) (z j) (found p i q g)) ∙ turns) e
