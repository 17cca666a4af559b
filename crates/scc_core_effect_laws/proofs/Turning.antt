-- A turn is alike from actings that differ only in what is read late, and moves only what its process writes.
use Rattle.std.proofs.Common.{◌≡◌, ℕ, zero, suc, Bool, true, false, nat_eq, Option, Some, None, refl, sym, ap, ◌∙◌, arith, slice_get}
use Rattle.scc_core_spec.specs.Program.{Program, Process, is_root}
use Rattle.scc_core_spec.specs.Static.{Cells}
use Rattle.scc_core_spec.specs.Live.{live}
use Rattle.scc_core_spec.specs.Sizes.{live_body}
use Rattle.scc_core_spec.specs.Segments.{Segment, all_segments, segment_code}
use Rattle.scc_core_spec.specs.Flow.{CellSet, flow}
use Rattle.scc_core_spec.specs.Uses.{has_sort, among}
use Rattle.scc_core_spec.specs.Kept.{written_by}
use Rattle.scc_core_spec.specs.Source.{Home}
use Rattle.scc_blocks_spec.specs.Acting.{Acting}
use Rattle.scc_blocks_spec.specs.Effect.{Effect, Fell, Left_out, Lost, effect, Place, Ran, Waits, Ends, Fails, run_segment}
use Rattle.scc_blocks_spec.specs.Turns.{Left as Leaving, left_by, method_left, segment_at, ran_segment, behind_wait, thread_turn}
use Rattle.scc_core_effect_laws.specs.Sound.{FitWords, FixedWords, SoundPut, SoundTest, Each}
use Rattle.scc_core_effect_laws.specs.Alike.{Both, Alike, AlikeRan}
use Rattle.scc_core_effect_laws.specs.Follows.{IsSoundCore, Obeys}
use Rattle.scc_core_effect_laws.proofs.Names.{and-first, true-false}
use Rattle.scc_core_effect_laws.proofs.Depends.{NoRoots, shrinks, same-effect, weaker}
use Rattle.scc_core_effect_laws.proofs.Lateness.{grow}
use Rattle.scc_core_effect_laws.proofs.Parts.{numbered-each, all-good, same-segment}
use Rattle.scc_core_effect_laws.proofs.Moved.{Moved, Within, AnyTest, MovedTo, RanTo, effect-moves, segment-moves, all-within}
use Rattle.scc_core_effect_laws.proofs.Unsure.{unsure, method-late, thread-late, good-at, sort-of, has-sort, number-no-root, is-false}

abbrev pub LeftAlike : Cells → CellSet → Option Leaving → Option Leaving → Type 0
LeftAlike cs u None None = Unit {0}
LeftAlike cs u (Some a) (Some b) = (a.place ≡ b.place) × Both cs u a.acting b.acting
LeftAlike cs u _ _ = ⊥

abbrev pub LeftMoved : Cells → (ℕ → Bool) → Acting → Option Leaving → Type 0
LeftMoved cs w a None = Unit {0}
LeftMoved cs w a (Some b) = Moved cs w a b.acting

module _ (home : Home) (p : Program) (resolved : IsSoundCore home p) (obeys : Obeys p) (i : ℕ) (q : Process) (here : slice_get p.processes i ≡ Some q) where
  abbrev cs : Cells
  cs = p.cells

  abbrev u : CellSet
  u = unsure p i q

  abbrev pub mine : ℕ → Bool
  mine c = among c (written_by p.cells q)

  no-roots : NoRoots cs u
  no-roots c e = let s = sort-of _ cs c (and-first (has_sort _ cs c) _ e) in has-sort is_root cs c s.0 s.1 ∙ number-no-root s.0.sort s.2

  eq-self : (c : ℕ) → nat_eq c c ≡ true
  eq-self c = grind arith

  method-left : (fall : CellSet) (out : ℕ → CellSet) (o r : Effect) → ((x : ℕ) → u x ≡ false → fall x ≡ false) → Alike cs fall out o r → LeftAlike cs u (method_left o) (method_left r)
  method-left fall out (Fell a) (Fell b) f h = (refl, weaker cs fall u a b f h)
  method-left fall out (Left_out n a) (Left_out m b) f h = tt
  method-left fall out Lost Lost f h = tt
  method-left fall out (Fell a) (Left_out m b) f h = absurd h
  method-left fall out (Fell a) Lost f h = absurd h
  method-left fall out (Left_out n a) (Fell b) f h = absurd h
  method-left fall out (Left_out n a) Lost f h = absurd h
  method-left fall out Lost (Fell b) f h = absurd h
  method-left fall out Lost (Left_out m b) f h = absurd h

  pub method-alike : q.is_thread ≡ false → (a b : Acting) → Both cs u a b → LeftAlike cs u (method_left (effect cs (live cs q.body) a)) (method_left (effect cs (live cs q.body) b))
  method-alike m a b h =
      let c = live cs q.body in
      let late = grow cs c u (λ x. nat_eq x) (λ x e. eq-self x) (λ x e. method-late home p resolved obeys i q here m x e) in
      method-left (flow cs c u).fall (flow cs c u).out (effect cs c a) (effect cs c b) (λ x e. is-false _ (λ f. true-false (sym ((shrinks cs c u).fall x f) ∙ e))) (same-effect cs c u a b (resolved.sound i q here) no-roots late h)

  ran-left : (o : Option Place) (r t : Ran) → AlikeRan cs u r t → LeftAlike cs u (left_by o r) (left_by o t)
  ran-left o (Waits a m) (Waits b n) h = (ap Some h.0, h.1)
  ran-left o (Ends a) (Ends b) h = (refl, h)
  ran-left o Fails Fails h = tt
  ran-left o (Waits a m) (Ends b) h = absurd h
  ran-left o (Waits a m) Fails h = absurd h
  ran-left o (Ends a) (Waits b n) h = absurd h
  ran-left o (Ends a) Fails h = absurd h
  ran-left o Fails (Waits b n) h = absurd h
  ran-left o Fails (Ends b) h = absurd h

  segment-alike : q.is_thread ≡ true → (n : ℕ) (a b : Acting) → Both cs u a b → LeftAlike cs u (ran_segment cs (segment_at cs q n) a) (ran_segment cs (segment_at cs q n) b)
  segment-alike t n a b h = by (segment_at cs q n) refl
    where
      by : (o : Option Segment) → segment_at cs q n ≡ o → LeftAlike cs u (ran_segment cs o a) (ran_segment cs o b)
      by None e = tt
      by (Some s) e =
          let good = good-at (SoundPut cs) (SoundTest cs) (all_segments (live_body cs q.body)) n s
          (all-good (SoundPut cs) (SoundTest cs) (live_body cs q.body) (numbered-each (SoundPut cs) (SoundTest cs) (live cs q.body) 0 (resolved.sound i q here))) e in
          let late = grow cs (segment_code s) u (λ x. nat_eq x) (λ x f. eq-self x) (λ x f. thread-late home p resolved obeys i q here t x n s f e) in
          ran-left None (run_segment cs s a) (run_segment cs s b) (same-segment cs s u a b good.0 good.1 no-roots late h)

  pub thread-alike : q.is_thread ≡ true → (reset : Bool) (place : Option Place) (a b : Acting) → Both cs u a b → LeftAlike cs u (thread_turn cs q reset place a) (thread_turn cs q reset place b)
  thread-alike t true place a b h = segment-alike t 0 a b h
  thread-alike t false None a b h = segment-alike t 0 a b h
  thread-alike t false (Some place) a b h = by place.left
    where
      by : (m : ℕ) → LeftAlike cs u (behind_wait cs q (record { number = place.number; left = m }) a) (behind_wait cs q (record { number = place.number; left = m }) b)
      by zero = segment-alike t (suc place.number) a b h
      by (suc m) = (refl, h)

  -- ---- what moves
  within : Each (Within cs mine) AnyTest (live cs q.body)
  within = all-within cs (live cs q.body) mine (resolved.sound i q here) (λ x e. e)

  method-to : (a : Acting) (o : Effect) → MovedTo cs mine a o → LeftMoved cs mine a (method_left o)
  method-to a (Fell b) h = h
  method-to a (Left_out n b) h = tt
  method-to a Lost h = tt

  pub method-moves : (a : Acting) → FixedWords cs a → FitWords cs a → LeftMoved cs mine a (method_left (effect cs (live cs q.body) a))
  method-moves a f g = method-to a (effect cs (live cs q.body) a) (effect-moves cs mine (live cs q.body) a within f g)

  ran-to : (a : Acting) (o : Option Place) (r : Ran) → RanTo cs mine a r → LeftMoved cs mine a (left_by o r)
  ran-to a o (Waits b m) h = h
  ran-to a o (Ends b) h = h
  ran-to a o Fails h = tt

  segment-to : (n : ℕ) (a : Acting) → FixedWords cs a → FitWords cs a → LeftMoved cs mine a (ran_segment cs (segment_at cs q n) a)
  segment-to n a f g = by (segment_at cs q n) refl
    where
      by : (o : Option Segment) → segment_at cs q n ≡ o → LeftMoved cs mine a (ran_segment cs o a)
      by None e = tt
      by (Some s) e =
          let good = good-at (Within cs mine) AnyTest (all_segments (live_body cs q.body)) n s
          (all-good (Within cs mine) AnyTest (live_body cs q.body) (numbered-each (Within cs mine) AnyTest (live cs q.body) 0 within)) e in
          ran-to a None (run_segment cs s a) (segment-moves cs mine s a good.0 good.1 f g)

  pub thread-moves : (reset : Bool) (place : Option Place) (a : Acting) → FixedWords cs a → FitWords cs a → LeftMoved cs mine a (thread_turn cs q reset place a)
  thread-moves true place a f g = segment-to 0 a f g
  thread-moves false None a f g = segment-to 0 a f g
  thread-moves false (Some place) a f g = by place.left
    where
      by : (m : ℕ) → LeftMoved cs mine a (behind_wait cs q (record { number = place.number; left = m }) a)
      by zero = segment-to (suc place.number) a f g
      by (suc m) = record { fixed = f; fit = g; now = λ c e. refl; asked = λ c e. refl }
