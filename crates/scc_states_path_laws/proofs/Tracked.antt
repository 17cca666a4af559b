-- A suspended thread is tracked by its place.
use Rattle.std.proofs.Common.{◌≡◌, inl, inr, ℕ, zero, suc, ◌+◌, ◌*◌, ◌≤◌, ◌<◌, Bool, true, false, List, [], length, Option, Some, None, refl, sym, ap, subst, ◌∙◌, arith, get_or}
use Rattle.std.specs.Prelude.{slice_get, option_map}
use Rattle.std.proofs.lemmas.Option.{slice_get-get_or, slice_get_within}
use Rattle.scc_semantics.specs.Value.{Held}
use Rattle.scc_semantics.specs.Machine.{Frames, Stop, Go, Inner, BehindBlock, BehindCall, Suspended, Ended, waiting, run}
use Rattle.scc_core_spec.specs.Code.{Code, End, Put, Aim, If, Block, Loop, Exit, Wait, size}
use Rattle.scc_core_spec.specs.Static.{Cells}
use Rattle.scc_core_spec.specs.Live.{live}
use Rattle.scc_core_spec.specs.Segments.{Segment, Finish, segment, segments}
use Rattle.scc_core_spec.specs.Flow.{idle_loops}
use Rattle.scc_core_spec.specs.Sizes.{loops_deep, states}
use Rattle.scc_blocks_spec.specs.Effect.{Place}
use Rattle.scc_states_path_laws.specs.Moved.{World, Halted, Waits, Ends, Fails, run_on, found_or_stop, frames_in, outcome_in}
use Rattle.scc_states_path_laws.specs.Within.{Along, Tests}
use Rattle.scc_states_path_laws.specs.Tracks.{Tracks, MayEnd, steps_of, frames_of, first_of, resumed, segment_numbered, segment_or, goes_on, moved, outcome_of, Stands}
use Rattle.scc_states_path_laws.proofs.Codes.{must_wait}
use Rattle.scc_states_path_laws.proofs.Alive.{among}
use Rattle.scc_states_path_laws.proofs.Does.{Cut}
use Rattle.scc_states_path_laws.proofs.Tables.{Point, P, length-points, has_all}
use Rattle.scc_states_path_laws.proofs.Reach.{Fine, Good, good_code}
use Rattle.scc_states_path_laws.proofs.Waiting.{Starts, GoodPoint, Goods, goods_at, good_points}

some_size : (cs : Cells) (c : Code) (k : ℕ) → k < states cs c → 1 ≤ size c
some_size cs End k below = absurd (omega arith)
some_size cs (Put p l e v r) k below = omega arith
some_size cs (Aim p to t r) k below = omega arith
some_size cs (If p t a b r) k below = omega arith
some_size cs (Block p b r) k below = omega arith
some_size cs (Loop p n b r) k below = omega arith
some_size cs (Exit p n r) k below = omega arith
some_size cs (Wait p l n r) k below = omega arith

-- what a mapped option that is there was
mapped : {A B : Type 0} (o : Option A) (f : A → B) (b : B) → option_map f o ≡ Some b → (x : A) × (o ≡ Some x) × (f x ≡ b)
mapped None f b e = absurd cc
mapped (Some x) f b e = (x, refl, same e)
  where
    same : Some (f x) ≡ Some b → f x ≡ b
    same e' = cc

module _ (w : World) (a : Along w) (c : Code) (tests : Tests w a.Holds c) (quiet : idle_loops (live w.cells c) ≡ []) where
  abbrev table : List Point
  table = P w c Stop

  abbrev E : Type 0
  E = MayEnd w.cells c

  over : E → Good w a E table 0 Stop Finish
  over e = record { by = λ h is. record { by = ended h }; ok = λ h. e }
    where
      ended : (h : Held) (n : ℕ) → 0 ≤ n → run w.places w.functions w.signals n Stop h ≡ Ended h
      ended h zero le = refl
      ended h (suc n) le = refl

  start : Good w a E table (size c + 0) (first_of w c) (segment (Cut w a 0 c) Finish [])
  start = good_code w a E table c tests 0 Inner Stop Finish [] 0 (must_wait (live w.cells c) quiet) (has_all table [])
      (λ i. over (inl ((among w.cells c).ends i))) (λ j i. over (inr (j, (among w.cells c).leaves j i)))

  points : Goods w a E table ((loops_deep c + 1) * size c + 0) table (segments (Cut w a 0 c) Finish [])
  points = good_points w a E table c tests 0 Stop Finish [] (loops_deep c) 0 (omega arith) (must_wait (live w.cells c) quiet) (has_all table [])
      (λ i. over (inl i)) (λ j i. over (inr (j, i)))

  same_outcome : (o : Halted) → outcome_in table o ≡ outcome_of w c o
  same_outcome (Waits number left h) = refl
  same_outcome (Ends h) = refl
  same_outcome (Fails h) = refl

  fine_stands : (o : Halted) → Fine E table o → Stands w c o
  fine_stands (Waits number left h) p = let e = length-points w c Stop in omega arith
  fine_stands (Ends h) p = p
  fine_stands (Fails h) p = tt

  begun : (h : Held) → a.Is (first_of w c) h → (n : ℕ) → steps_of c ≤ n → run w.places w.functions w.signals n (first_of w c) h ≡ outcome_of w c (run_on w (segment_numbered w c 0) h)
  begun h is n le = (start.by h is).by n (omega arith) ∙ same_outcome (run_on w (segment_numbered w c 0) h)

  point_at : (n : ℕ) (q : Point) → slice_get table n ≡ Some q → (s : Segment) × (segment_numbered w c (suc n) ≡ s) × GoodPoint w a E table ((loops_deep c + 1) * size c + 0) q s
  point_at n q e = let g = goods_at w a E table ((loops_deep c + 1) * size c + 0) table (segments (Cut w a 0 c) Finish []) n q e points in (g.0, ap (segment_or w c) g.1, g.2)

  at_place : (number : ℕ) → number < states w.cells c → (q : Point) × (slice_get table number ≡ Some q)
  at_place number below = let e = length-points w c Stop in let le : number < length table = omega arith in (get_or table number (0, Stop), slice_get-get_or table number (0, Stop) le)

  -- a wait that isn't over counts
  counted : (n number left : ℕ) (q : Point) (h : Held) → slice_get table number ≡ Some q → Starts q.1 → 1 ≤ n
      → run w.places w.functions w.signals n (waiting q.0 (suc left) q.1) h ≡ Suspended (frames_in table number left) h
  counted zero number left q h e st le = absurd (omega arith)
  counted (suc n) number left q h e st le = by q.1 st ∙ ap (λ o. Suspended (found_or_stop (option_map (λ z. waiting z.0 left z.1) o)) h) (sym e)
    where
      by : (f : Frames) → Starts f → run w.places w.functions w.signals (suc n) (waiting q.0 (suc left) f) h ≡ Suspended (waiting q.0 left f) h
      by Stop s = absurd s
      by (Go Inner names b k) s = refl
      by (Go BehindBlock names b k) s = absurd s
      by (Go BehindCall names b k) s = absurd s

  went_on : (n number left : ℕ) (q : Point) (h : Held) → slice_get table number ≡ Some q → number < states w.cells c → a.Is (waiting q.0 left q.1) h → steps_of c ≤ n
      → run w.places w.functions w.signals n (waiting q.0 left q.1) h ≡ outcome_in table (goes_on w c number left h)
  went_on n number zero q h e below is le =
      let g = point_at number q e in
      (g.2.good.by h is).by n (omega arith) ∙ ap (λ s. outcome_in table (run_on w s h)) (sym g.1)
  went_on n number (suc left) q h e below is le = counted n number left q h e (point_at number q e).2.starts (one_at_least (loops_deep c) (size c) n (some_size w.cells c number below) le)
    where
      one_at_least : (d s n : ℕ) → 1 ≤ s → (d + 1) * s ≤ n → 1 ≤ n
      one_at_least d s n h i = omega arith

  pub tracked : Tracks w c a.Is
  tracked = record {
    begins = begun;
    resumes = by;
    stands = λ h. fine_stands (run_on w (segment_numbered w c 0) h) (start.ok h);
    stays = stays';
    is_wait = λ q f e. is_wait' q.number (mapped (slice_get table q.number) (λ z. waiting z.0 q.left z.1) f e);
    has_frames = λ q below. let p = at_place q.number below in (waiting p.0.0 q.left p.0.1, ap (option_map (λ z. waiting z.0 q.left z.1)) p.1);
  }
    where
      is_wait' : (number : ℕ) → {f : Frames} {g : Point → Frames} → (z : Point) × (slice_get table number ≡ Some z) × (g z ≡ f) → number < states w.cells c
      is_wait' number m = let len = length-points w c Stop in omega (arith, slice_get_within table number m.0 m.1)

      stays' : (reset : Bool) (q : Place) (h : Held) → q.number < states w.cells c → Stands w c (moved w c reset q h)
      stays' true q h below = fine_stands (run_on w (segment_numbered w c 0) h) (start.ok h)
      stays' false q h below = by_left q.number q.left below
        where
          by_left : (number left : ℕ) → number < states w.cells c → Stands w c (goes_on w c number left h)
          by_left number zero below' =
              let p = at_place number below' in
              let g = point_at number p.0 p.1 in
              subst (λ s. Stands w c (run_on w s h)) (sym g.1) (fine_stands (run_on w g.0 h) (g.2.good.ok h))
          by_left number (suc left) below' = below'

      by : (reset : Bool) (q : Place) (f : Frames) (h : Held) → frames_of w c q ≡ Some f → a.Is (resumed w c reset f) h → (n : ℕ) → steps_of c ≤ n
          → run w.places w.functions w.signals n (resumed w c reset f) h ≡ outcome_of w c (moved w c reset q h)
      by true q f h e is n le = begun h is n le
      by false q f h e is n le =
          let m = mapped (slice_get table q.number) (λ z. waiting z.0 q.left z.1) f e in
          let len = length-points w c Stop in
          let below : q.number < states w.cells c = omega (arith, slice_get_within table q.number m.0 m.1) in
          let is' = subst (λ g. a.Is g h) (sym m.2) is in
          subst (λ g. run w.places w.functions w.signals n g h ≡ outcome_of w c (goes_on w c q.number q.left h)) m.2
          (went_on n q.number q.left m.0 h m.1 below is' le ∙ same_outcome (goes_on w c q.number q.left h))
