-- No segment of a thread fails, and no method is lost, where a body fits and none of its loops may come round without a wait.
use Rattle.std.proofs.Common.{◌≡◌, ℕ, zero, suc, ◌+◌, ◌<◌, Bool, true, false, ◌||◌, List, [], ◌∷◌, ◌++◌, length, get_or, length-append, Option, Some, None, refl, sym, subst, ◌∙◌, arith}
use Rattle.std.specs.Prelude.{slice_get, not, nat_lt}
use Rattle.std.proofs.lemmas.Bool.{ltb-true, not-false}
use Rattle.scc_base.specs.declared.refusal.Place.{Place}
use Rattle.scc_core_spec.specs.Term.{Term}
use Rattle.scc_core_spec.specs.Code.{Code, Count, End, Put, Aim, If, Block, Loop, Exit, Wait, append, waits_in, numbered}
use Rattle.scc_core_spec.specs.Program.{Process}
use Rattle.scc_core_spec.specs.Static.{Cells, goes}
use Rattle.scc_core_spec.specs.Live.{Alive, alive, live, then_alive, by_test, looped, shut}
use Rattle.scc_core_spec.specs.Segments.{Segment, Plain, Test, Halt, Finish, opens, opened, behind, segment, segments, all_segments}
use Rattle.scc_core_spec.specs.Flow.{idle_loops}
use Rattle.scc_core_spec.specs.Sizes.{live_body}
use Rattle.scc_blocks_spec.specs.Acting.{Acting, word_in}
use Rattle.scc_blocks_spec.specs.Effect.{Effect, Fell, Left_out, Lost, Ran, Waits, Ends, Fails, effect, run_segment, then_effect, or_lost, branch, assigned, then_ran, or_fails, choose}
use Rattle.scc_blocks_spec.specs.Effect as effect
use Rattle.scc_states_laws.specs.Alike.{IsFitCode, IsFitSegment}
use Rattle.scc_states_path_laws.proofs.Codes.{MustWait, must_wait, must_wait-append, or_parts, opens-append, opens-numbered}
use Rattle.scc_states_path_laws.proofs.Alive.{loop_waits}
use Rattle.scc_states_path_laws.proofs.Appended.{cut-append, cuts-append}
use Rattle.std.proofs.lemmas.Option.{slice_get-get_or}
use Rattle.scc_core_spec.specs.Sizes.{states}
use Rattle.scc_blocks_spec.specs.Effect.{Place as Spot}
use Rattle.scc_blocks_spec.specs.Turns.{left_by, thread_turn, method_left, behind_wait, ran_segment, segment_at}
use Rattle.scc_states_laws.specs.Turned.{IsPlace}
use Rattle.scc_states_laws.proofs.Fits.{fit_all, fit_at, fit_alive}
use Rattle.scc_states_laws.proofs.Progress.{There, some_there, word_there, assigned_there}
use Rattle.scc_states_laws.proofs.Turned.{quiet_same}

-- assignments, choices and blocks alone, leaving at most d blocks around
abbrev pub Bare : ℕ → Code → Type 0
Bare d End = Unit {0}
Bare d (Put p l k e r) = Bare d r
Bare d (Aim p to t r) = ⊥
Bare d (If p t a b r) = Bare d a × Bare d b × Bare d r
Bare d (Block p b r) = Bare (suc d) b × Bare d r
Bare d (Loop p n b r) = ⊥
Bare d (Exit p n r) = n < d
Bare d (Wait p l n r) = ⊥

bare_append : (x y : Code) (d : ℕ) → Bare d x → Bare d y → Bare d (append x y)
bare_append End y d f g = g
bare_append (Put p l k e r) y d f g = bare_append r y d f g
bare_append (Aim p to t r) y d f g = f
bare_append (If p t a b r) y d f g = (f.0, f.1, bare_append r y d f.2 g)
bare_append (Block p b r) y d f g = (f.0, bare_append r y d f.1 g)
bare_append (Loop p n b r) y d f g = f
bare_append (Exit p n r) y d f g = f
bare_append (Wait p l n r) y d f g = f

abbrev pub Sound : Segment → Type 0
Sound (Plain c s) = Bare 0 c × Sound s
Sound (Test p t s u) = Sound s × Sound u
Sound (Halt p l n) = Unit {0}
Sound Finish = Unit {0}

abbrev pub AllSound : List Segment → Type 0
AllSound [] = Unit {0}
AllSound (s ∷ ss) = Sound s × AllSound ss

-- what goes out of code that is bare
abbrev pub GoesOut : ℕ → Effect → Type 0
GoesOut d (Fell a) = Unit {0}
GoesOut d (Left_out n a) = n < d
GoesOut d Lost = ⊥

then_out : (d : ℕ) (o : Effect) (f : Acting → Effect) → GoesOut d o → ((a : Acting) → GoesOut d (f a)) → GoesOut d (then_effect o f)
then_out d (Fell a) f g h = h a
then_out d (Left_out n a) f g h = g
then_out d Lost f g h = g

shut_out : (d : ℕ) (o : Effect) (f : Acting → Effect) → GoesOut (suc d) o → ((a : Acting) → GoesOut d (f a)) → GoesOut d (effect.shut o f)
shut_out d (Fell a) f g h = h a
shut_out d (Left_out zero a) f g h = h a
shut_out d (Left_out (suc n) a) f g h = omega (arith, g)
shut_out d Lost f g h = absurd g

branch_out : (v d : ℕ) (o u : Effect) → GoesOut d o → GoesOut d u → GoesOut d (branch v o u)
branch_out zero d o u g h = h
branch_out (suc v) d o u g h = g

or_out : {A : Type 0} (d : ℕ) (o : Option A) (f : A → Effect) → There o → ((x : A) → GoesOut d (f x)) → GoesOut d (or_lost o f)
or_out d o f t g = subst (λ z. GoesOut d (or_lost z f)) (sym t.1) (g t.0)

abbrev pub Goes_on : Ran → Type 0
Goes_on (Waits a q) = Unit {0}
Goes_on (Ends a) = Unit {0}
Goes_on Fails = ⊥

then_on : (o : Effect) (f : Acting → Ran) → GoesOut 0 o → ((a : Acting) → Goes_on (f a)) → Goes_on (then_ran o f)
then_on (Fell a) f g h = h a
then_on (Left_out n a) f g h = absurd (omega (arith, g))
then_on Lost f g h = g

choose_on : (v : ℕ) (o u : Ran) → Goes_on o → Goes_on u → Goes_on (choose v o u)
choose_on zero o u g h = h
choose_on (suc v) o u g h = g

module _ (q : Process) (cs : Cells) where
  pub goes_out : (c : Code) (d : ℕ) (a : Acting) → Bare d c → IsFitCode q cs c → GoesOut d (effect cs c a)
  goes_out End d a g f = tt
  goes_out (Put p l k e r) d a g f = or_out d (assigned cs a l k e) (effect cs r) (assigned_there q cs a l k e f.0 f.1 f.2) (λ b. goes_out r d b g f.3)
  goes_out (Aim p to t r) d a g f = absurd g
  goes_out (If p t x y r) d a g f =
      or_out d (word_in cs a t) (λ n. then_effect (branch n (effect cs x a) (effect cs y a)) (effect cs r)) (word_there q cs a t f.0)
      (λ v. then_out d (branch v (effect cs x a) (effect cs y a)) (effect cs r) (branch_out v d (effect cs x a) (effect cs y a) (goes_out x d a g.0 f.1) (goes_out y d a g.1 f.2)) (λ b. goes_out r d b g.2 f.3))
  goes_out (Block p b r) d a g f = shut_out d (effect cs b a) (effect cs r) (goes_out b (suc d) a g.0 f.0) (λ b'. goes_out r d b' g.1 f.1)
  goes_out (Loop p n b r) d a g f = absurd g
  goes_out (Exit p n r) d a g f = g
  goes_out (Wait p l n r) d a g f = absurd g

  pub goes_on : (s : Segment) (a : Acting) → Sound s → IsFitSegment q cs s → Goes_on (run_segment cs s a)
  goes_on (Plain c s) a g f = then_on (effect cs c a) (run_segment cs s) (goes_out c 0 a g.0 f.0) (λ b. goes_on s b g.1 f.1)
  goes_on (Test p t s u) a g f =
      subst (λ z. Goes_on (effect.or_fails z (λ v. choose v (run_segment cs s a) (run_segment cs u a)))) (sym (word_there q cs a t f.0).1)
      (choose_on (word_there q cs a t f.0).0 (run_segment cs s a) (run_segment cs u a) (goes_on s a g.0 f.1) (goes_on u a g.1 f.2))
  goes_on (Halt p l n) a g f = tt
  goes_on Finish a g f = tt

  bare_then : (e : Bool) (x y : Alive) (d : ℕ) → MustWait (then_alive e x y).code → opens d (then_alive e x y).code ≡ false
      → (MustWait x.code → opens d x.code ≡ false → Bare d x.code) → (MustWait y.code → opens d y.code ≡ false → Bare d y.code) → Bare d (then_alive e x y).code
  bare_then true x y d m o f g =
      let m' = must_wait-append x.code y.code m in
      let o' = opens-append x.code y.code d o in
      bare_append x.code y.code d (f m'.0 o'.0) (g m'.1 o'.1)
  bare_then false x y d m o f g = f m o

  bare_if : (g : Option Bool) (p : Place) (t : Term) (x y : Alive) (d : ℕ) → MustWait (by_test g p t x y).code → opens d (by_test g p t x y).code ≡ false
      → (MustWait x.code → opens d x.code ≡ false → Bare d x.code) → (MustWait y.code → opens d y.code ≡ false → Bare d y.code) → Bare d (by_test g p t x y).code
  bare_if (Some true) p t x y d m o f g = f m o
  bare_if (Some false) p t x y d m o f g = g m o
  bare_if None p t x y d m o f g =
      let ox = or_parts (opens d x.code) (opens d y.code || false) o in
      let oy = or_parts (opens d y.code) false ox.1 in
      (f m.0 ox.0, g m.1 oy.0, tt)

  bare_loop : (e : Bool) (p : Place) (n : Option Count) (b : Code) (d : ℕ) → (alive cs b).ends ≡ e → MustWait (looped e p n (alive cs b)).code → opens d (looped e p n (alive cs b)).code ≡ false
      → (MustWait (live cs b) → opens d (live cs b) ≡ false → Bare d (live cs b)) → Bare d (looped e p n (alive cs b)).code
  bare_loop true p n b d is m o f = absurd (loop_waits cs b d is m.0 (or_parts (opens d (live cs b)) false o).0)
  bare_loop false p n b d is m o f = f m o

  pub bare : (c : Code) (d : ℕ) → IsFitCode q cs c → MustWait (live cs c) → opens d (live cs c) ≡ false → Bare d (live cs c)
  bare End d f m o = tt
  bare (Put p l k e r) d f m o = bare r d f.3 m o
  bare (Aim p to t r) d f m o = absurd f
  bare (If p t x y r) d f m o =
      let u = by_test (goes cs t) p t (alive cs x) (alive cs y) in
      bare_then u.ends u (alive cs r) d m o (λ m' o'. bare_if (goes cs t) p t (alive cs x) (alive cs y) d m' o' (bare x d f.1) (bare y d f.2)) (bare r d f.3)
  bare (Block p b r) d f m o =
      bare_then (shut p (alive cs b)).ends (shut p (alive cs b)) (alive cs r) d m o (λ m' o'. (bare b (suc d) f.0 m'.0 (or_parts (opens (suc d) (live cs b)) false o').0, tt)) (bare r d f.1)
  bare (Loop p n b r) d f m o = bare_loop (alive cs b).ends p n b d refl m o (bare b d f.0)
  bare (Exit p n r) d f m o = ltb-true n d (not-false _ (or_parts (not (nat_lt n d)) false o).0)
  bare (Wait p l n r) d f m o = absurd cc

  bare_cut : (c : Code) (d n : ℕ) → IsFitCode q cs c → MustWait (live cs c) → opens d (numbered n (live cs c)) ≡ false → Bare d (numbered n (live cs c))
  bare_cut c d n f m o =
      let o' = sym (opens-numbered (live cs c) d n) ∙ o in
      subst (λ z. Bare d z) (sym (quiet_same (live cs c) d n o')) (bare c d f m o')

  sound_behind : (n : ℕ) (ss : List Segment) → AllSound ss → Sound (behind n ss)
  sound_behind n [] g = tt
  sound_behind zero (s ∷ ss) g = g.0
  sound_behind (suc n) (s ∷ ss) g = sound_behind n ss g.1

  sound_then : (e : Bool) (x y : Alive) (n : ℕ) (next : Segment) (outer : List Segment) → MustWait (then_alive e x y).code
      → ((s : Segment) → Sound s → MustWait x.code → Sound (segment (numbered n x.code) s outer)) → ((m : ℕ) → MustWait y.code → Sound (segment (numbered m y.code) next outer)) → Sound next
      → Sound (segment (numbered n (then_alive e x y).code) next outer)
  sound_then true x y n next outer m f g h =
      let m' = must_wait-append x.code y.code m in
      subst (λ z. Sound z) (sym (cut-append x.code y.code n next outer)) (f (segment (numbered (n + waits_in x.code) y.code) next outer) (g (n + waits_in x.code) m'.1) m'.0)
  sound_then false x y n next outer m f g h = f next h m

  sound_opened : (b : Bool) (s u : Segment) → (b ≡ true → Sound s) → (b ≡ false → Sound u) → Sound (opened b s u)
  sound_opened true s u f g = f refl
  sound_opened false s u f g = g refl

  sound_if : (g : Option Bool) (p : Place) (t : Term) (x y : Code) (n : ℕ) (s : Segment) (outer : List Segment) → IsFitCode q cs x → IsFitCode q cs y → MustWait (by_test g p t (alive cs x) (alive cs y)).code
      → ((m : ℕ) → MustWait (live cs x) → Sound (segment (numbered m (live cs x)) s outer)) → ((m : ℕ) → MustWait (live cs y) → Sound (segment (numbered m (live cs y)) s outer)) → Sound s
      → Sound (segment (numbered n (by_test g p t (alive cs x) (alive cs y)).code) s outer)
  sound_if (Some true) p t x y n s outer fx fy m f g h = f n m
  sound_if (Some false) p t x y n s outer fx fy m f g h = g n m
  sound_if None p t x y n s outer fx fy m f g h =
      let X = numbered n (live cs x) in
      let Y = numbered (n + waits_in (live cs x)) (live cs y) in
      sound_opened (opens 0 (If p t X Y End)) (Test p t (segment X s outer) (segment Y s outer)) (Plain (If p t X Y End) s)
      (λ o. (f n m.0, g (n + waits_in (live cs x)) m.1))
      (λ o. let ox = or_parts (opens 0 X) (opens 0 Y || false) o in let oy = or_parts (opens 0 Y) false ox.1 in
      ((bare_cut x 0 n fx m.0 ox.0, bare_cut y 0 (n + waits_in (live cs x)) fy m.1 oy.0, tt), h))

  sound_loop : (e : Bool) (p : Place) (c : Option Count) (b : Code) (n : ℕ) (s : Segment) (outer : List Segment) → (alive cs b).ends ≡ e → MustWait (looped e p c (alive cs b)).code
      → ((s' : Segment) → Sound s' → MustWait (live cs b) → Sound (segment (numbered n (live cs b)) s' outer)) → Sound s → Sound (segment (numbered n (looped e p c (alive cs b)).code) s outer)
  sound_loop true p c b n s outer is m f h =
      let X = numbered n (live cs b) in
      sound_opened (opens 0 (Loop p c X End)) (segment X Finish outer) (Plain (Loop p c X End) s) (λ o. f Finish tt m.1)
      (λ o. absurd (loop_waits cs b 0 is m.0 (sym (opens-numbered (live cs b) 0 n) ∙ (or_parts (opens 0 X) false o).0)))
  sound_loop false p c b n s outer is m f h = f s h m

  pub sound : (c : Code) (n : ℕ) (next : Segment) (outer : List Segment) → IsFitCode q cs c → MustWait (live cs c) → Sound next → AllSound outer → Sound (segment (numbered n (live cs c)) next outer)
  sound End n next outer f m h os = h
  sound (Put p l k e r) n next outer f m h os = (tt, sound r n next outer f.3 m h os)
  sound (Aim p to t r) n next outer f m h os = absurd f
  sound (If p t x y r) n next outer f m h os =
      let u = by_test (goes cs t) p t (alive cs x) (alive cs y) in
      sound_then u.ends u (alive cs r) n next outer m
      (λ s hs mu. sound_if (goes cs t) p t x y n s outer f.1 f.2 mu (λ n' mx. sound x n' s outer f.1 mx hs os) (λ n' my. sound y n' s outer f.2 my hs os) hs)
      (λ n' mr. sound r n' next outer f.3 mr h os) h
  sound (Block p b r) n next outer f m h os =
      sound_then (shut p (alive cs b)).ends (shut p (alive cs b)) (alive cs r) n next outer m
      (λ s hs mu. sound_opened (opens 0 (Block p (numbered n (live cs b)) End)) (segment (numbered n (live cs b)) s (s ∷ outer)) (Plain (Block p (numbered n (live cs b)) End) s)
      (λ o. sound b n s (s ∷ outer) f.0 mu.0 hs (hs, os))
      (λ o. ((bare_cut b 1 n f.0 mu.0 (or_parts (opens 1 (numbered n (live cs b))) false o).0, tt), hs)))
      (λ n' mr. sound r n' next outer f.1 mr h os) h
  sound (Loop p c b r) n next outer f m h os = sound_loop (alive cs b).ends p c b n next outer refl m (λ s hs mb. sound b n s outer f.0 mb hs os) h
  sound (Exit p d r) n next outer f m h os = sound_behind d outer os
  sound (Wait p l c r) n next outer f m h os = tt

  all_both : (xs ys : List Segment) → AllSound xs → AllSound ys → AllSound (xs ++ ys)
  all_both [] ys f g = g
  all_both (x ∷ xs) ys f g = (f.0, all_both xs ys f.1 g)

  sounds_then : (e : Bool) (x y : Alive) (n : ℕ) (next : Segment) (outer : List Segment) → MustWait (then_alive e x y).code
      → ((s : Segment) → Sound s → MustWait x.code → AllSound (segments (numbered n x.code) s outer)) → ((m : ℕ) → MustWait y.code → Sound (segment (numbered m y.code) next outer))
      → ((m : ℕ) → MustWait y.code → AllSound (segments (numbered m y.code) next outer)) → Sound next
      → AllSound (segments (numbered n (then_alive e x y).code) next outer)
  sounds_then true x y n next outer m f g k h =
      let m' = must_wait-append x.code y.code m in
      let n' = n + waits_in x.code in
      subst (λ z. AllSound z) (sym (cuts-append x.code y.code n next outer))
      (all_both (segments (numbered n x.code) (segment (numbered n' y.code) next outer) outer) (segments (numbered n' y.code) next outer)
      (f (segment (numbered n' y.code) next outer) (g n' m'.1) m'.0) (k n' m'.1))
  sounds_then false x y n next outer m f g k h = f next h m

  sounds_if : (g : Option Bool) (p : Place) (t : Term) (x y : Code) (n : ℕ) (s : Segment) (outer : List Segment) → MustWait (by_test g p t (alive cs x) (alive cs y)).code
      → ((m : ℕ) → MustWait (live cs x) → AllSound (segments (numbered m (live cs x)) s outer)) → ((m : ℕ) → MustWait (live cs y) → AllSound (segments (numbered m (live cs y)) s outer))
      → AllSound (segments (numbered n (by_test g p t (alive cs x) (alive cs y)).code) s outer)
  sounds_if (Some true) p t x y n s outer m f g = f n m
  sounds_if (Some false) p t x y n s outer m f g = g n m
  sounds_if None p t x y n s outer m f g =
      let n' = n + waits_in (live cs x) in
      all_both (segments (numbered n (live cs x)) s outer) (segments (numbered n' (live cs y)) s outer ++ []) (f n m.0) (all_both (segments (numbered n' (live cs y)) s outer) [] (g n' m.1) tt)

  sounds_loop : (e : Bool) (p : Place) (c : Option Count) (b : Code) (n : ℕ) (s : Segment) (outer : List Segment) → MustWait (looped e p c (alive cs b)).code
      → Sound (segment (numbered n (looped e p c (alive cs b)).code) s outer) → Sound s
      → ((s' : Segment) → Sound s' → MustWait (live cs b) → AllSound (segments (numbered n (live cs b)) s' outer)) → AllSound (segments (numbered n (looped e p c (alive cs b)).code) s outer)
  sounds_loop true p c b n s outer m again h f =
      all_both (segments (numbered n (live cs b)) (segment (Loop p c (numbered n (live cs b)) End) s outer) outer) [] (f (segment (Loop p c (numbered n (live cs b)) End) s outer) again m.1) tt
  sounds_loop false p c b n s outer m again h f = f s h m

  pub sounds : (c : Code) (n : ℕ) (next : Segment) (outer : List Segment) → IsFitCode q cs c → MustWait (live cs c) → Sound next → AllSound outer → AllSound (segments (numbered n (live cs c)) next outer)
  sounds End n next outer f m h os = tt
  sounds (Put p l k e r) n next outer f m h os = sounds r n next outer f.3 m h os
  sounds (Aim p to t r) n next outer f m h os = absurd f
  sounds (If p t x y r) n next outer f m h os =
      let u = by_test (goes cs t) p t (alive cs x) (alive cs y) in
      sounds_then u.ends u (alive cs r) n next outer m
      (λ s hs mu. sounds_if (goes cs t) p t x y n s outer mu (λ n' mx. sounds x n' s outer f.1 mx hs os) (λ n' my. sounds y n' s outer f.2 my hs os))
      (λ n' mr. sound r n' next outer f.3 mr h os) (λ n' mr. sounds r n' next outer f.3 mr h os) h
  sounds (Block p b r) n next outer f m h os =
      sounds_then (shut p (alive cs b)).ends (shut p (alive cs b)) (alive cs r) n next outer m
      (λ s hs mu. all_both (segments (numbered n (live cs b)) s (s ∷ outer)) [] (sounds b n s (s ∷ outer) f.0 mu.0 hs (hs, os)) tt)
      (λ n' mr. sound r n' next outer f.1 mr h os) (λ n' mr. sounds r n' next outer f.1 mr h os) h
  sounds (Loop p c b r) n next outer f m h os = sounds_loop (alive cs b).ends p c b n next outer m (sound (Loop p c b r) n next outer f m h os) h (λ s hs mb. sounds b n s outer f.0 mb hs os)
  sounds (Exit p d r) n next outer f m h os = tt
  sounds (Wait p l c r) n next outer f m h os = (sound r (n + 1) next outer f m h os, sounds r (n + 1) next outer f m h os)

  pub all_sound : (c : Code) → IsFitCode q cs c → idle_loops (live cs c) ≡ [] → AllSound (all_segments (live_body cs c))
  all_sound c f quiet = (sound c 0 Finish [] f (must_wait (live cs c) quiet) tt tt, sounds c 0 Finish [] f (must_wait (live cs c) quiet) tt tt)

  pub sound_at : (ss : List Segment) (n : ℕ) (s : Segment) → AllSound ss → slice_get ss n ≡ Some s → Sound s
  sound_at [] n s f e = absurd cc
  sound_at (x ∷ ss) zero s f e = subst (λ z. Sound z) (same e) f.0
    where
      same : Some x ≡ Some s → x ≡ s
      same e' = cc
  sound_at (x ∷ ss) (suc n) s f e = sound_at ss n s f.1 e

length-segments : (c : Code) (next : Segment) (outer : List Segment) → length (segments c next outer) ≡ waits_in c
length-segments End next outer = refl
length-segments (Put p l k e r) next outer = length-segments r next outer
length-segments (Aim p to t r) next outer = length-segments r next outer
length-segments (If p t a b r) next outer =
    let s = segment r next outer in
    omega (arith, length-append (segments a s outer) (segments b s outer ++ segments r next outer), length-append (segments b s outer) (segments r next outer), length-segments a s outer, length-segments b s outer, length-segments r next outer)
length-segments (Block p b r) next outer =
    let s = segment r next outer in
    omega (arith, length-append (segments b s (s ∷ outer)) (segments r next outer), length-segments b s (s ∷ outer), length-segments r next outer)
length-segments (Loop p n b r) next outer =
    let s = segment (Loop p n b r) next outer in
    omega (arith, length-append (segments b s outer) (segments r next outer), length-segments b s outer, length-segments r next outer)
length-segments (Exit p n r) next outer = length-segments r next outer
length-segments (Wait p l n r) next outer = omega (arith, length-segments r next outer)

waits-numbered : (c : Code) (n : ℕ) → waits_in (numbered n c) ≡ waits_in c
waits-numbered End n = refl
waits-numbered (Put p l k e r) n = waits-numbered r n
waits-numbered (Aim p to t r) n = waits-numbered r n
waits-numbered (If p t a b r) n = omega (arith, waits-numbered a n, waits-numbered b (n + waits_in a), waits-numbered r (n + (waits_in a + waits_in b)))
waits-numbered (Block p b r) n = omega (arith, waits-numbered b n, waits-numbered r (n + waits_in b))
waits-numbered (Loop p c b r) n = omega (arith, waits-numbered b n, waits-numbered r (n + waits_in b))
waits-numbered (Exit p d r) n = waits-numbered r n
waits-numbered (Wait p l c r) n = omega (arith, waits-numbered r (n + 1))

-- a place of a thread is one of its waits
module _ (q : Process) (cs : Cells) (fit : IsFitCode q cs q.body) (quiet : idle_loops (live cs q.body) ≡ []) where
  segment_there : (n : ℕ) → n < suc (states cs q.body) → There (segment_at cs q n)
  segment_there n below =
      let e = length-segments (live_body cs q.body) Finish [] in
      let f = waits-numbered (live cs q.body) 0 in
      let le : n < length (all_segments (live_body cs q.body)) = omega arith in
      (get_or (all_segments (live_body cs q.body)) n Finish, slice_get-get_or (all_segments (live_body cs q.body)) n Finish le)

  left_there : (r : Ran) → Goes_on r → There (left_by None r)
  left_there (Waits a at) g = some_there _
  left_there (Ends a) g = some_there _
  left_there Fails g = absurd g

  ran_there : (n : ℕ) (a : Acting) → n < suc (states cs q.body) → There (ran_segment cs (segment_at cs q n) a)
  ran_there n a below =
      let s = segment_there n below in
      let all = all_segments (live_body cs q.body) in
      subst (λ z. There (ran_segment cs z a)) (sym s.1)
      (left_there (run_segment cs s.0 a) (goes_on q cs s.0 a (sound_at q cs all n s.0 (all_sound q cs q.body fit quiet) s.1) (fit_at q cs all n s.0 (fit_all q cs q.body fit) s.1)))

  pub turn_there : (reset : Bool) (place : Option Spot) (a : Acting) → IsPlace cs q place → There (thread_turn cs q reset place a)
  turn_there true place a below = ran_there 0 a (omega arith)
  turn_there false None a below = ran_there 0 a (omega arith)
  turn_there false (Some at) a below = by at.number at.left below
    where
      by : (number left : ℕ) → number < states cs q.body → There (behind_wait cs q (record { number = number; left = left }) a)
      by number zero lt = ran_there (suc number) a (omega arith)
      by number (suc left) lt = some_there _

  pub method_there : (a : Acting) → opens 0 (live cs q.body) ≡ false → There (method_left (effect cs (live cs q.body) a))
  method_there a alone = by (effect cs (live cs q.body) a) (goes_out q cs (live cs q.body) 0 a (bare q cs q.body 0 fit (must_wait (live cs q.body) quiet) alone) (fit_alive q cs q.body fit))
    where
      by : (o : Effect) → GoesOut 0 o → There (method_left o)
      by (Fell b) g = some_there _
      by (Left_out n b) g = absurd (omega (arith, g))
      by Lost g = absurd g
