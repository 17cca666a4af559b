-- The segments of sound code are sound, and do the same from actings that differ only in what is read late.
use Rattle.std.proofs.Common.{◌≡◌, ℕ, zero, suc, ◌+◌, Bool, true, false, List, [], ◌∷◌, ◌++◌, Option, Some, None, refl, sym, ◌∙◌, subst}
use Rattle.scc_core_spec.specs.Term.{Term, Left, Pick}
use Rattle.scc_core_spec.specs.Code.{Code, End, Put, Aim, If, Block, Loop, Exit, Wait, numbered, waits_in}
use Rattle.scc_core_spec.specs.Static.{Cells}
use Rattle.scc_core_spec.specs.Uses.{loads}
use Rattle.scc_core_spec.specs.Flow.{CellSet, flow}
use Rattle.scc_core_spec.specs.Segments.{Segment, Plain, Test, Halt, Finish, opens, opened, behind, segment, segments, all_segments, segment_code}
use Rattle.scc_blocks_spec.specs.Acting.{Acting, word_in}
use Rattle.scc_blocks_spec.specs.Effect.{Effect, Fell, Left_out, Lost, effect, Ran, Waits, Ends, Fails, then_ran, or_fails, choose, run_segment}
use Rattle.scc_core_effect_laws.specs.Sound.{Each, Sound}
use Rattle.scc_core_effect_laws.specs.Alike.{Both, Alike, AlikeRan, Late, Singles}
use Rattle.scc_core_effect_laws.proofs.Names.{true-false}
use Rattle.scc_core_effect_laws.proofs.Depends.{NoRoots, shrinks, same-effect, weaker, good-uses}
use Rattle.scc_core_effect_laws.proofs.Same.{same-word}

module _ (P : Left → Pick → Term → Type 0) (T : Term → Type 0) where
  pub numbered-each : (c : Code) (n : ℕ) → Each P T c → Each P T (numbered n c)
  numbered-each End n h = tt
  numbered-each (Put p l k e r) n h = (h.0, numbered-each r n h.1)
  numbered-each (Aim p to t r) n h = numbered-each r n h
  numbered-each (If p t a b r) n h = (h.0, numbered-each a n h.1, numbered-each b (n + waits_in a) h.2, numbered-each r (n + (waits_in a + waits_in b)) h.3)
  numbered-each (Block p b r) n h = (numbered-each b n h.0, numbered-each r (n + waits_in b) h.1)
  numbered-each (Loop p c b r) n h = (numbered-each b n h.0, numbered-each r (n + waits_in b) h.1)
  numbered-each (Exit p d r) n h = numbered-each r n h
  numbered-each (Wait p l c r) n h = numbered-each r (n + 1) h

  abbrev pub GoodSegment : Segment → Type 0
  GoodSegment s = Each P T (segment_code s) × Singles s

  abbrev pub GoodSegments : List Segment → Type 0
  GoodSegments [] = Unit {0}
  GoodSegments (s ∷ ss) = GoodSegment s × GoodSegments ss

  good-join : (xs ys : List Segment) → GoodSegments xs → GoodSegments ys → GoodSegments (xs ++ ys)
  good-join [] ys h k = k
  good-join (x ∷ xs) ys h k = (h.0, good-join xs ys h.1 k)

  good-opened : (b : Bool) (x y : Segment) → GoodSegment x → GoodSegment y → GoodSegment (opened b x y)
  good-opened true x y h k = h
  good-opened false x y h k = k

  good-behind : (outer : List Segment) (n : ℕ) → GoodSegments outer → GoodSegment (behind n outer)
  good-behind [] n h = (tt, tt)
  good-behind (x ∷ xs) zero h = h.0
  good-behind (x ∷ xs) (suc n) h = good-behind xs n h.1

  good-segment : (c : Code) (next : Segment) (outer : List Segment) → Each P T c → GoodSegment next → GoodSegments outer → GoodSegment (segment c next outer)
  good-segment End next outer h g o = g
  good-segment (Put p l k e r) next outer h g o = let m = good-segment r next outer h.1 g o in ((h.0, m.0), (tt, m.1))
  good-segment (Aim p to t r) next outer h g o = let m = good-segment r next outer h g o in (m.0, (tt, m.1))
  good-segment (If p t a b r) next outer h g o =
      let m = good-segment r next outer h.3 g o in
      let ma = good-segment a (segment r next outer) outer h.1 m o in
      let mb = good-segment b (segment r next outer) outer h.2 m o in
      good-opened (opens 0 (If p t a b End)) (Test p t (segment a (segment r next outer) outer) (segment b (segment r next outer) outer)) (Plain (If p t a b End) (segment r next outer))
      ((h.0, ma.0, mb.0, tt), (ma.1, mb.1)) ((h.0, h.1, h.2, m.0), (tt, m.1))
  good-segment (Block p b r) next outer h g o =
      let m = good-segment r next outer h.1 g o in
      good-opened (opens 0 (Block p b End)) (segment b (segment r next outer) (segment r next outer ∷ outer)) (Plain (Block p b End) (segment r next outer))
      (good-segment b (segment r next outer) (segment r next outer ∷ outer) h.0 m (m, o)) ((h.0, m.0), (tt, m.1))
  good-segment (Loop p n b r) next outer h g o =
      let m = good-segment r next outer h.1 g o in
      good-opened (opens 0 (Loop p n b End)) (segment b Finish outer) (Plain (Loop p n b End) (segment r next outer)) (good-segment b Finish outer h.0 (tt, tt) o) ((h.0, m.0), (tt, m.1))
  good-segment (Exit p n r) next outer h g o = good-behind outer n o
  good-segment (Wait p l n r) next outer h g o = (tt, tt)

  good-segments : (c : Code) (next : Segment) (outer : List Segment) → Each P T c → GoodSegment next → GoodSegments outer → GoodSegments (segments c next outer)
  good-segments End next outer h g o = tt
  good-segments (Put p l k e r) next outer h g o = good-segments r next outer h.1 g o
  good-segments (Aim p to t r) next outer h g o = good-segments r next outer h g o
  good-segments (If p t a b r) next outer h g o =
      let m = good-segment r next outer h.3 g o in
      good-join (segments a (segment r next outer) outer) _ (good-segments a (segment r next outer) outer h.1 m o)
      (good-join (segments b (segment r next outer) outer) _ (good-segments b (segment r next outer) outer h.2 m o) (good-segments r next outer h.3 g o))
  good-segments (Block p b r) next outer h g o =
      let m = good-segment r next outer h.1 g o in
      good-join (segments b (segment r next outer) (segment r next outer ∷ outer)) _ (good-segments b (segment r next outer) (segment r next outer ∷ outer) h.0 m (m, o)) (good-segments r next outer h.1 g o)
  good-segments (Loop p n b r) next outer h g o =
      good-join (segments b (segment (Loop p n b r) next outer) outer) _ (good-segments b (segment (Loop p n b r) next outer) outer h.0 (good-segment (Loop p n b r) next outer h g o) o) (good-segments r next outer h.1 g o)
  good-segments (Exit p n r) next outer h g o = good-segments r next outer h g o
  good-segments (Wait p l n r) next outer h g o = (good-segment r next outer h g o, good-segments r next outer h g o)

  pub all-good : (c : Code) → Each P T c → GoodSegments (all_segments c)
  all-good c h = (good-segment c Finish [] h (tt, tt) tt, good-segments c Finish [] h (tt, tt) tt)

module _ (cs : Cells) where
  then-alike : (u fall : CellSet) (out : ℕ → CellSet) (o q : Effect) (f g : Acting → Ran) → Alike cs fall out o q → ((a b : Acting) → Both cs fall a b → AlikeRan cs u (f a) (g b)) → AlikeRan cs u (then_ran o f) (then_ran q g)
  then-alike u fall out (Fell a) (Fell b) f g h l = l a b h
  then-alike u fall out (Left_out n a) (Left_out m b) f g h l = tt
  then-alike u fall out Lost Lost f g h l = tt
  then-alike u fall out (Fell a) (Left_out m b) f g h l = absurd h
  then-alike u fall out (Fell a) Lost f g h l = absurd h
  then-alike u fall out (Left_out n a) (Fell b) f g h l = absurd h
  then-alike u fall out (Left_out n a) Lost f g h l = absurd h
  then-alike u fall out Lost (Fell b) f g h l = absurd h
  then-alike u fall out Lost (Left_out m b) f g h l = absurd h

  less : (u v : CellSet) → ((x : ℕ) → v x ≡ true → u x ≡ true) → (x : ℕ) → u x ≡ false → v x ≡ false
  less u v h x e = by (v x) refl
    where
      by : (b : Bool) → v x ≡ b → b ≡ false
      by true f = true-false (sym (h x f) ∙ e)
      by false f = refl

  ran-weaker : (u v : CellSet) (o q : Ran) → ((x : ℕ) → v x ≡ false → u x ≡ false) → AlikeRan cs u o q → AlikeRan cs v o q
  ran-weaker u v (Waits a p) (Waits b q) h k = (k.0, weaker cs u v a b h k.1)
  ran-weaker u v (Ends a) (Ends b) h k = weaker cs u v a b h k
  ran-weaker u v Fails Fails h k = tt
  ran-weaker u v (Waits a p) (Ends b) h k = absurd k
  ran-weaker u v (Waits a p) Fails h k = absurd k
  ran-weaker u v (Ends a) (Waits b q) h k = absurd k
  ran-weaker u v (Ends a) Fails h k = absurd k
  ran-weaker u v Fails (Waits b q) h k = absurd k
  ran-weaker u v Fails (Ends b) h k = absurd k

  -- one statement, and then the rest
  plain-alike : (c : Code) (s : Segment) (u : CellSet) (a b : Acting) → Sound cs c → NoRoots cs u → Late cs u c → Both cs u a b
      → ((a b : Acting) → Both cs (flow cs c u).fall a b → AlikeRan cs (flow cs c u).fall (run_segment cs s a) (run_segment cs s b)) → AlikeRan cs u (run_segment cs (Plain c s) a) (run_segment cs (Plain c s) b)
  plain-alike c s u a b h n l k more =
      then-alike u (flow cs c u).fall (flow cs c u).out (effect cs c a) (effect cs c b) (run_segment cs s) (run_segment cs s) (same-effect cs c u a b h n l k)
      (λ x y z. ran-weaker (flow cs c u).fall u _ _ (less u (flow cs c u).fall ((shrinks cs c u).fall)) (more x y z))

  none-fall : (c : Code) (u : CellSet) → NoRoots cs u → NoRoots cs (flow cs c u).fall
  none-fall c u n x e = n x ((shrinks cs c u).fall x e)

  pub same-segment : (s : Segment) (u : CellSet) (a b : Acting) → Sound cs (segment_code s) → Singles s → NoRoots cs u → Late cs u (segment_code s) → Both cs u a b → AlikeRan cs u (run_segment cs s a) (run_segment cs s b)
  same-segment (Plain (Put p l k e End) s) u a b h o n late z =
      let c : Code = Put p l k e End in
      plain-alike c s u a b (h.0, tt) n (late.0, tt) z (λ x y w. same-segment s (flow cs c u).fall x y h.1 o.1 (none-fall c u n) late.1 w)
  same-segment (Plain (If p t c d End) s) u a b h o n late z =
      let f : Code = If p t c d End in
      plain-alike f s u a b (h.0, h.1, h.2, tt) n (late.0, late.1, late.2, tt) z (λ x y w. same-segment s (flow cs f u).fall x y h.3 o.1 (none-fall f u n) late.3 w)
  same-segment (Plain (Block p c End) s) u a b h o n late z =
      let f : Code = Block p c End in
      plain-alike f s u a b (h.0, tt) n (late.0, tt) z (λ x y w. same-segment s (flow cs f u).fall x y h.1 o.1 (none-fall f u n) late.1 w)
  same-segment (Plain (Aim p to t r) s) u a b h o n late z = tt
  same-segment (Plain (Loop p m c r) s) u a b h o n late z = tt
  same-segment (Plain c s) u a b h o n late z = absurd o.0
  same-segment (Test p t s v) u a b h o n late z =
      subst (λ w. AlikeRan cs u (or_fails (word_in cs a t) (λ n. choose n (run_segment cs s a) (run_segment cs v a))) (or_fails w (λ n. choose n (run_segment cs s b) (run_segment cs v b))))
      (same-word cs u a b z t (good-uses cs u (loads t) h.0 late.0)) (by (word_in cs a t) (same-segment s u a b h.1 o.0 n late.1 z) (same-segment v u a b h.2 o.1 n late.2 z))
    where
      by : (w : Option ℕ) → AlikeRan cs u (run_segment cs s a) (run_segment cs s b) → AlikeRan cs u (run_segment cs v a) (run_segment cs v b)
          → AlikeRan cs u (or_fails w (λ n. choose n (run_segment cs s a) (run_segment cs v a))) (or_fails w (λ n. choose n (run_segment cs s b) (run_segment cs v b)))
      by None k l = tt
      by (Some zero) k l = l
      by (Some (suc m)) k l = k
  same-segment (Halt p number count) u a b h o n late z = (refl, z)
  same-segment Finish u a b h o n late z = z
