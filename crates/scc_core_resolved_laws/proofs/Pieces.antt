-- What holds of each assignment and test of a body holds of its live part, and of its segments.
use Rattle.std.proofs.Common.{◌≡◌, ℕ, zero, suc, ◌+◌, Bool, true, false, List, [], ◌∷◌, ◌++◌, Option, Some, None, subst}
use Rattle.std.specs.Prelude.{slice_get}
use Rattle.scc_base.specs.declared.refusal.Place.{Place}
use Rattle.scc_core_spec.specs.Term.{Term, Left, Pick}
use Rattle.scc_core_spec.specs.Code.{Code, Count, End, Put, Aim, If, Block, Loop, Exit, Wait, append, waits_in, numbered}
use Rattle.scc_core_spec.specs.Static.{Cells, goes}
use Rattle.scc_core_spec.specs.Live.{Alive, alive, live, then_alive, by_test, looped, shut}
use Rattle.scc_core_spec.specs.Segments.{Segment, Plain, Test, Finish, opens, opened, behind, segment, segments, all_segments}
use Rattle.scc_core_spec.specs.Sizes.{live_body}
use Rattle.scc_core_resolved_laws.specs.Every.{Every, EverySegment}

module _ (P : Left → Pick → Term → Type 0) (T : Term → Type 0) (cs : Cells) where
  abbrev Fit : Code → Type 0
  Fit = Every P T

  fit_append : (c d : Code) → Fit c → Fit d → Fit (append c d)
  fit_append End d f g = g
  fit_append (Put p l k e r) d f g = (f.0, fit_append r d f.1 g)
  fit_append (Aim p to t r) d f g = f
  fit_append (If p t a b r) d f g = (f.0, f.1, f.2, fit_append r d f.3 g)
  fit_append (Block p b r) d f g = (f.0, fit_append r d f.1 g)
  fit_append (Loop p n b r) d f g = (f.0, fit_append r d f.1 g)
  fit_append (Exit p n r) d f g = fit_append r d f g
  fit_append (Wait p l n r) d f g = fit_append r d f g

  fit_then : (e : Bool) (x y : Alive) → Fit x.code → Fit y.code → Fit (then_alive e x y).code
  fit_then true x y f g = fit_append x.code y.code f g
  fit_then false x y f g = f

  fit_if : (g : Option Bool) (p : Place) (t : Term) (x y : Alive) → T t → Fit x.code → Fit y.code → Fit (by_test g p t x y).code
  fit_if (Some true) p t x y e f g = f
  fit_if (Some false) p t x y e f g = g
  fit_if None p t x y e f g = (e, f, g, tt)

  fit_loop : (e : Bool) (p : Place) (n : Option Count) (x : Alive) → Fit x.code → Fit (looped e p n x).code
  fit_loop true p n x f = (f, tt)
  fit_loop false p n x f = f

  pub fit_alive : (c : Code) → Fit c → Fit (live cs c)
  fit_alive End f = tt
  fit_alive (Put p l k e r) f = (f.0, fit_alive r f.1)
  fit_alive (Aim p to t r) f = absurd f
  fit_alive (If p t a b r) f =
      let x = by_test (goes cs t) p t (alive cs a) (alive cs b) in
      fit_then x.ends x (alive cs r) (fit_if (goes cs t) p t (alive cs a) (alive cs b) f.0 (fit_alive a f.1) (fit_alive b f.2)) (fit_alive r f.3)
  fit_alive (Block p b r) f = fit_then (shut p (alive cs b)).ends (shut p (alive cs b)) (alive cs r) (fit_alive b f.0, tt) (fit_alive r f.1)
  fit_alive (Loop p n b r) f = fit_loop (alive cs b).ends p n (alive cs b) (fit_alive b f.0)
  fit_alive (Exit p n r) f = tt
  fit_alive (Wait p l n r) f = fit_alive r f

  fit_numbered : (c : Code) (n : ℕ) → Fit c → Fit (numbered n c)
  fit_numbered End n f = tt
  fit_numbered (Put p l k e r) n f = (f.0, fit_numbered r n f.1)
  fit_numbered (Aim p to t r) n f = f
  fit_numbered (If p t a b r) n f = (f.0, fit_numbered a n f.1, fit_numbered b (n + waits_in a) f.2, fit_numbered r (n + (waits_in a + waits_in b)) f.3)
  fit_numbered (Block p b r) n f = (fit_numbered b n f.0, fit_numbered r (n + waits_in b) f.1)
  fit_numbered (Loop p c b r) n f = (fit_numbered b n f.0, fit_numbered r (n + waits_in b) f.1)
  fit_numbered (Exit p d r) n f = fit_numbered r n f
  fit_numbered (Wait p l c r) n f = fit_numbered r (n + 1) f

  abbrev pub AllFit : List Segment → Type 0
  AllFit [] = Unit {0}
  AllFit (s ∷ ss) = EverySegment P T s × AllFit ss

  fit_both : (xs ys : List Segment) → AllFit xs → AllFit ys → AllFit (xs ++ ys)
  fit_both [] ys f g = g
  fit_both (x ∷ xs) ys f g = (f.0, fit_both xs ys f.1 g)

  fit_opened : (b : Bool) (s u : Segment) → EverySegment P T s → EverySegment P T u → EverySegment P T (opened b s u)
  fit_opened true s u f g = f
  fit_opened false s u f g = g

  fit_behind : (n : ℕ) (ss : List Segment) → AllFit ss → EverySegment P T (behind n ss)
  fit_behind n [] f = tt
  fit_behind zero (s ∷ ss) f = f.0
  fit_behind (suc n) (s ∷ ss) f = fit_behind n ss f.1

  fit_segment : (c : Code) (next : Segment) (outer : List Segment) → Fit c → EverySegment P T next → AllFit outer → EverySegment P T (segment c next outer)
  fit_segment End next outer f g o = g
  fit_segment (Put p l k e r) next outer f g o = ((f.0, tt), fit_segment r next outer f.1 g o)
  fit_segment (Aim p to t r) next outer f g o = absurd f
  fit_segment (If p t a b r) next outer f g o =
      let rest = fit_segment r next outer f.3 g o in
      fit_opened (opens 0 (If p t a b End)) (Test p t (segment a (segment r next outer) outer) (segment b (segment r next outer) outer)) (Plain (If p t a b End) (segment r next outer))
      (f.0, fit_segment a (segment r next outer) outer f.1 rest o, fit_segment b (segment r next outer) outer f.2 rest o) ((f.0, f.1, f.2, tt), rest)
  fit_segment (Block p b r) next outer f g o =
      let rest = fit_segment r next outer f.1 g o in
      fit_opened (opens 0 (Block p b End)) (segment b (segment r next outer) (segment r next outer ∷ outer)) (Plain (Block p b End) (segment r next outer))
      (fit_segment b (segment r next outer) (segment r next outer ∷ outer) f.0 rest (rest, o)) ((f.0, tt), rest)
  fit_segment (Loop p n b r) next outer f g o =
      fit_opened (opens 0 (Loop p n b End)) (segment b Finish outer) (Plain (Loop p n b End) (segment r next outer)) (fit_segment b Finish outer f.0 tt o) ((f.0, tt), fit_segment r next outer f.1 g o)
  fit_segment (Exit p n r) next outer f g o = fit_behind n outer o
  fit_segment (Wait p l n r) next outer f g o = tt

  fit_segments : (c : Code) (next : Segment) (outer : List Segment) → Fit c → EverySegment P T next → AllFit outer → AllFit (segments c next outer)
  fit_segments End next outer f g o = tt
  fit_segments (Put p l k e r) next outer f g o = fit_segments r next outer f.1 g o
  fit_segments (Aim p to t r) next outer f g o = absurd f
  fit_segments (If p t a b r) next outer f g o =
      let rest = fit_segment r next outer f.3 g o in
      fit_both (segments a (segment r next outer) outer) (segments b (segment r next outer) outer ++ segments r next outer) (fit_segments a (segment r next outer) outer f.1 rest o)
      (fit_both (segments b (segment r next outer) outer) (segments r next outer) (fit_segments b (segment r next outer) outer f.2 rest o) (fit_segments r next outer f.3 g o))
  fit_segments (Block p b r) next outer f g o =
      let rest = fit_segment r next outer f.1 g o in
      fit_both (segments b (segment r next outer) (segment r next outer ∷ outer)) (segments r next outer) (fit_segments b (segment r next outer) (segment r next outer ∷ outer) f.0 rest (rest, o)) (fit_segments r next outer f.1 g o)
  fit_segments (Loop p n b r) next outer f g o =
      fit_both (segments b (segment (Loop p n b r) next outer) outer) (segments r next outer) (fit_segments b (segment (Loop p n b r) next outer) outer f.0 (fit_segment (Loop p n b r) next outer f g o) o) (fit_segments r next outer f.1 g o)
  fit_segments (Exit p n r) next outer f g o = fit_segments r next outer f g o
  fit_segments (Wait p l n r) next outer f g o = (fit_segment r next outer f g o, fit_segments r next outer f g o)

  pub fit_all : (c : Code) → Fit c → AllFit (all_segments (live_body cs c))
  fit_all c f =
      let g = fit_numbered (live cs c) 0 (fit_alive c f) in
      (fit_segment (numbered 0 (live cs c)) Finish [] g tt tt, fit_segments (numbered 0 (live cs c)) Finish [] g tt tt)

  pub fit_at : (ss : List Segment) (n : ℕ) (s : Segment) → AllFit ss → slice_get ss n ≡ Some s → EverySegment P T s
  fit_at [] n s f e = absurd cc
  fit_at (x ∷ ss) zero s f e = subst (λ z. EverySegment P T z) (same e) f.0
    where
      same : Some x ≡ Some s → x ≡ s
      same e' = cc
  fit_at (x ∷ ss) (suc n) s f e = fit_at ss n s f.1 e
