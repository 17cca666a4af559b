-- The machine does what code without waits does.
use Rattle.std.proofs.Common.{◌≡◌, ℕ, zero, suc, ◌+◌, ◌≤◌, Bool, true, false, ◌||◌, Option, Some, None, refl, sym, ap, subst, ◌∙◌, arith}
use Rattle.scc_base.specs.declared.refusal.Place.{Place}
use Rattle.scc_semantics.specs.Body.{Body}
use Rattle.scc_semantics.specs.Body as machine
use Rattle.scc_semantics.specs.Value.{Held}
use Rattle.scc_semantics.specs.Machine.{Frames, Go, Mark, Inner, BehindBlock, Next, Outcome, Stuck, unless_stuck, pick, leave}
use Rattle.scc_core_spec.specs.Term.{Term, Left}
use Rattle.scc_core_spec.specs.Code.{Code, Count, Pointed, Declared, Assigned, End, Put, Aim, If, Block, Loop, Exit, Wait, append, size, waits_in, numbered}
use Rattle.scc_core_spec.specs.Static.{goes, is_true}
use Rattle.scc_core_spec.specs.Live.{Alive, alive, live, then_alive, by_test, looped, shut}
use Rattle.scc_core_spec.specs.Segments.{opens}
use Rattle.scc_core_spec.specs.Flow.{idle}
use Rattle.scc_core_spec.specs.Source.{body_of, expr_of, left_of, aimed}
use Rattle.scc_blocks_spec.specs.Comes.{next_waits}
use Rattle.scc_states_path_laws.specs.Moved.{World, Done, Fell, Out, Sticks, then_done, shut_done, or_sticks, either_done, effect_on, put_on, aim_on, word_of}
use Rattle.scc_states_path_laws.specs.Within.{Within, Along, Tests, Chooses}
use Rattle.scc_states_path_laws.proofs.Codes.{MustWait, must_wait-append, or_parts, opens-append, opens-numbered, idle-numbered}
use Rattle.scc_states_path_laws.proofs.Alive.{Among, among, among_if, among_shut, loop_waits}
use Rattle.scc_states_path_laws.proofs.Appended.{does-append}
use Rattle.scc_states_path_laws.proofs.Ways.{Way, way}
use Rattle.scc_states_path_laws.proofs.Steps.{step_of, puts, aims, later, pop, stuck, one}

module _ (w : World) (a : Along w) where
  abbrev pub B : Code → Body
  B = body_of w.home w.cells w.process

  abbrev pub L : Code → Code
  L = live w.cells

  abbrev pub Cut : ℕ → Code → Code
  Cut n c = numbered n (L c)

  -- what has to come behind code that goes out so
  abbrev pub Goes : ℕ → Done → Frames → Outcome → Type 0
  Goes m (Fell h) k o = a.Is k h → Within w m k h o
  Goes m (Out j h) k o = a.Is (leave j k) h → Within w m (leave j k) h o
  Goes m (Sticks h) k o = o ≡ Stuck h

  -- the same where these statements are next, behind a block or not
  abbrev pub Behind : ℕ → Done → Body → Frames → Outcome → Type 0
  Behind m (Fell h) r k o = (mark : Mark) → a.Is (Go mark w.names r k) h → Within w m (Go mark w.names r k) h o
  Behind m (Out j h) r k o = a.Is (leave j k) h → Within w m (leave j k) h o
  Behind m (Sticks h) r k o = o ≡ Stuck h

  pub inner : (m : ℕ) (d : Done) (r : Body) (k : Frames) (o : Outcome) → Behind m d r k o → Goes m d (Go Inner w.names r k) o
  inner m (Fell h) r k o q = q Inner
  inner m (Out j h) r k o q = q
  inner m (Sticks h) r k o q = q

  pub block : (m : ℕ) (d : Done) (r : Body) (k : Frames) (o : Outcome) → Behind m (shut_done d (λ h. Fell h)) r k o → Goes m d (Go BehindBlock w.names r k) o
  block m (Fell h) r k o q = q BehindBlock
  block m (Out zero h) r k o q = q Inner
  block m (Out (suc j) h) r k o q = q
  block m (Sticks h) r k o q = q

  pub fell : (m : ℕ) (d : Done) (r : Body) (k : Frames) (o : Outcome) → Behind m (then_done d (λ h. Fell h)) r k o → Behind m d r k o
  fell m (Fell h) r k o q = q
  fell m (Out j h) r k o q = q
  fell m (Sticks h) r k o q = q

  -- a statement that puts or aims, or sticks
  pub leaf : (f f' : Frames) (h : Held) (x : Option Held) (d : Held → Done) (k : Frames) (m s : ℕ) (o : Outcome) → ((next : Next) → step_of w next f h ≡ unless_stuck h x (next f'))
      → next_waits f ≡ false → a.Is f h → ((h' : Held) → a.Is f' h' → Goes m (d h') k o → Within w s f' h' o) → Goes m (or_sticks h x d) k o → Within w (1 + s) f h o
  leaf f f' h None d k m s o st free is ih q = subst (λ o'. Within w (1 + s) f h o') (sym q) (stuck w (1 + s) f h (omega arith) st)
  leaf f f' h (Some h') d k m s o st free is ih q = one w a s (1 + s) f f' h h' o (omega arith) free st is (λ is'. ih h' is' q)

  -- a test
  pub test : (f : Frames) (f' : ℕ → Frames) (h : Held) (x : Option ℕ) (d : ℕ → Done) (r : Body) (k : Frames) (m s : ℕ) (o : Outcome) → ((next : Next) → step_of w next f h ≡ unless_stuck h x (λ v. next (f' v) h))
      → next_waits f ≡ false → a.Is f h → ((v : ℕ) → a.Is (f' v) h → Behind m (d v) r k o → Within w s (f' v) h o) → Behind m (or_sticks h x d) r k o → Within w (1 + s) f h o
  test f f' h None d r k m s o st free is ih q = subst (λ o'. Within w (1 + s) f h o') (sym q) (stuck w (1 + s) f h (omega arith) st)
  test f f' h (Some v) d r k m s o st free is ih q = one w a s (1 + s) f (f' v) h h o (omega arith) free st is (λ is'. ih v is' q)

  pub picked : (v : ℕ) (x y r : Body) (k : Frames) (h : Held) (dx dy : Done) (m s sx sy : ℕ) (o : Outcome) → sx ≤ s → sy ≤ s
      → (a.Is (Go Inner w.names x (Go Inner w.names r k)) h → Goes m dx (Go Inner w.names r k) o → Within w sx (Go Inner w.names x (Go Inner w.names r k)) h o)
      → (a.Is (Go Inner w.names y (Go Inner w.names r k)) h → Goes m dy (Go Inner w.names r k) o → Within w sy (Go Inner w.names y (Go Inner w.names r k)) h o)
      → a.Is (Go Inner w.names (pick v x y) (Go Inner w.names r k)) h → Behind m (then_done (either_done v dx dy) (λ h. Fell h)) r k o
      → Within w s (Go Inner w.names (pick v x y) (Go Inner w.names r k)) h o
  picked zero x y r k h dx dy m s sx sy o lx ly ix iy is q = later w sy s _ h o ly (iy is (inner m dy r k o (fell m dy r k o q)))
  picked (suc v) x y r k h dx dy m s sx sy o lx ly ix iy is q = later w sx s _ h o lx (ix is (inner m dx r k o (fell m dx r k o q)))

  -- a condition that is static chooses
  pub chosen : (y : Bool) (t : Term) (x z r : Body) (mark : Mark) (k : Frames) (h : Held) (s : ℕ) (o : Outcome) → Chooses w a.Holds t → goes w.cells t ≡ Some y
      → a.Is (Go mark w.names (machine.If (expr_of w.home w.cells w.process t) x z r) k) h
      → ((v : ℕ) → is_true v ≡ y → a.Is (Go Inner w.names (pick v x z) (Go Inner w.names r k)) h → Within w s (Go Inner w.names (pick v x z) (Go Inner w.names r k)) h o)
      → Within w (1 + s) (Go mark w.names (machine.If (expr_of w.home w.cells w.process t) x z r) k) h o
  chosen y t x z r mark k h s o ch e is ih =
      let c = ch h (a.holds _ h is) y e in
      one w a s (1 + s) _ (Go Inner w.names (pick c.0 x z) (Go Inner w.names r k)) h h o (omega arith) refl
      (λ next. ap (λ u. unless_stuck h u (λ v. next (Go Inner w.names (pick v x z) (Go Inner w.names r k)) h)) c.1) is (λ is'. ih c.0 c.2 is')

  -- what comes behind the first statement of a list comes to what comes behind the list
  pub seq_does : (x : Alive) (e : Bool) (r : Code) (d n : ℕ) (k : Frames) (h : Held) (m : ℕ) (o : Outcome) → x.ends ≡ e → Among x
      → MustWait (then_alive e x (alive w.cells r)).code → opens d (numbered n (then_alive e x (alive w.cells r)).code) ≡ false
      → ((n' : ℕ) (mark : Mark) (h' : Held) → MustWait (L r) → opens d (Cut n' r) ≡ false → a.Is (Go mark w.names (B r) k) h' → Goes m (effect_on w (Cut n' r) h') k o → Within w (size r + m) (Go mark w.names (B r) k) h' o)
      → Goes m (effect_on w (numbered n (then_alive e x (alive w.cells r)).code) h) k o
      → (opens d (numbered n x.code) ≡ false) × MustWait x.code × Behind (size r + m) (effect_on w (numbered n x.code) h) (B r) k o
  seq_does x true r d n k h m o is am must op ih q =
      let op' = opens-append x.code (L r) d (sym (opens-numbered (append x.code (L r)) d n) ∙ op) in
      let must' = must_wait-append x.code (L r) must in
      let opr = opens-numbered (L r) d (n + waits_in x.code) ∙ op'.1 in
      (opens-numbered x.code d n ∙ op'.0, must'.0, by (effect_on w (numbered n x.code) h) (λ mark h' is' q'. ih (n + waits_in x.code) mark h' must'.1 opr is' q') (subst (λ z. Goes m z k o) (does-append w x.code (L r) n h) q))
    where
      by : (z : Done) → ((mark : Mark) (h' : Held) → a.Is (Go mark w.names (B r) k) h' → Goes m (effect_on w (Cut (n + waits_in x.code) r) h') k o → Within w (size r + m) (Go mark w.names (B r) k) h' o)
          → Goes m (then_done z (effect_on w (Cut (n + waits_in x.code) r))) k o → Behind (size r + m) z (B r) k o
      by (Fell h') jh q' = λ mark is'. jh mark h' is' q'
      by (Out j h') jh q' = λ is'. later w m (size r + m) _ h' o (omega arith) (q' is')
      by (Sticks h') jh q' = q'
  seq_does x false r d n k h m o is am must op ih q = (op, must, by (effect_on w (numbered n x.code) h) (way w (numbered n x.code) d h op) q)
    where
      by : (z : Done) → Way d (idle (numbered n x.code)) z → Goes m z k o → Behind (size r + m) z (B r) k o
      by (Fell h') p q' = let never = am.ends (subst (λ z. z.ends ≡ true) (idle-numbered x.code n) p) in absurd cc
      by (Out j h') p q' = λ is'. later w m (size r + m) _ h' o (omega arith) (q' is')
      by (Sticks h') p q' = q'

  does_if : (p : Place) (t : Term) (x z r : Code) (g : Option Bool) (d n : ℕ) (mark : Mark) (k : Frames) (h : Held) (m : ℕ) (o : Outcome) → Chooses w a.Holds t → goes w.cells t ≡ g
      → MustWait (by_test g p t (alive w.cells x) (alive w.cells z)).code → opens d (numbered n (by_test g p t (alive w.cells x) (alive w.cells z)).code) ≡ false
      → a.Is (Go mark w.names (B (If p t x z r)) k) h
      → ((n' : ℕ) → MustWait (L x) → opens d (Cut n' x) ≡ false → a.Is (Go Inner w.names (B x) (Go Inner w.names (B r) k)) h → Goes m (effect_on w (Cut n' x) h) (Go Inner w.names (B r) k) o → Within w (size x + m) (Go Inner w.names (B x) (Go Inner w.names (B r) k)) h o)
      → ((n' : ℕ) → MustWait (L z) → opens d (Cut n' z) ≡ false → a.Is (Go Inner w.names (B z) (Go Inner w.names (B r) k)) h → Goes m (effect_on w (Cut n' z) h) (Go Inner w.names (B r) k) o → Within w (size z + m) (Go Inner w.names (B z) (Go Inner w.names (B r) k)) h o)
      → Behind m (effect_on w (numbered n (by_test g p t (alive w.cells x) (alive w.cells z)).code) h) (B r) k o
      → Within w (1 + (size x + (size z + m))) (Go mark w.names (B (If p t x z r)) k) h o
  does_if p t x z r (Some true) d n mark k h m o ch e must op is ix iz q =
      chosen true t (B x) (B z) (B r) mark k h _ o ch e is (λ v. by v)
    where
      by : (v : ℕ) → is_true v ≡ true → a.Is (Go Inner w.names (pick v (B x) (B z)) (Go Inner w.names (B r) k)) h → Within w (size x + (size z + m)) (Go Inner w.names (pick v (B x) (B z)) (Go Inner w.names (B r) k)) h o
      by zero f is' = absurd cc
      by (suc v) f is' = later w (size x + m) _ _ h o (omega arith) (ix n must op is' (inner m _ (B r) k o q))
  does_if p t x z r (Some false) d n mark k h m o ch e must op is ix iz q =
      chosen false t (B x) (B z) (B r) mark k h _ o ch e is (λ v. by v)
    where
      by : (v : ℕ) → is_true v ≡ false → a.Is (Go Inner w.names (pick v (B x) (B z)) (Go Inner w.names (B r) k)) h → Within w (size x + (size z + m)) (Go Inner w.names (pick v (B x) (B z)) (Go Inner w.names (B r) k)) h o
      by zero f is' = later w (size z + m) _ _ h o (omega arith) (iz n must op is' (inner m _ (B r) k o q))
      by (suc v) f is' = absurd cc
  does_if p t x z r None d n mark k h m o ch e must op is ix iz q =
      let ox = or_parts (opens d (Cut n x)) (opens d (Cut (n + waits_in (L x)) z) || false) op in
      let oz = or_parts (opens d (Cut (n + waits_in (L x)) z)) false ox.1 in
      test (Go mark w.names (B (If p t x z r)) k) (λ v. Go Inner w.names (pick v (B x) (B z)) (Go Inner w.names (B r) k)) h (word_of w t h)
      (λ v. then_done (either_done v (effect_on w (Cut n x) h) (effect_on w (Cut (n + waits_in (L x)) z) h)) (λ h'. Fell h')) (B r) k m (size x + (size z + m)) o (λ next. refl) refl is
      (λ v is' q'. picked v (B x) (B z) (B r) k h (effect_on w (Cut n x) h) (effect_on w (Cut (n + waits_in (L x)) z) h) m (size x + (size z + m)) (size x + m) (size z + m) o (omega arith) (omega arith) (ix n must.0 ox.0) (iz (n + waits_in (L x)) must.1 oz.0) is' q') q

  does_loop : (p : Place) (c : Option Count) (b r : Code) (e : Bool) (d n : ℕ) (mark : Mark) (k : Frames) (h : Held) (m : ℕ) (o : Outcome) → (alive w.cells b).ends ≡ e
      → MustWait (looped e p c (alive w.cells b)).code → opens d (numbered n (looped e p c (alive w.cells b)).code) ≡ false
      → a.Is (Go mark w.names (B (Loop p c b r)) k) h
      → (MustWait (L b) → opens d (Cut n b) ≡ false → a.Is (Go Inner w.names (B b) (Go Inner w.names (B (Loop p c b r)) k)) h → Goes m (effect_on w (Cut n b) h) (Go Inner w.names (B (Loop p c b r)) k) o → Within w (size b + m) (Go Inner w.names (B b) (Go Inner w.names (B (Loop p c b r)) k)) h o)
      → Goes m (effect_on w (numbered n (looped e p c (alive w.cells b)).code) h) k o
      → Within w (1 + (size b + m)) (Go mark w.names (B (Loop p c b r)) k) h o
  does_loop p c b r true d n mark k h m o is must op at ib q =
      absurd (loop_waits w.cells b d is must.0 (sym (opens-numbered (L b) d n) ∙ (or_parts (opens d (Cut n b)) false op).0))
  does_loop p c b r false d n mark k h m o is must op at ib q =
      one w a (size b + m) _ _ (Go Inner w.names (B b) (Go Inner w.names (B (Loop p c b r)) k)) h h o (omega arith) refl (λ next. refl) at
      (λ at'. ib must op at' (by (effect_on w (Cut n b) h) (way w (Cut n b) d h op) q))
    where
      by : (z : Done) → Way d (idle (Cut n b)) z → Goes m z k o → Goes m z (Go Inner w.names (B (Loop p c b r)) k) o
      by (Fell h') y q' = let never = (among w.cells b).ends (subst (λ z. z.ends ≡ true) (idle-numbered (L b) n) y) in absurd cc
      by (Out j h') y q' = q'
      by (Sticks h') y q' = q'

  pub aim_free : (to : Pointed) (t : Left) (r : Body) (mark : Mark) (k : Frames) → next_waits (Go mark w.names (aimed w.home w.cells w.process to (left_of w.home w.cells w.process t) r) k) ≡ false
  aim_free (Declared n) t r mark k = refl
  aim_free (Assigned l) t r mark k = refl

  -- The machine, on a list of a body whose live part has no wait and leaves no open block, does what the live part does.
  pub does : (c : Code) → Tests w a.Holds c → (d n : ℕ) (mark : Mark) (k : Frames) (h : Held) (m : ℕ) (o : Outcome) → MustWait (L c) → opens d (Cut n c) ≡ false
      → a.Is (Go mark w.names (B c) k) h → Goes m (effect_on w (Cut n c) h) k o → Within w (size c + m) (Go mark w.names (B c) k) h o
  does End ts d n mark k h m o must op is q = later w m _ _ h o (omega arith) (pop w m mark k h o (q (a.ends mark k h is)))
  does (Put p l e v r) ts d n mark k h m o must op is q = later w (1 + (size r + m)) _ _ h o (omega arith) (
      leaf (Go mark w.names (B (Put p l e v r)) k) (Go Inner w.names (B r) k) h (put_on w l e v h) (effect_on w (Cut n r)) k m (size r + m) o
      (λ next. puts w next mark l e v (B r) k h) refl is (λ h' is' q'. does r ts d n Inner k h' m o must op is' q') q)
  does (Aim p to t r) ts d n mark k h m o must op is q = later w (1 + (size r + m)) _ _ h o (omega arith) (
      leaf (Go mark w.names (B (Aim p to t r)) k) (Go Inner w.names (B r) k) h (aim_on w to t h) (effect_on w (Cut n r)) k m (size r + m) o
      (λ next. aims w next mark to t (B r) k h) (aim_free to t (B r) mark k) is (λ h' is' q'. does r ts d n Inner k h' m o must op is' q') q)
  does (If p t x z r) ts d n mark k h m o must op is q =
      let g = goes w.cells t in
      let u = by_test g p t (alive w.cells x) (alive w.cells z) in
      let s = seq_does u u.ends r d n k h m o refl (among_if g p t (alive w.cells x) (alive w.cells z) (among w.cells x) (among w.cells z)) must op (λ n' mark' h' mr opr is' q'. does r ts.3 d n' mark' k h' m o mr opr is' q') q in
      later w _ _ _ h o (omega arith) (does_if p t x z r g d n mark k h (size r + m) o ts.0 refl s.1 s.0 is
      (λ n' mx opx is' q'. does x ts.1 d n' Inner (Go Inner w.names (B r) k) h (size r + m) o mx opx is' q')
      (λ n' mz opz is' q'. does z ts.2 d n' Inner (Go Inner w.names (B r) k) h (size r + m) o mz opz is' q') s.2)
  does (Block p b r) ts d n mark k h m o must op is q =
      let x = shut p (alive w.cells b) in
      let s = seq_does x x.ends r d n k h m o refl (among_shut p (alive w.cells b) (among w.cells b)) must op (λ n' mark' h' mr opr is' q'. does r ts.1 d n' mark' k h' m o mr opr is' q') q in
      one w a (size b + (size r + m)) _ _ (Go Inner w.names (B b) (Go BehindBlock w.names (B r) k)) h h o (omega arith) refl (λ next. refl) is
      (λ is'. does b ts.0 (suc d) n Inner (Go BehindBlock w.names (B r) k) h (size r + m) o s.1.0 (or_parts (opens (suc d) (Cut n b)) false s.0).0 is' (block (size r + m) (effect_on w (Cut n b) h) (B r) k o s.2))
  does (Loop p c b r) ts d n mark k h m o must op is q = later w (1 + (size b + m)) _ _ h o (omega arith) (
      does_loop p c b r (alive w.cells b).ends d n mark k h m o refl must op is (λ mb opb is' q'. does b ts.0 d n Inner (Go Inner w.names (B (Loop p c b r)) k) h m o mb opb is' q') q)
  does (Exit p j r) ts d n mark k h m o must op is q = one w a m _ _ (leave j k) h h o (omega arith) refl (λ next. refl) is q
  does (Wait p l c r) ts d n mark k h m o must op is q = absurd cc
