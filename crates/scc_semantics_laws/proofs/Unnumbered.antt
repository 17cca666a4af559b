-- The numbers of waits don't show: a design with every wait numbered 0 means the same.
use Rattle.std.proofs.Common.{◌≡◌, ℕ, zero, suc, ◌+◌, List, [], ◌∷◌, Bool, true, false, map, Option, Some, None, refl, sym, ap, ◌∙◌, subst, one-mul, if◌then◌else◌}
use Rattle.scc_semantics.specs.Location.{Location}
use Rattle.scc_semantics.specs.Places.{Places}
use Rattle.scc_semantics.specs.Expressions.{Expr, Argument, Value, Place}
use Rattle.scc_semantics.specs.Store.{changed}
use Rattle.scc_semantics.specs.Scene.{Names, Scene, followed}
use Rattle.scc_semantics.specs.Body.{Body, End, Assign, Point, Clear, If, Block, Loop, Exit, Call, Begin, Pass, Return, Wait}
use Rattle.scc_semantics.specs.Design.{Process, Design}
use Rattle.scc_semantics.specs.Value.{Held, locate, value, target_of, with_words, with_targets, put_at, local, answer, called, object_of}
use Rattle.scc_semantics.specs.Machine.{Inner, BehindBlock, BehindCall, Frames, Stop, Go, Outcome, Suspended, Ended, Stuck, Unfinished, Next, leave, return, caller, pick, one_less, waiting, unless_stuck, pointed_at, cleared, scene, passed, returned, act, idle, run}
use Rattle.scc_semantics.specs.Process.{first_frames}
use Rattle.scc_semantics.specs.Same.{Turn, Seen, Middle, seen_of, leading, left_in, resumed, AllTheSame, SameDesign}
use Rattle.scc_semantics_laws.specs.Words.{unnumbered, unnumbered_frames, unnumbered_left, unnumbered_process, unnumbered_design}
use Rattle.scc_semantics_laws.proofs.Means.{Similar, means-by}

u-leave : (n : ℕ) (k : Frames) → leave n (unnumbered_frames k) ≡ unnumbered_frames (leave n k)
u-leave n Stop = refl
u-leave n (Go Inner m b k) = u-leave n k
u-leave zero (Go BehindBlock m b k) = refl
u-leave (suc n) (Go BehindBlock m b k) = u-leave n k
u-leave n (Go BehindCall m b k) = refl

u-return : (k : Frames) → return (unnumbered_frames k) ≡ unnumbered_frames (return k)
u-return Stop = refl
u-return (Go Inner m b k) = u-return k
u-return (Go BehindBlock m b k) = u-return k
u-return (Go BehindCall m b k) = refl

u-caller : (k : Frames) (m : Names) → caller (unnumbered_frames k) m ≡ caller k m
u-caller Stop m = refl
u-caller (Go Inner n b k) m = u-caller k m
u-caller (Go BehindBlock n b k) m = u-caller k m
u-caller (Go BehindCall n b k) m = refl

u-pick : (x : ℕ) (a b : Body) → pick x (unnumbered a) (unnumbered b) ≡ unnumbered (pick x a b)
u-pick zero a b = refl
u-pick (suc x) a b = refl

u-waiting : (number n : ℕ) (m : Names) (r : Body) (k : Frames) → waiting 0 n (Go Inner m (unnumbered r) (unnumbered_frames k)) ≡ unnumbered_frames (waiting number n (Go Inner m r k))
u-waiting number zero m r k = refl
u-waiting number (suc n) m r k = refl

module _ (places : Places) (functions : ℕ → Body) (signals : Location → ℕ) where
  abbrev bare : ℕ → Body
  bare f = unnumbered (functions f)

  abbrev sc : Names → Held → Scene
  sc = scene places functions signals

  abbrev Same : Next → Next → Type 0
  Same next more = (g : Frames) (h : Held) → more (unnumbered_frames g) h ≡ unnumbered_left (next g h)

  unless-same : {A : Type 0} (h : Held) (o : Option A) (f g : A → Outcome) → ((x : A) → g x ≡ unnumbered_left (f x)) → unless_stuck h o g ≡ unnumbered_left (unless_stuck h o f)
  unless-same h None f g l = refl
  unless-same h (Some x) f g l = l x

  passed-same : (to from : Names) (d : ℕ) (a : Argument) (h : Held) (f g : Held → Outcome) → ((x : Held) → g x ≡ unnumbered_left (f x)) → passed places bare signals to from d a h g ≡ unnumbered_left (passed places functions signals to from d a h f)
  passed-same to from d (Value e) h f g l = unless-same h (value (sc from h) e) (λ x. f (with_words h (changed (local to d) x h.store.words))) (λ x. g (with_words h (changed (local to d) x h.store.words))) (λ x. l (with_words h (changed (local to d) x h.store.words)))
  passed-same to from d (Place t) h f g l = unless-same h (target_of (sc from h) t) (λ x. f (with_targets h (changed (local to d) x h.store.targets))) (λ x. g (with_targets h (changed (local to d) x h.store.targets))) (λ x. l (with_targets h (changed (local to d) x h.store.targets)))

  returned-same : (m : Names) (e : Option Expr) (h : Held) (f g : Held → Outcome) → ((x : Held) → g x ≡ unnumbered_left (f x)) → returned places bare signals m e h g ≡ unnumbered_left (returned places functions signals m e h f)
  returned-same m None h f g l = l h
  returned-same m (Some e) h f g l = unless-same h (value (sc m h) e) (λ x. f (with_words h (changed (answer m) x h.store.words))) (λ x. g (with_words h (changed (answer m) x h.store.words))) (λ x. l (with_words h (changed (answer m) x h.store.words)))

  act-same : (next more : Next) → Same next more → Same (act places functions signals next) (act places bare signals more)
  act-same next more l Stop h = refl
  act-same next more l (Go mark m End k) h = act-same next more l k h
  act-same next more l (Go mark m (Assign left p e r) k) h =
      let put : Next → Frames → ℕ → Location → Outcome = λ f g x y. unless_stuck h (put_at (places.things y) (sc m h) h y p x) (f g) in
      let at : Next → Frames → ℕ → Outcome = λ f g x. unless_stuck h (followed (locate (sc m h) left)) (put f g x) in
      let g = Go Inner m r k in
      unless-same h (value (sc m h) e) (at next g) (at more (unnumbered_frames g)) (λ x. unless-same h (followed (locate (sc m h) left)) (put next g x) (put more (unnumbered_frames g) x) (λ y.
      unless-same h (put_at (places.things y) (sc m h) h y p x) (next g) (more (unnumbered_frames g)) (l g)))
  act-same next more l (Go mark m (Point declares left t r) k) h =
      let put : Next → Frames → Option Location → Location → Outcome = λ f g x y. f g (pointed_at (places.pointers y) h y x) in
      let at : Next → Frames → Option Location → Outcome = λ f g x. unless_stuck h (followed (locate (sc m h) left)) (put f g x) in
      let g = Go Inner m r k in
      unless-same h (target_of (sc m h) t) (at next g) (at more (unnumbered_frames g)) (λ x. unless-same h (followed (locate (sc m h) left)) (put next g x) (put more (unnumbered_frames g) x) (λ y.
      l g (pointed_at (places.pointers y) h y x)))
  act-same next more l (Go mark m (Clear left r) k) h =
      let put : Next → Frames → Location → Outcome = λ f g y. f g (cleared places h y) in
      unless-same h (followed (locate (sc m h) left)) (put next (Go Inner m r k)) (put more (unnumbered_frames (Go Inner m r k))) (λ y. l (Go Inner m r k) (cleared places h y))
  act-same next more l (Go mark m (If t a b r) k) h =
      let k' = Go Inner m (unnumbered r) (unnumbered_frames k) in
      unless-same h (value (sc m h) t) (λ x. next (Go Inner m (pick x a b) (Go Inner m r k)) h) (λ x. more (Go Inner m (pick x (unnumbered a) (unnumbered b)) k') h) (λ x.
      ap (λ c. more (Go Inner m c k') h) (u-pick x a b) ∙ l (Go Inner m (pick x a b) (Go Inner m r k)) h)
  act-same next more l (Go mark m (Block b r) k) h = l (Go Inner m b (Go BehindBlock m r k)) h
  act-same next more l (Go mark m (Loop b r) k) h = l (Go Inner m b (Go Inner m (Loop b r) k)) h
  act-same next more l (Go mark m (Exit n r) k) h = ap (λ g. more g h) (u-leave n k) ∙ l (leave n k) h
  act-same next more l (Go mark m (Call number object enter function r) k) h =
      let inside : Option Location → Frames = λ o. Go Inner (called m number o) enter (Go Inner (called m number o) (functions function) (Go BehindCall m r k)) in
      unless-same h (object_of (sc m h) object) (λ o. next (inside o) h) (λ o. more (unnumbered_frames (inside o)) h) (λ o. l (inside o) h)
  act-same next more l (Go mark m (Begin r) k) h = l (Go Inner m r k) (with_words h (changed (answer m) 0 h.store.words))
  act-same next more l (Go mark m (Pass d a r) k) h =
      ap (λ c. passed places bare signals m c d a h (more (unnumbered_frames (Go Inner m r k)))) (u-caller k m)
      ∙ passed-same m (caller k m) d a h (next (Go Inner m r k)) (more (unnumbered_frames (Go Inner m r k))) (l (Go Inner m r k))
  act-same next more l (Go mark m (Return e r) k) h =
      ap (λ g. returned places bare signals m e h (more g)) (u-return k) ∙ returned-same m e h (next (return k)) (more (unnumbered_frames (return k))) (l (return k))
  act-same next more l (Go mark m (Wait number count r) k) h = ap (λ f. Suspended f h) (u-waiting number (one_less count) m r k)

  idle-same : Same (idle places functions signals) (idle places bare signals)
  idle-same Stop h = refl
  idle-same (Go mark m End k) h = idle-same k h
  idle-same (Go mark m (Assign left p e r) k) h = refl
  idle-same (Go mark m (Point declares left t r) k) h = refl
  idle-same (Go mark m (Clear left r) k) h = refl
  idle-same (Go mark m (If t a b r) k) h = refl
  idle-same (Go mark m (Block b r) k) h = refl
  idle-same (Go mark m (Loop b r) k) h = refl
  idle-same (Go mark m (Exit n r) k) h = refl
  idle-same (Go mark m (Call number object enter function r) k) h = refl
  idle-same (Go mark m (Begin r) k) h = refl
  idle-same (Go mark m (Pass d a r) k) h = refl
  idle-same (Go mark m (Return e r) k) h = refl
  idle-same (Go mark m (Wait number count r) k) h = refl

  run-same : (n : ℕ) → Same (run places functions signals n) (run places bare signals n)
  run-same zero g h = idle-same g h
  run-same (suc n) g h = act-same (run places functions signals n) (run places bare signals n) (run-same n) g h

module _ (d : Design) (i : ℕ) (p : Process) where
  -- where it stands but for the numbers
  abbrev Twins : Middle → Middle → Type 0
  Twins m n = record { frames = unnumbered_frames m.frames; targets = m.targets } ≡ n

  twin-resumed : (n : ℕ) (t : Turn) (m : Middle) → resumed (unnumbered_design d) i (unnumbered_process p) n t (record { frames = unnumbered_frames m.frames; targets = m.targets }) ≡ unnumbered_left (resumed d i p n t m)
  twin-resumed n t m =
      let h : Held = record { store = record { words = t.words; targets = leading i t m }; requests = [] } in
      ap (λ f. run d.places (bare d.places d.functions t.signals) t.signals n f h) (by t.restarts) ∙ run-same d.places d.functions t.signals n (if t.restarts then first_frames i p else m.frames) h
    where
      by : (b : Bool) → (if b then first_frames i (unnumbered_process p) else unnumbered_frames m.frames) ≡ unnumbered_frames (if b then first_frames i p else m.frames)
      by true = refl
      by false = refl

  seen-same : (before : Location → Option Location) (o : Outcome) → seen_of i before (unnumbered_left o) ≡ seen_of i before o
  seen-same before (Suspended f h) = refl
  seen-same before (Ended h) = refl
  seen-same before (Stuck h) = refl
  seen-same before Unfinished = refl

  left-same : (o : Outcome) (m : Middle) → Twins (left_in o m) (left_in (unnumbered_left o) (record { frames = unnumbered_frames m.frames; targets = m.targets }))
  left-same (Suspended f h) m = refl
  left-same (Ended h) m = refl
  left-same (Stuck h) m = refl
  left-same Unfinished m = refl

  abbrev twin : Middle → Middle
  twin m = record { frames = unnumbered_frames m.frames; targets = m.targets }

  step-same : (c : ℕ) (t : Turn) (m : Middle) (o : Seen) → (seen_of i (leading i t m) (resumed d i p c t m) ≡ Some o)
      → (seen_of i (leading i t m) (resumed (unnumbered_design d) i (unnumbered_process p) c t (twin m)) ≡ Some o)
      × Twins (left_in (resumed d i p c t m) m) (left_in (resumed (unnumbered_design d) i (unnumbered_process p) c t (twin m)) (twin m))
  step-same c t m o seen = (
    ap (seen_of i (leading i t m)) (twin-resumed c t m) ∙ seen-same (leading i t m) (resumed d i p c t m) ∙ seen,
    left-same (resumed d i p c t m) m ∙ ap (λ r. left_in r (twin m)) (sym (twin-resumed c t m)),
  )

  step-back : (c : ℕ) (t : Turn) (m : Middle) (o : Seen) → (seen_of i (leading i t m) (resumed (unnumbered_design d) i (unnumbered_process p) c t (twin m)) ≡ Some o)
      → (seen_of i (leading i t m) (resumed d i p c t m) ≡ Some o)
  step-back c t m o seen = sym (ap (seen_of i (leading i t m)) (twin-resumed c t m) ∙ seen-same (leading i t m) (resumed d i p c t m)) ∙ seen

  twins : Similar 1 d (unnumbered_design d) i p (unnumbered_process p) Twins
  twins = record {
    first = refl;
    fast = λ m n r t words signals c o seen. subst (λ n. (b : ℕ) × (seen_of i (leading i t n) (resumed (unnumbered_design d) i (unnumbered_process p) b t n) ≡ Some o)
        × Twins (left_in (resumed d i p c t m) m) (left_in (resumed (unnumbered_design d) i (unnumbered_process p) b t n) n)) r
        (let s = step-same c t m o seen in (c, s.0, s.1));
    slow = λ m n r t words signals c o seen. subst (λ b. (seen_of i (leading i t m) (resumed d i p b t m) ≡ Some o)
        × Twins (left_in (resumed d i p b t m) m) (left_in (resumed (unnumbered_design d) i (unnumbered_process p) c t n) n)) (sym (one-mul c))
        (by m n r c t o seen);
  }
    where
      by : (m n : Middle) → Twins m n → (c : ℕ) (t : Turn) (o : Seen) → seen_of i (leading i t n) (resumed (unnumbered_design d) i (unnumbered_process p) c t n) ≡ Some o
          → (seen_of i (leading i t m) (resumed d i p c t m) ≡ Some o) × Twins (left_in (resumed d i p c t m) m) (left_in (resumed (unnumbered_design d) i (unnumbered_process p) c t n) n)
      by m n r c t o seen = subst (λ n. seen_of i (leading i t n) (resumed (unnumbered_design d) i (unnumbered_process p) c t n) ≡ Some o
          → (seen_of i (leading i t m) (resumed d i p c t m) ≡ Some o) × Twins (left_in (resumed d i p c t m) m) (left_in (resumed (unnumbered_design d) i (unnumbered_process p) c t n) n)) r
          (λ seen. let s = step-back c t m o seen in (s, (step-same c t m o s).1)) seen

all-unnumbered : (d : Design) (i : ℕ) (ps : List Process) → AllTheSame 1 d (unnumbered_design d) i ps (map unnumbered_process ps)
all-unnumbered d i [] = tt
all-unnumbered d i (p ∷ ps) = (refl, means-by 1 d (unnumbered_design d) i p (unnumbered_process p) (Twins d i p) (twins d i p), all-unnumbered d (i + 1) ps)

pub same-unnumbered : (d : Design) → SameDesign 1 d (unnumbered_design d)
same-unnumbered d = record { things = λ l. refl; ports = refl; fixed = λ l. refl; constants = λ l. refl; processes = all-unnumbered d 0 d.processes }
