-- A resume that is over comes to the same with more statements allowed.
use Rattle.std.proofs.Common.{◌≡◌, ℕ, zero, suc, ◌+◌, ◌≤◌, Option, Some, None, refl, sym, ◌∙◌, arith}
use Rattle.scc_semantics.specs.Location.{Location}
use Rattle.scc_semantics.specs.Places.{Places}
use Rattle.scc_semantics.specs.Expressions.{Expr, Argument, Value, Place}
use Rattle.scc_semantics.specs.Store.{changed}
use Rattle.scc_semantics.specs.Scene.{Names, Scene, followed}
use Rattle.scc_semantics.specs.Body.{Body, End, Assign, Point, Clear, If, Block, Loop, Exit, Call, Begin, Pass, Return, Wait}
use Rattle.scc_semantics.specs.Value.{Held, locate, value, target_of, with_words, with_targets, put_at, local, answer, called, object_of}
use Rattle.scc_semantics_laws.specs.Words.{IsOver}
use Rattle.scc_semantics.specs.Machine.{Inner, BehindBlock, BehindCall, Frames, Stop, Go, Outcome, Next, leave, return, caller, pick, unless_stuck, pointed_at, cleared, scene, passed, returned, act, idle, run}

module _ (places : Places) (functions : ℕ → Body) (signals : Location → ℕ) where
  abbrev sc : Names → Held → Scene
  sc = scene places functions signals

  abbrev Later : Next → Next → Type 0
  Later next more = (g : Frames) (h : Held) → IsOver (next g h) → more g h ≡ next g h

  unless-later : {A : Type 0} (h : Held) (o : Option A) (f g : A → Outcome) → ((x : A) → IsOver (f x) → g x ≡ f x) → IsOver (unless_stuck h o f) → unless_stuck h o g ≡ unless_stuck h o f
  unless-later h None f g l v = refl
  unless-later h (Some x) f g l v = l x v

  passed-later : (from to : Names) (d : ℕ) (a : Argument) (h : Held) (f g : Held → Outcome) → ((x : Held) → IsOver (f x) → g x ≡ f x)
      → IsOver (passed places functions signals to from d a h f) → passed places functions signals to from d a h g ≡ passed places functions signals to from d a h f
  passed-later from to d (Value e) h f g l v = unless-later h (value (sc from h) e) (λ x. f (with_words h (changed (local to d) x h.store.words))) (λ x. g (with_words h (changed (local to d) x h.store.words))) (λ x. l (with_words h (changed (local to d) x h.store.words))) v
  passed-later from to d (Place t) h f g l v = unless-later h (target_of (sc from h) t) (λ x. f (with_targets h (changed (local to d) x h.store.targets))) (λ x. g (with_targets h (changed (local to d) x h.store.targets))) (λ x. l (with_targets h (changed (local to d) x h.store.targets))) v

  returned-later : (m : Names) (e : Option Expr) (h : Held) (f g : Held → Outcome) → ((x : Held) → IsOver (f x) → g x ≡ f x)
      → IsOver (returned places functions signals m e h f) → returned places functions signals m e h g ≡ returned places functions signals m e h f
  returned-later m None h f g l v = l h v
  returned-later m (Some e) h f g l v = unless-later h (value (sc m h) e) (λ x. f (with_words h (changed (answer m) x h.store.words))) (λ x. g (with_words h (changed (answer m) x h.store.words))) (λ x. l (with_words h (changed (answer m) x h.store.words))) v

  act-later : (next more : Next) → Later next more → (f : Frames) (h : Held) → IsOver (act places functions signals next f h) → act places functions signals more f h ≡ act places functions signals next f h
  act-later next more l Stop h v = refl
  act-later next more l (Go mark m End k) h v = act-later next more l k h v
  act-later next more l (Go mark m (Assign left p e r) k) h v =
      let put : Next → ℕ → Location → Outcome = λ f x y. unless_stuck h (put_at (places.things y) (sc m h) h y p x) (f (Go Inner m r k)) in
      let at : Next → ℕ → Outcome = λ f x. unless_stuck h (followed (locate (sc m h) left)) (put f x) in
      unless-later h (value (sc m h) e) (at next) (at more) (λ x. unless-later h (followed (locate (sc m h) left)) (put next x) (put more x) (λ y.
      unless-later h (put_at (places.things y) (sc m h) h y p x) (next (Go Inner m r k)) (more (Go Inner m r k)) (l (Go Inner m r k)))) v
  act-later next more l (Go mark m (Point declares left t r) k) h v =
      let put : Next → Option Location → Location → Outcome = λ f x y. f (Go Inner m r k) (pointed_at (places.pointers y) h y x) in
      let at : Next → Option Location → Outcome = λ f x. unless_stuck h (followed (locate (sc m h) left)) (put f x) in
      unless-later h (target_of (sc m h) t) (at next) (at more) (λ x. unless-later h (followed (locate (sc m h) left)) (put next x) (put more x) (λ y.
      l (Go Inner m r k) (pointed_at (places.pointers y) h y x))) v
  act-later next more l (Go mark m (Clear left r) k) h v =
      let put : Next → Location → Outcome = λ f y. f (Go Inner m r k) (cleared places h y) in
      unless-later h (followed (locate (sc m h) left)) (put next) (put more) (λ y. l (Go Inner m r k) (cleared places h y)) v
  act-later next more l (Go mark m (If t a b r) k) h v =
      let go : Next → ℕ → Outcome = λ f x. f (Go Inner m (pick x a b) (Go Inner m r k)) h in
      unless-later h (value (sc m h) t) (go next) (go more) (λ x. l (Go Inner m (pick x a b) (Go Inner m r k)) h) v
  act-later next more l (Go mark m (Block b r) k) h v = l (Go Inner m b (Go BehindBlock m r k)) h v
  act-later next more l (Go mark m (Loop b r) k) h v = l (Go Inner m b (Go Inner m (Loop b r) k)) h v
  act-later next more l (Go mark m (Exit n r) k) h v = l (leave n k) h v
  act-later next more l (Go mark m (Call number object enter function r) k) h v =
      let inside : Option Location → Frames = λ o. Go Inner (called m number o) enter (Go Inner (called m number o) (functions function) (Go BehindCall m r k)) in
      let go : Next → Option Location → Outcome = λ f o. f (inside o) h in
      unless-later h (object_of (sc m h) object) (go next) (go more) (λ o. l (inside o) h) v
  act-later next more l (Go mark m (Begin r) k) h v = l (Go Inner m r k) (with_words h (changed (answer m) 0 h.store.words)) v
  act-later next more l (Go mark m (Pass d a r) k) h v = passed-later (caller k m) m d a h (next (Go Inner m r k)) (more (Go Inner m r k)) (l (Go Inner m r k)) v
  act-later next more l (Go mark m (Return e r) k) h v = returned-later m e h (next (return k)) (more (return k)) (l (return k)) v
  act-later next more l (Go mark m (Wait number count r) k) h v = refl

  idle-later : (f : Frames) (h : Held) (n : ℕ) → IsOver (idle places functions signals f h) → run places functions signals n f h ≡ idle places functions signals f h
  idle-later f h zero v = refl
  idle-later Stop h (suc n) v = refl
  idle-later (Go mark m End k) h (suc n) v = idle-later k h (suc n) v
  idle-later (Go mark m b k) h (suc n) v = absurd v

  pub run-later : (n m : ℕ) → n ≤ m → (f : Frames) (h : Held) → IsOver (run places functions signals n f h) → run places functions signals m f h ≡ run places functions signals n f h
  run-later zero m le f h v = idle-later f h m v
  run-later (suc n) zero le f h v = absurd (omega arith)
  run-later (suc n) (suc m) le f h v = act-later (run places functions signals n) (run places functions signals m) (λ g k w. run-later n m (omega arith) g k w) f h v

  pub run-one : (n m : ℕ) (f : Frames) (h : Held) → IsOver (run places functions signals n f h) → IsOver (run places functions signals m f h) → run places functions signals n f h ≡ run places functions signals m f h
  run-one n m f h v w = sym (run-later n (n + m) (omega arith) f h v) ∙ run-later m (n + m) (omega arith) f h w
