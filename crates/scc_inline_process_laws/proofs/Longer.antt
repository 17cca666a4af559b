-- A run that is over with some statements is the same with more.
use Rattle.std.proofs.Common.{◌≡◌, ℕ, zero, suc, ◌≤◌, Option, Some, None, refl, arith}
use Rattle.scc_semantics.specs.Location.{Location}
use Rattle.scc_semantics.specs.Places.{Places}
use Rattle.scc_semantics.specs.Expressions.{Value, Place}
use Rattle.scc_semantics.specs.Body.{Body, End, Assign, Point, Clear, If, Block, Loop, Exit, Call, Begin, Pass, Return, Wait}
use Rattle.scc_semantics.specs.Scene.{Scene, followed}
use Rattle.scc_semantics.specs.Value.{Held, locate, value, target_of, put_at}
use Rattle.scc_semantics.specs.Machine.{Frames, Stop, Go, Inner, pointed_at, Outcome, Suspended, Ended, Stuck, Unfinished, Next, unless_stuck, act, idle, run}

abbrev pub Over : Outcome → Type 0
Over (Suspended f h) = Unit {0}
Over (Ended h) = Unit {0}
Over (Stuck h) = Unit {0}
Over Unfinished = ⊥

unless-longer : {A : Type 0} (h : Held) (o : Option A) (f g : A → Outcome) → ((x : A) → Over (f x) → g x ≡ f x) → Over (unless_stuck h o f) → unless_stuck h o g ≡ unless_stuck h o f
unless-longer h None f g e v = refl
unless-longer h (Some x) f g e v = e x v

module _ (places : Places) (functions : ℕ → Body) (signals : Location → ℕ) where
  act-longer : (next more : Next) → ((f : Frames) (h : Held) → Over (next f h) → more f h ≡ next f h) → (f : Frames) (h : Held) → Over (act places functions signals next f h)
      → act places functions signals more f h ≡ act places functions signals next f h
  act-longer next more e Stop h v = refl
  act-longer next more e (Go mark m End k) h v = act-longer next more e k h v
  act-longer next more e (Go mark m (Assign l p x r) k) h v = let s : Scene = record { places = places; signals = signals; names = m; store = h.store } in
      unless-longer h (value s x) (λ x. unless_stuck h (followed (locate s l)) (λ l. unless_stuck h (put_at (places.things l) s h l p x) (next (Go Inner m r k)))) (λ x. unless_stuck h (followed (locate s l)) (λ l. unless_stuck h (put_at (places.things l) s h l p x) (more (Go Inner m r k))))
      (λ x. unless-longer h (followed (locate s l)) (λ l. unless_stuck h (put_at (places.things l) s h l p x) (next (Go Inner m r k))) (λ l. unless_stuck h (put_at (places.things l) s h l p x) (more (Go Inner m r k)))
      (λ l. unless-longer h (put_at (places.things l) s h l p x) (next (Go Inner m r k)) (more (Go Inner m r k)) (λ b. e (Go Inner m r k) b))) v
  act-longer next more e (Go mark m (Point d l t r) k) h v =
      let s : Scene = record { places = places; signals = signals; names = m; store = h.store } in
      unless-longer h (target_of s t) (λ o. unless_stuck h (followed (locate s l)) (λ l. next (Go Inner m r k) (pointed_at (places.pointers l) h l o))) (λ o. unless_stuck h (followed (locate s l)) (λ l. more (Go Inner m r k) (pointed_at (places.pointers l) h l o)))
      (λ o. unless-longer h (followed (locate s l)) (λ l. next (Go Inner m r k) (pointed_at (places.pointers l) h l o)) (λ l. more (Go Inner m r k) (pointed_at (places.pointers l) h l o)) (λ l. e (Go Inner m r k) (pointed_at (places.pointers l) h l o))) v
  act-longer next more e (Go mark m (Clear l r) k) h v = unless-longer h _ _ _ (λ l. e _ _) v
  act-longer next more e (Go mark m (If t a b r) k) h v = unless-longer h _ _ _ (λ x. e _ _) v
  act-longer next more e (Go mark m (Block b r) k) h v = e _ _ v
  act-longer next more e (Go mark m (Loop b r) k) h v = e _ _ v
  act-longer next more e (Go mark m (Exit n r) k) h v = e _ _ v
  act-longer next more e (Go mark m (Call n o x f r) k) h v = unless-longer h _ _ _ (λ x. e _ _) v
  act-longer next more e (Go mark m (Begin r) k) h v = e _ _ v
  act-longer next more e (Go mark m (Pass d (Value x) r) k) h v = unless-longer h _ _ _ (λ x. e _ _) v
  act-longer next more e (Go mark m (Pass d (Place t) r) k) h v = unless-longer h _ _ _ (λ x. e _ _) v
  act-longer next more e (Go mark m (Return None r) k) h v = e _ _ v
  act-longer next more e (Go mark m (Return (Some x) r) k) h v = unless-longer h _ _ _ (λ x. e _ _) v
  act-longer next more e (Go mark m (Wait n c r) k) h v = refl

  idle-longer : (m : ℕ) (f : Frames) (h : Held) → Over (idle places functions signals f h) → run places functions signals m f h ≡ idle places functions signals f h
  idle-longer zero f h v = refl
  idle-longer (suc m) Stop h v = refl
  idle-longer (suc m) (Go mark n End k) h v = idle-longer (suc m) k h v
  idle-longer (suc m) (Go mark n (Assign l p x r) k) h v = absurd v
  idle-longer (suc m) (Go mark n (Point d l t r) k) h v = absurd v
  idle-longer (suc m) (Go mark n (Clear l r) k) h v = absurd v
  idle-longer (suc m) (Go mark n (If t a b r) k) h v = absurd v
  idle-longer (suc m) (Go mark n (Block b r) k) h v = absurd v
  idle-longer (suc m) (Go mark n (Loop b r) k) h v = absurd v
  idle-longer (suc m) (Go mark n (Exit d r) k) h v = absurd v
  idle-longer (suc m) (Go mark n (Call i o x f r) k) h v = absurd v
  idle-longer (suc m) (Go mark n (Begin r) k) h v = absurd v
  idle-longer (suc m) (Go mark n (Pass d a r) k) h v = absurd v
  idle-longer (suc m) (Go mark n (Return x r) k) h v = absurd v
  idle-longer (suc m) (Go mark n (Wait i c r) k) h v = absurd v

  pub longer : (n m : ℕ) → n ≤ m → (f : Frames) (h : Held) → Over (run places functions signals n f h) → run places functions signals m f h ≡ run places functions signals n f h
  longer zero m le f h v = idle-longer m f h v
  longer (suc n) zero le f h v = absurd (omega (arith, le))
  longer (suc n) (suc m) le f h v = act-longer (run places functions signals n) (run places functions signals m) (λ f h w. longer n m (omega (arith, le)) f h w) f h v
