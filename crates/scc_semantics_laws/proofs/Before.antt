-- What was requested before a resume stays in front of what it requests.
use Rattle.std.proofs.Common.{◌≡◌, ℕ, zero, suc, List, [], ◌∷◌, Bool, true, false, Option, Some, None, refl, ap, ◌∙◌, append_assoc}
use Rattle.std.specs.Prelude.{option_map}
use Rattle.scc_bits_kinds.specs.declared.kind.Kind.TheVariants as kind
use Rattle.scc_semantics.specs.Location.{Location}
use Rattle.scc_semantics.specs.Places.{Places, Thing, Number, Signal, Port}
use Rattle.scc_semantics.specs.Expressions.{Expr, Pick, Argument, Value, Place}
use Rattle.scc_semantics.specs.Store.{Request, changed}
use Rattle.scc_semantics.specs.Scene.{Names, Scene, followed}
use Rattle.scc_semantics.specs.Body.{Body, End, Assign, Point, Clear, If, Block, Loop, Exit, Call, Begin, Pass, Return, Wait}
use Rattle.scc_semantics.specs.Value.{Held, locate, value, target_of, with_words, with_targets, asked, put_at, picked, local, answer, called, object_of}
use Rattle.scc_semantics_laws.specs.Words.{behind, all_behind}
use Rattle.scc_semantics.specs.Machine.{Inner, BehindBlock, BehindCall, Frames, Stop, Go, Outcome, Next, leave, return, caller, pick, unless_stuck, pointed_at, zeroed, cleared, scene, passed, returned, act, idle, run}

module _ (places : Places) (functions : ℕ → Body) (signals : Location → ℕ) (rs : List Request) where
  abbrev sc : Names → Held → Scene
  sc = scene places functions signals

  unless-behind : {A : Type 0} (h : Held) (o : Option A) (f g : A → Outcome) → ((x : A) → g x ≡ all_behind rs (f x)) → unless_stuck (behind rs h) o g ≡ all_behind rs (unless_stuck h o f)
  unless-behind h None f g l = refl
  unless-behind h (Some x) f g l = l x

  asked-behind : (h : Held) (l : Location) (x : ℕ) (o : Option ℕ) → option_map (λ w. asked (behind rs h) l x) o ≡ option_map (behind rs) (option_map (λ w. asked h l x) o)
  asked-behind h l x None = refl
  asked-behind h l x (Some w) = λ i. Some (record { store = h.store; requests = append_assoc rs h.requests (record { root = l; word = x } ∷ []) i })

  put-behind : (t : Option Thing) (s : Scene) (h : Held) (l : Location) (p : Pick) (x : ℕ) → put_at t s (behind rs h) l p x ≡ option_map (behind rs) (put_at t s h l p x)
  put-behind (Some (Number k)) s h l p x = by_word (picked s k p (h.store.words l) x)
    where
      by_word : (o : Option ℕ) → option_map (λ w. with_words (behind rs h) (changed l w h.store.words)) o ≡ option_map (behind rs) (option_map (λ w. with_words h (changed l w h.store.words)) o)
      by_word None = refl
      by_word (Some w) = refl
  put-behind (Some (Signal k)) s h l p x = asked-behind h l x (picked s k p 0 x)
  put-behind (Some (Port k root)) s h l p x = asked-behind h root x (picked s k p 0 x)
  put-behind None s h l p x = by_word (picked s kind.Bool p 0 x)
    where
      by_word : (o : Option ℕ) → option_map (λ w. behind rs h) o ≡ option_map (behind rs) (option_map (λ w. h) o)
      by_word None = refl
      by_word (Some w) = refl

  held-behind : (h : Held) (o : Option Held) (f : Held → Outcome) → ((k : Held) → f (behind rs k) ≡ all_behind rs (f k)) → unless_stuck (behind rs h) (option_map (behind rs) o) f ≡ all_behind rs (unless_stuck h o f)
  held-behind h None f l = refl
  held-behind h (Some k) f l = l k

  pointed-behind : (b : Bool) (h : Held) (l : Location) (o : Option Location) → pointed_at b (behind rs h) l o ≡ behind rs (pointed_at b h l o)
  pointed-behind true h l o = refl
  pointed-behind false h l o = refl

  zeroed-behind : (t : Option Thing) (h : Held) (l : Location) → zeroed t (behind rs h) l ≡ behind rs (zeroed t h l)
  zeroed-behind (Some (Number k)) h l = refl
  zeroed-behind (Some (Signal k)) h l = refl
  zeroed-behind (Some (Port k root)) h l = refl
  zeroed-behind None h l = refl

  abbrev Behind : Next → Type 0
  Behind next = (g : Frames) (h : Held) → next g (behind rs h) ≡ all_behind rs (next g h)

  passed-behind : (from to : Names) (d : ℕ) (a : Argument) (h : Held) (f : Held → Outcome) → ((k : Held) → f (behind rs k) ≡ all_behind rs (f k))
      → passed places functions signals to from d a (behind rs h) f ≡ all_behind rs (passed places functions signals to from d a h f)
  passed-behind from to d (Value e) h f l =
      let put : Held → ℕ → Outcome = λ k x. f (with_words k (changed (local to d) x h.store.words)) in
      unless-behind h (value (sc from h) e) (put h) (put (behind rs h)) (λ x. l (with_words h (changed (local to d) x h.store.words)))
  passed-behind from to d (Place t) h f l =
      let put : Held → Option Location → Outcome = λ k x. f (with_targets k (changed (local to d) x h.store.targets)) in
      unless-behind h (target_of (sc from h) t) (put h) (put (behind rs h)) (λ x. l (with_targets h (changed (local to d) x h.store.targets)))

  returned-behind : (m : Names) (e : Option Expr) (h : Held) (f : Held → Outcome) → ((k : Held) → f (behind rs k) ≡ all_behind rs (f k))
      → returned places functions signals m e (behind rs h) f ≡ all_behind rs (returned places functions signals m e h f)
  returned-behind m None h f l = l h
  returned-behind m (Some e) h f l =
      let put : Held → ℕ → Outcome = λ k x. f (with_words k (changed (answer m) x h.store.words)) in
      unless-behind h (value (sc m h) e) (put h) (put (behind rs h)) (λ x. l (with_words h (changed (answer m) x h.store.words)))

  act-behind : (next : Next) → Behind next → Behind (act places functions signals next)
  act-behind next l Stop h = refl
  act-behind next l (Go mark m End k) h = act-behind next l k h
  act-behind next l (Go mark m (Assign left p e r) k) h =
      let go : Held → Outcome = next (Go Inner m r k) in
      let put : Held → ℕ → Location → Outcome = λ z x y. unless_stuck z (put_at (places.things y) (sc m h) z y p x) go in
      let at : Held → ℕ → Outcome = λ z x. unless_stuck z (followed (locate (sc m h) left)) (put z x) in
      unless-behind h (value (sc m h) e) (at h) (at (behind rs h)) (λ x. unless-behind h (followed (locate (sc m h) left)) (put h x) (put (behind rs h) x) (λ y.
      ap (λ o. unless_stuck (behind rs h) o go) (put-behind (places.things y) (sc m h) h y p x) ∙ held-behind h (put_at (places.things y) (sc m h) h y p x) go (l (Go Inner m r k))))
  act-behind next l (Go mark m (Point declares left t r) k) h =
      let go : Held → Outcome = next (Go Inner m r k) in
      let put : Held → Option Location → Location → Outcome = λ z x y. go (pointed_at (places.pointers y) z y x) in
      let at : Held → Option Location → Outcome = λ z x. unless_stuck z (followed (locate (sc m h) left)) (put z x) in
      unless-behind h (target_of (sc m h) t) (at h) (at (behind rs h)) (λ x. unless-behind h (followed (locate (sc m h) left)) (put h x) (put (behind rs h) x) (λ y.
      ap go (pointed-behind (places.pointers y) h y x) ∙ l (Go Inner m r k) (pointed_at (places.pointers y) h y x)))
  act-behind next l (Go mark m (Clear left r) k) h =
      let go : Held → Outcome = next (Go Inner m r k) in
      let put : Held → Location → Outcome = λ z y. go (cleared places z y) in
      unless-behind h (followed (locate (sc m h) left)) (put h) (put (behind rs h)) (λ y.
      ap (λ z. go (pointed_at (places.pointers y) z y None)) (zeroed-behind (places.things y) h y)
      ∙ ap go (pointed-behind (places.pointers y) (zeroed (places.things y) h y) y None) ∙ l (Go Inner m r k) (cleared places h y))
  act-behind next l (Go mark m (If t a b r) k) h =
      let go : Held → ℕ → Outcome = λ z x. next (Go Inner m (pick x a b) (Go Inner m r k)) z in
      unless-behind h (value (sc m h) t) (go h) (go (behind rs h)) (λ x. l (Go Inner m (pick x a b) (Go Inner m r k)) h)
  act-behind next l (Go mark m (Block b r) k) h = l (Go Inner m b (Go BehindBlock m r k)) h
  act-behind next l (Go mark m (Loop b r) k) h = l (Go Inner m b (Go Inner m (Loop b r) k)) h
  act-behind next l (Go mark m (Exit n r) k) h = l (leave n k) h
  act-behind next l (Go mark m (Call number object enter function r) k) h =
      let inside : Option Location → Frames = λ o. Go Inner (called m number o) enter (Go Inner (called m number o) (functions function) (Go BehindCall m r k)) in
      let go : Held → Option Location → Outcome = λ z o. next (inside o) z in
      unless-behind h (object_of (sc m h) object) (go h) (go (behind rs h)) (λ o. l (inside o) h)
  act-behind next l (Go mark m (Begin r) k) h = l (Go Inner m r k) (with_words h (changed (answer m) 0 h.store.words))
  act-behind next l (Go mark m (Pass d a r) k) h = passed-behind (caller k m) m d a h (next (Go Inner m r k)) (l (Go Inner m r k))
  act-behind next l (Go mark m (Return e r) k) h = returned-behind m e h (next (return k)) (l (return k))
  act-behind next l (Go mark m (Wait number count r) k) h = refl

  idle-behind : Behind (idle places functions signals)
  idle-behind Stop h = refl
  idle-behind (Go mark m End k) h = idle-behind k h
  idle-behind (Go mark m b k) h = refl

  pub run-behind : (n : ℕ) → Behind (run places functions signals n)
  run-behind zero g h = idle-behind g h
  run-behind (suc n) g h = act-behind (run places functions signals n) (run-behind n) g h
