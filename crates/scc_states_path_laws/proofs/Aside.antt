-- A run doesn't look at what was asked before.
use Rattle.std.proofs.Common.{◌≡◌, ℕ, zero, suc, Bool, true, false, List, [], ◌∷◌, Option, Some, None, refl, ap, ◌∙◌, append_assoc}
use Rattle.std.specs.Prelude.{option_map}
use Rattle.scc_bits_kinds.specs.declared.kind.Kind.TheVariants as kind
use Rattle.scc_semantics.specs.Location.{Location}
use Rattle.scc_semantics.specs.Places.{Thing, Number, Signal, Port, Places}
use Rattle.scc_semantics.specs.Expressions as body
use Rattle.scc_semantics.specs.Expressions.{Pick, Expr, Argument}
use Rattle.scc_semantics.specs.Store.{Request, changed}
use Rattle.scc_semantics.specs.Scene.{Names, Scene, followed}
use Rattle.scc_semantics.specs.Body.{Body, End, Assign, Point, Clear, If, Block, Loop, Exit, Call, Begin, Pass, Return, Wait}
use Rattle.scc_semantics.specs.Value.{Held, locate, value, target_of, put_at, picked, asked, with_words, object_of, called}
use Rattle.scc_semantics.specs.Machine.{Frames, Stop, Go, Inner, BehindCall, Next, Outcome, unless_stuck, pointed_at, zeroed, cleared, act, idle, run, scene, caller, return, pick, leave}
use Rattle.scc_states_path_laws.specs.Aside.{behind, aside}

module _ (rs : List Request) where
  unless : {A : Type 0} (h : Held) (o : Option A) (f g : A → Outcome) → ((x : A) → g x ≡ aside rs (f x)) → unless_stuck (behind rs h) o g ≡ aside rs (unless_stuck h o f)
  unless h None f g e = refl
  unless h (Some x) f g e = e x

  held : (h : Held) (o : Option Held) (f g : Held → Outcome) → ((k : Held) → g (behind rs k) ≡ aside rs (f k)) → unless_stuck (behind rs h) (option_map (behind rs) o) g ≡ aside rs (unless_stuck h o f)
  held h None f g e = refl
  held h (Some k) f g e = e k

  map_same : {A : Type 0} (o : Option A) (f g : A → Held) → ((x : A) → g x ≡ behind rs (f x)) → option_map g o ≡ option_map (behind rs) (option_map f o)
  map_same None f g e = refl
  map_same (Some x) f g e = ap Some (e x)

  asked_same : (h : Held) (l : Location) (w : ℕ) → asked (behind rs h) l w ≡ behind rs (asked h l w)
  asked_same h l w = λ i. record { store = h.store; requests = append_assoc rs h.requests (record { root = l; word = w } ∷ []) i }

  put_same : (t : Option Thing) (s : Scene) (h : Held) (l : Location) (p : Pick) (new : ℕ) → put_at t s (behind rs h) l p new ≡ option_map (behind rs) (put_at t s h l p new)
  put_same (Some (Number k)) s h l p new = map_same (picked s k p (h.store.words l) new) (λ w. with_words h (changed l w h.store.words)) (λ w. with_words (behind rs h) (changed l w h.store.words)) (λ w. refl)
  put_same (Some (Signal k)) s h l p new = map_same (picked s k p 0 new) (λ w. asked h l new) (λ w. asked (behind rs h) l new) (λ w. asked_same h l new)
  put_same (Some (Port k root)) s h l p new = map_same (picked s k p 0 new) (λ w. asked h root new) (λ w. asked (behind rs h) root new) (λ w. asked_same h root new)
  put_same None s h l p new = map_same (picked s kind.Bool p 0 new) (λ w. h) (λ w. behind rs h) (λ w. refl)

  pointed_same : (b : Bool) (h : Held) (l : Location) (o : Option Location) → pointed_at b (behind rs h) l o ≡ behind rs (pointed_at b h l o)
  pointed_same true h l o = refl
  pointed_same false h l o = refl

  zeroed_same : (t : Option Thing) (h : Held) (l : Location) → zeroed t (behind rs h) l ≡ behind rs (zeroed t h l)
  zeroed_same None h l = refl
  zeroed_same (Some (Number k)) h l = refl
  zeroed_same (Some (Signal k)) h l = refl
  zeroed_same (Some (Port k root)) h l = refl

  module _ (places : Places) (functions : ℕ → Body) (signals : Location → ℕ) where
    cleared_same : (h : Held) (l : Location) → cleared places (behind rs h) l ≡ behind rs (cleared places h l)
    cleared_same h l = ap (λ z. pointed_at (places.pointers l) z l None) (zeroed_same (places.things l) h l) ∙ pointed_same (places.pointers l) (zeroed (places.things l) h l) l None

    abbrev S : Names → Held → Scene
    S m h = scene places functions signals m h

    act_same : (next next' : Next) → ((f : Frames) (h : Held) → next' f (behind rs h) ≡ aside rs (next f h)) → (f : Frames) (h : Held) → act places functions signals next' f (behind rs h) ≡ aside rs (act places functions signals next f h)
    act_same next next' e Stop h = refl
    act_same next next' e (Go mark m End k) h = act_same next next' e k h
    act_same next next' e (Go mark m (Assign left p v r) k) h =
        unless h (value (S m h) v) _ _ (λ x. unless h (followed (locate (S m h) left)) _ _ (λ l.
        ap (λ o. unless_stuck (behind rs h) o (next' (Go Inner m r k))) (put_same (places.things l) (S m h) h l p x) ∙ held h (put_at (places.things l) (S m h) h l p x) (next (Go Inner m r k)) (next' (Go Inner m r k)) (e (Go Inner m r k))))
    act_same next next' e (Go mark m (Point declares left t r) k) h =
        unless h (target_of (S m h) t) _ _ (λ o. unless h (followed (locate (S m h) left)) _ _ (λ l.
        ap (next' (Go Inner m r k)) (pointed_same (places.pointers l) h l o) ∙ e (Go Inner m r k) (pointed_at (places.pointers l) h l o)))
    act_same next next' e (Go mark m (Clear left r) k) h =
        unless h (followed (locate (S m h) left)) _ _ (λ l. ap (next' (Go Inner m r k)) (cleared_same h l) ∙ e (Go Inner m r k) (cleared places h l))
    act_same next next' e (Go mark m (If t a b r) k) h = unless h (value (S m h) t) _ _ (λ x. e (Go Inner m (pick x a b) (Go Inner m r k)) h)
    act_same next next' e (Go mark m (Block b r) k) h = e _ h
    act_same next next' e (Go mark m (Loop b r) k) h = e _ h
    act_same next next' e (Go mark m (Exit n r) k) h = e (leave n k) h
    act_same next next' e (Go mark m (Call number object enter function r) k) h =
        unless h (object_of (S m h) object) _ _ (λ o. e (Go Inner (called m number o) enter (Go Inner (called m number o) (functions function) (Go BehindCall m r k))) h)
    act_same next next' e (Go mark m (Begin r) k) h = e (Go Inner m r k) _
    act_same next next' e (Go mark m (Pass n (body.Value v) r) k) h = unless h (value (S (caller k m) h) v) _ _ (λ x. e (Go Inner m r k) _)
    act_same next next' e (Go mark m (Pass n (body.Place t) r) k) h = unless h (target_of (S (caller k m) h) t) _ _ (λ o. e (Go Inner m r k) _)
    act_same next next' e (Go mark m (Return None r) k) h = e (return k) h
    act_same next next' e (Go mark m (Return (Some v) r) k) h = unless h (value (S m h) v) _ _ (λ x. e (return k) _)
    act_same next next' e (Go mark m (Wait number count r) k) h = refl

    idle_same : (f : Frames) (h : Held) → idle places functions signals f (behind rs h) ≡ aside rs (idle places functions signals f h)
    idle_same Stop h = refl
    idle_same (Go mark m End k) h = idle_same k h
    idle_same (Go mark m (Assign left p v r) k) h = refl
    idle_same (Go mark m (Point declares left t r) k) h = refl
    idle_same (Go mark m (Clear left r) k) h = refl
    idle_same (Go mark m (If t a b r) k) h = refl
    idle_same (Go mark m (Block b r) k) h = refl
    idle_same (Go mark m (Loop b r) k) h = refl
    idle_same (Go mark m (Exit n r) k) h = refl
    idle_same (Go mark m (Call number object enter function r) k) h = refl
    idle_same (Go mark m (Begin r) k) h = refl
    idle_same (Go mark m (Pass n v r) k) h = refl
    idle_same (Go mark m (Return v r) k) h = refl
    idle_same (Go mark m (Wait number count r) k) h = refl

    pub runs_aside : (n : ℕ) (f : Frames) (h : Held) → run places functions signals n f (behind rs h) ≡ aside rs (run places functions signals n f h)
    runs_aside zero f h = idle_same f h
    runs_aside (suc n) f h = act_same (run places functions signals n) (run places functions signals n) (runs_aside n) f h
