-- A run of plain frames leaves targets and the words of all but numbers, and asks nothing of numbers.
use Rattle.std.proofs.Common.{◌≡◌, ℕ, zero, suc, Bool, true, false, ◌&&◌, List, [], ◌∷◌, ◌++◌, Option, Some, None, refl, sym, ap, ◌∙◌, subst, if◌then◌else◌}
use Rattle.scc_bits_kinds.specs.declared.kind.Kind.TheVariants as kind
use Rattle.scc_semantics.specs.Location.{Location, same}
use Rattle.scc_semantics.specs.Places.{Places, Thing, Number, Signal, Port}
use Rattle.scc_semantics.specs.Expressions.{Pick}
use Rattle.scc_semantics.specs.Store.{Request, changed, updated}
use Rattle.scc_semantics.specs.Scene.{Names, Scene, followed}
use Rattle.scc_semantics.specs.Body.{Body, End, Assign, Point, Clear, If, Block, Loop, Exit, Call, Begin, Pass, Return, Wait}
use Rattle.scc_semantics.specs.Value.{Held, locate, value, put_at, picked, with_words, asked}
use Rattle.scc_semantics.specs.Machine.{Inner, BehindBlock, Frames, Stop, Go, Outcome, Suspended, Ended, Stuck, Unfinished, Next, leave, pick, unless_stuck, scene, act, idle, run}
use Rattle.scc_semantics.specs.Steady.{plain_expr, plain_left, plain_pick, plain_body}
use Rattle.scc_semantics_laws.specs.Words.{PlainFrames}
use Rattle.scc_semantics_laws.proofs.Blind.{and-first, and-second, plain-leave, plain-pick}
use Rattle.scc_semantics_laws.proofs.Places.{same-is}
use Rattle.scc_core_effect_laws.proofs.Names.{true-false, map-is}
use Rattle.scc_core_runs_laws.specs.Spared.{holds_number, PortsLead, Spared, SparesTo}

pub updated-two : (rs qs : List Request) (w : Location → ℕ) → updated (rs ++ qs) w ≡ updated qs (updated rs w)
updated-two [] qs w = refl
updated-two (r ∷ rs) qs w = updated-two rs qs (changed r.root r.word w)

module _ (places : Places) (lead : PortsLead places) where
  nothing : (h : Held) → Spared places h h
  nothing h = record { targets = λ l. refl; words = λ l n. refl; asked = λ l w n. refl }

  then-to : (h k : Held) (o : Outcome) → Spared places h k → SparesTo places k o → SparesTo places h o
  then-to h k (Suspended f g) a b = record { targets = λ l. b.targets l ∙ a.targets l; words = λ l n. b.words l n ∙ a.words l n; asked = λ l w n. b.asked l w n ∙ a.asked l w n }
  then-to h k (Ended g) a b = record { targets = λ l. b.targets l ∙ a.targets l; words = λ l n. b.words l n ∙ a.words l n; asked = λ l w n. b.asked l w n ∙ a.asked l w n }
  then-to h k (Stuck g) a b = record { targets = λ l. b.targets l ∙ a.targets l; words = λ l n. b.words l n ∙ a.words l n; asked = λ l w n. b.asked l w n ∙ a.asked l w n }
  then-to h k Unfinished a b = tt

  unless-spares : {A : Type 0} (h : Held) (o : Option A) (f : A → Outcome) → ((x : A) → o ≡ Some x → SparesTo places h (f x)) → SparesTo places h (unless_stuck h o f)
  unless-spares h None f l = nothing h
  unless-spares h (Some x) f l = l x refl

  differ : (l n : Location) (a : Bool) → holds_number (places.things l) ≡ a → (b : Bool) → holds_number (places.things n) ≡ b → (a ≡ b → ⊥) → same l n ≡ false
  differ l n a e b f other = by (same l n) refl
    where
      by : (t : Bool) → same l n ≡ t → t ≡ false
      by false t = refl
      by true t = absurd (other (sym e ∙ ap (λ l. holds_number (places.things l)) (same-is l n t) ∙ f))

  asked-spared : (h : Held) (l : Location) (x : ℕ) → holds_number (places.things l) ≡ false → Spared places h (asked h l x)
  asked-spared h l x e = record {
    targets = λ l. refl;
    words = λ l n. refl;
    asked = λ n w f. (λ z. updated-two h.requests (record { root = l; word = x } ∷ []) w z n) ∙ ap (λ b. if b then x else updated h.requests w n) (differ l n false e true f (λ q. true-false (sym q)));
  }

  put-spared : (l : Location) (a : Option Thing) → places.things l ≡ a → (s : Scene) (h k : Held) (p : Pick) (x : ℕ) → put_at a s h l p x ≡ Some k → Spared places h k
  put-spared l (Some (Number z)) t s h k p x e =
      let m = map-is (picked s z p (h.store.words l) x) (λ w. with_words h (changed l w h.store.words)) k e in
      subst (Spared places h) m.2 (record {
        targets = λ l. refl;
        words = λ n f. ap (λ b. if b then m.0 else h.store.words n) (differ l n true (ap holds_number t) false f (λ q. true-false q));
        asked = λ n w f. refl;
      })
  put-spared l (Some (Signal z)) t s h k p x e = let m = map-is (picked s z p 0 x) (λ w. asked h l x) k e in subst (Spared places h) m.2 (asked-spared h l x (ap holds_number t))
  put-spared l (Some (Port z root)) t s h k p x e = let m = map-is (picked s z p 0 x) (λ w. asked h root x) k e in subst (Spared places h) m.2 (asked-spared h root x (lead l root z t))
  put-spared l None t s h k p x e = let m = map-is (picked s kind.Bool p 0 x) (λ w. h) k e in subst (Spared places h) m.2 (nothing h)

  module _ (functions : ℕ → Body) (signals : Location → ℕ) where
    abbrev sc : Names → Held → Scene
    sc = scene places functions signals

    abbrev Spares : Next → Type 0
    Spares next = (g : Frames) (h : Held) → PlainFrames g → SparesTo places h (next g h)

    act-spares : (next : Next) → Spares next → Spares (act places functions signals next)
    act-spares next l Stop h p = nothing h
    act-spares next l (Go mark m End k) h p = act-spares next l k h p.1
    act-spares next l (Go mark m (Assign left u e r) k) h p =
        let go : Held → Outcome = next (Go Inner m r k) in
        let put : ℕ → Location → Outcome = λ x y. unless_stuck h (put_at (places.things y) (sc m h) h y u x) go in
        let at : ℕ → Outcome = λ x. unless_stuck h (followed (locate (sc m h) left)) (put x) in
        let p1 = and-second (plain_left left) (plain_pick u && (plain_expr e && plain_body r)) p.0 in
        let p2 = and-second (plain_pick u) (plain_expr e && plain_body r) p1 in
        unless-spares h (value (sc m h) e) at (λ x q. unless-spares h (followed (locate (sc m h) left)) (put x) (λ y q. unless-spares h (put_at (places.things y) (sc m h) h y u x) go
        (λ k' q. then-to h k' (go k') (put-spared y (places.things y) refl (sc m h) h k' u x q) (l (Go Inner m r k) k' (and-second (plain_expr e) (plain_body r) p2, p.1)))))
    act-spares next l (Go mark m (If q a b r) k) h p =
        let go : ℕ → Outcome = λ x. next (Go Inner m (pick x a b) (Go Inner m r k)) h in
        let p1 = and-second (plain_expr q) (plain_body a && (plain_body b && plain_body r)) p.0 in
        let p2 = and-second (plain_body a) (plain_body b && plain_body r) p1 in
        unless-spares h (value (sc m h) q) go (λ x z.
        l (Go Inner m (pick x a b) (Go Inner m r k)) h (plain-pick x a b (and-first (plain_body a) (plain_body b && plain_body r) p1) (and-first (plain_body b) (plain_body r) p2), (and-second (plain_body b) (plain_body r) p2, p.1)))
    act-spares next l (Go mark m (Block b r) k) h p = l (Go Inner m b (Go BehindBlock m r k)) h (and-first (plain_body b) (plain_body r) p.0, (and-second (plain_body b) (plain_body r) p.0, p.1))
    act-spares next l (Go mark m (Loop b r) k) h p = l (Go Inner m b (Go Inner m (Loop b r) k)) h (and-first (plain_body b) (plain_body r) p.0, p)
    act-spares next l (Go mark m (Exit n r) k) h p = l (leave n k) h (plain-leave n k p.1)
    act-spares next l (Go mark m (Wait number count r) k) h p = nothing h
    act-spares next l (Go mark m (Point declares left q r) k) h p = true-false (sym p.0)
    act-spares next l (Go mark m (Clear left r) k) h p = true-false (sym p.0)
    act-spares next l (Go mark m (Call number object enter function r) k) h p = true-false (sym p.0)
    act-spares next l (Go mark m (Begin r) k) h p = true-false (sym p.0)
    act-spares next l (Go mark m (Pass d a r) k) h p = true-false (sym p.0)
    act-spares next l (Go mark m (Return e r) k) h p = true-false (sym p.0)

    idle-spares : Spares (idle places functions signals)
    idle-spares Stop h p = nothing h
    idle-spares (Go mark m End k) h p = idle-spares k h p.1
    idle-spares (Go mark m b k) h p = tt

    pub run-spares : (n : ℕ) → Spares (run places functions signals n)
    run-spares zero g h p = idle-spares g h p
    run-spares (suc n) g h p = act-spares (run places functions signals n) (run-spares n) g h p
