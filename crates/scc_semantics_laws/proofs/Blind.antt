-- A process without pointers does the same wherever pointers lead, and leaves them as they are.
use Rattle.std.proofs.Common.{◌≡◌, ℕ, zero, suc, Bool, true, false, ◌&&◌, Option, Some, None, refl, ap, ◌∙◌}
use Rattle.std.specs.Prelude.{option_map, option_and_then}
use Rattle.scc_bits_kinds.specs.declared.kind.Kind.{Kind}
use Rattle.scc_bits_kinds.specs.declared.kind.Kind.TheVariants as kind
use Rattle.scc_bits_kinds.specs.Kinds.{width_of, number_of, stored}
use Rattle.scc_bits_kinds.specs.Bits.{part, joined}
use Rattle.scc_bits.specs.Values.{applied}
use Rattle.scc_semantics.specs.Location.{Location, Member, Element, within}
use Rattle.scc_semantics.specs.Places.{Places, Thing, Number, Signal, Port}
use Rattle.scc_semantics.specs.Expressions.{Expr, Literal, Load, Read, Convert, Unary, Binary, Choose, Bit, Range, Join, Left, Declared, Result, This, At, Null, Follow, Field, Indexed, Pick, Whole, OneBit, Bits}
use Rattle.scc_semantics.specs.Scene.{Names, Scene, expr_kind, loaded, sensed, index_of, bit_at, with_two, chosen, followed, with_bit}
use Rattle.scc_semantics.specs.Body.{Body, End, Assign, Point, Clear, If, Block, Loop, Exit, Call, Begin, Pass, Return, Wait}
use Rattle.scc_semantics.specs.Value.{Held, behind, locate, value, put_at, picked, asked}
use Rattle.scc_semantics.specs.Machine.{Inner, BehindBlock, BehindCall, Frames, Stop, Go, Outcome, Next, leave, pick, one_less, waiting, unless_stuck, scene, act, idle, run}
use Rattle.scc_semantics.specs.Steady.{plain_expr, plain_left, plain_pick, plain_body}
use Rattle.scc_semantics_laws.specs.Words.{aimed, all_aimed, PlainFrames, PlainLeft}

pub and-first : (a b : Bool) → (a && b) ≡ true → a ≡ true
and-first true b e = refl
and-first false b e = cc

pub and-second : (a b : Bool) → (a && b) ≡ true → b ≡ true
and-second true b e = e
and-second false b e = cc

not-true : {A : Type 0} → false ≡ true → A
not-true e = absurd cc

module _ (t : Location → Option Location) where
  abbrev moved_in : Scene → Scene
  moved_in s = record { places = s.places; signals = s.signals; names = s.names; store = record { words = s.store.words; targets = t } }

  mutual
    value-blind : (s : Scene) (e : Expr) → plain_expr e ≡ true → value (moved_in s) e ≡ value s e
    value-blind s (Literal k w) h = refl
    value-blind s (Load k l) h = ap (λ o. option_map (λ m. loaded (s.places.things m) (s.store.words m)) (followed o)) (locate-blind s l h)
    value-blind s (Read k l) h = ap (λ o. option_map (λ m. sensed (s.places.things m) s.signals m) (followed o)) (locate-blind s l h)
    value-blind s (Convert k e) h = ap (option_map (λ x. stored k (number_of (expr_kind e) x))) (value-blind s e h)
    value-blind s (Unary o a) h = ap (option_and_then (λ x. applied o (expr_kind a) x (expr_kind a) x)) (value-blind s a h)
    value-blind s (Binary o a b) h = λ i. with_two (value-blind s a (and-first (plain_expr a) (plain_expr b) h) i) (value-blind s b (and-second (plain_expr a) (plain_expr b) h) i) (λ x y. applied o (expr_kind a) x (expr_kind b) y)
    value-blind s (Choose k q a b) h =
        let g = and-second (plain_expr q) (plain_expr a && plain_expr b) h in
        λ i. option_and_then (λ n. with_two (value-blind s a (and-first (plain_expr a) (plain_expr b) g) i) (value-blind s b (and-second (plain_expr a) (plain_expr b) g) i)
        (λ x y. Some (chosen n (stored k (number_of (expr_kind a) x)) (stored k (number_of (expr_kind b) y))))) (value-blind s q (and-first (plain_expr q) (plain_expr a && plain_expr b) h) i)
    value-blind s (Bit a e) h = λ i. with_two (value-blind s a (and-first (plain_expr a) (plain_expr e) h) i) (value-blind s e (and-second (plain_expr a) (plain_expr e) h) i)
        (λ x n. Some (bit_at (width_of (expr_kind a)) x (index_of (expr_kind e) n)))
    value-blind s (Range k a u l) h = ap (option_map (part u l)) (value-blind s a h)
    value-blind s (Join k a b) h = λ i. with_two (value-blind s a (and-first (plain_expr a) (plain_expr b) h) i) (value-blind s b (and-second (plain_expr a) (plain_expr b) h) i) (λ x y. Some (joined (width_of (expr_kind b)) x y))

    locate-blind : (s : Scene) (l : Left) → plain_left l ≡ true → locate (moved_in s) l ≡ locate s l
    locate-blind s (Declared d) h = refl
    locate-blind s (Result c) h = refl
    locate-blind s This h = refl
    locate-blind s (At l) h = refl
    locate-blind s Null h = refl
    locate-blind s (Follow p) h = not-true h
    locate-blind s (Field p n) h = ap (λ o. behind o (λ l. Some (Some (within l (Member n))))) (locate-blind s p h)
    locate-blind s (Indexed p e) h = λ i. behind (locate-blind s p (and-first (plain_left p) (plain_expr e) h) i)
        (λ l. option_map (λ n. Some (within l (Element (index_of (expr_kind e) n)))) (value-blind s e (and-second (plain_left p) (plain_expr e) h) i))

  picked-blind : (s : Scene) (k : Kind) (p : Pick) (old new : ℕ) → plain_pick p ≡ true → picked (moved_in s) k p old new ≡ picked s k p old new
  picked-blind s k Whole old new h = refl
  picked-blind s k (OneBit e) old new h = ap (option_map (λ n. with_bit (width_of k) old (index_of (expr_kind e) n) new)) (value-blind s e h)
  picked-blind s k (Bits u l) old new h = refl

  map-blind : (o q : Option ℕ) (f : ℕ → Held) → o ≡ q → option_map (λ w. aimed t (f w)) o ≡ option_map (aimed t) (option_map f q)
  map-blind o q f e = ap (option_map (λ w. aimed t (f w))) e ∙ again q
    where
      again : (q : Option ℕ) → option_map (λ w. aimed t (f w)) q ≡ option_map (aimed t) (option_map f q)
      again None = refl
      again (Some x) = refl

  put-blind : (a : Option Thing) (s : Scene) (h : Held) (l : Location) (p : Pick) (x : ℕ) → plain_pick p ≡ true
      → put_at a (moved_in s) (aimed t h) l p x ≡ option_map (aimed t) (put_at a s h l p x)
  put-blind (Some (Number k)) s h l p x e = map-blind (picked (moved_in s) k p (h.store.words l) x) (picked s k p (h.store.words l) x) _ (picked-blind s k p (h.store.words l) x e)
  put-blind (Some (Signal k)) s h l p x e = map-blind (picked (moved_in s) k p 0 x) (picked s k p 0 x) (λ w. asked h l x) (picked-blind s k p 0 x e)
  put-blind (Some (Port k root)) s h l p x e = map-blind (picked (moved_in s) k p 0 x) (picked s k p 0 x) (λ w. asked h root x) (picked-blind s k p 0 x e)
  put-blind None s h l p x e = map-blind (picked (moved_in s) kind.Bool p 0 x) (picked s kind.Bool p 0 x) (λ w. h) (picked-blind s kind.Bool p 0 x e)

pub plain-leave : (n : ℕ) (k : Frames) → PlainFrames k → PlainFrames (leave n k)
plain-leave n Stop h = tt
plain-leave n (Go Inner m b k) h = plain-leave n k h.1
plain-leave zero (Go BehindBlock m b k) h = h
plain-leave (suc n) (Go BehindBlock m b k) h = plain-leave n k h.1
plain-leave n (Go BehindCall m b k) h = h

pub plain-pick : (x : ℕ) (a b : Body) → plain_body a ≡ true → plain_body b ≡ true → plain_body (pick x a b) ≡ true
plain-pick zero a b h g = g
plain-pick (suc x) a b h g = h

plain-waiting : (number n : ℕ) (f : Frames) → PlainFrames f → PlainFrames (waiting number n f)
plain-waiting number zero f h = h
plain-waiting number (suc n) Stop h = h
plain-waiting number (suc n) (Go mark m b k) h = h

module _ (places : Places) (functions : ℕ → Body) (signals : Location → ℕ) (t : Location → Option Location) where
  abbrev sc : Names → Held → Scene
  sc = scene places functions signals

  -- the same but for the pointers, from frames without pointers to such frames
  pub record IsBlind (o q : Outcome) : Type 0 where
    pub same : q ≡ all_aimed t o
    pub plain : PlainLeft o

  abbrev Blind : Next → Type 0
  Blind next = (g : Frames) (h : Held) → PlainFrames g → IsBlind (next g h) (next g (aimed t h))

  unless-blind : {A : Type 0} (h : Held) (o q : Option A) (f g : A → Outcome) → q ≡ o → ((x : A) → IsBlind (f x) (g x)) → IsBlind (unless_stuck h o f) (unless_stuck (aimed t h) q g)
  unless-blind h None q f g e l = record { same = ap (λ o. unless_stuck (aimed t h) o g) e; plain = tt }
  unless-blind h (Some x) q f g e l = record { same = ap (λ o. unless_stuck (aimed t h) o g) e ∙ (l x).same; plain = (l x).plain }

  held-blind : (h : Held) (o q : Option Held) (f : Held → Outcome) → q ≡ option_map (aimed t) o → ((k : Held) → IsBlind (f k) (f (aimed t k))) → IsBlind (unless_stuck h o f) (unless_stuck (aimed t h) q f)
  held-blind h None q f e l = record { same = ap (λ o. unless_stuck (aimed t h) o f) e; plain = tt }
  held-blind h (Some k) q f e l = record { same = ap (λ o. unless_stuck (aimed t h) o f) e ∙ (l k).same; plain = (l k).plain }

  pub act-blind : (next : Next) → Blind next → Blind (act places functions signals next)
  act-blind next l Stop h p = record { same = refl; plain = tt }
  act-blind next l (Go mark m End k) h p = act-blind next l k h p.1
  act-blind next l (Go mark m (Assign left u e r) k) h p =
      let go : Held → Outcome = next (Go Inner m r k) in
      let put : Held → ℕ → Location → Outcome = λ z x y. unless_stuck z (put_at (places.things y) (sc m z) z y u x) go in
      let at : Held → ℕ → Outcome = λ z x. unless_stuck z (followed (locate (sc m z) left)) (put z x) in
      let p1 = and-second (plain_left left) (plain_pick u && (plain_expr e && plain_body r)) p.0 in
      let p2 = and-second (plain_pick u) (plain_expr e && plain_body r) p1 in
      unless-blind h (value (sc m h) e) (value (sc m (aimed t h)) e) (at h) (at (aimed t h)) (value-blind t (sc m h) e (and-first (plain_expr e) (plain_body r) p2)) (λ x.
      unless-blind h (followed (locate (sc m h) left)) (followed (locate (sc m (aimed t h)) left)) (put h x) (put (aimed t h) x)
      (ap followed (locate-blind t (sc m h) left (and-first (plain_left left) (plain_pick u && (plain_expr e && plain_body r)) p.0))) (λ y.
      held-blind h (put_at (places.things y) (sc m h) h y u x) (put_at (places.things y) (sc m (aimed t h)) (aimed t h) y u x) go
      (put-blind t (places.things y) (sc m h) h y u x (and-first (plain_pick u) (plain_expr e && plain_body r) p1))
      (λ k'. l (Go Inner m r k) k' (and-second (plain_expr e) (plain_body r) p2, p.1))))
  act-blind next l (Go mark m (If q a b r) k) h p =
      let go : Held → ℕ → Outcome = λ z x. next (Go Inner m (pick x a b) (Go Inner m r k)) z in
      let p1 = and-second (plain_expr q) (plain_body a && (plain_body b && plain_body r)) p.0 in
      let p2 = and-second (plain_body a) (plain_body b && plain_body r) p1 in
      unless-blind h (value (sc m h) q) (value (sc m (aimed t h)) q) (go h) (go (aimed t h)) (value-blind t (sc m h) q (and-first (plain_expr q) (plain_body a && (plain_body b && plain_body r)) p.0)) (λ x.
      l (Go Inner m (pick x a b) (Go Inner m r k)) h (plain-pick x a b (and-first (plain_body a) (plain_body b && plain_body r) p1) (and-first (plain_body b) (plain_body r) p2), (and-second (plain_body b) (plain_body r) p2, p.1)))
  act-blind next l (Go mark m (Block b r) k) h p =
      l (Go Inner m b (Go BehindBlock m r k)) h (and-first (plain_body b) (plain_body r) p.0, (and-second (plain_body b) (plain_body r) p.0, p.1))
  act-blind next l (Go mark m (Loop b r) k) h p = l (Go Inner m b (Go Inner m (Loop b r) k)) h (and-first (plain_body b) (plain_body r) p.0, p)
  act-blind next l (Go mark m (Exit n r) k) h p = l (leave n k) h (plain-leave n k p.1)
  act-blind next l (Go mark m (Wait number count r) k) h p = record { same = refl; plain = plain-waiting number (one_less count) (Go Inner m r k) p }
  act-blind next l (Go mark m (Point declares left q r) k) h p = not-true p.0
  act-blind next l (Go mark m (Clear left r) k) h p = not-true p.0
  act-blind next l (Go mark m (Call number object enter function r) k) h p = not-true p.0
  act-blind next l (Go mark m (Begin r) k) h p = not-true p.0
  act-blind next l (Go mark m (Pass d a r) k) h p = not-true p.0
  act-blind next l (Go mark m (Return e r) k) h p = not-true p.0

  idle-blind : Blind (idle places functions signals)
  idle-blind Stop h p = record { same = refl; plain = tt }
  idle-blind (Go mark m End k) h p = idle-blind k h p.1
  idle-blind (Go mark m b k) h p = record { same = refl; plain = tt }

  pub run-blind : (n : ℕ) → Blind (run places functions signals n)
  run-blind zero g h p = idle-blind g h p
  run-blind (suc n) g h p = act-blind (run places functions signals n) (run-blind n) g h p
