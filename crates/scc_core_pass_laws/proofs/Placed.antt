-- A process without pointers does the same whichever locations hold pointers.
use Rattle.std.proofs.Common.{◌≡◌, ℕ, zero, suc, Bool, true, false, ◌&&◌, Option, Some, None, refl, ap, ◌∙◌}
use Rattle.std.specs.Prelude.{option_map, option_and_then}
use Rattle.scc_bits_kinds.specs.declared.kind.Kind.{Kind}
use Rattle.scc_bits_kinds.specs.declared.kind.Kind.TheVariants as kind
use Rattle.scc_bits_kinds.specs.Kinds.{width_of, number_of, stored}
use Rattle.scc_bits_kinds.specs.Bits.{part, joined}
use Rattle.scc_bits.specs.Values.{applied}
use Rattle.scc_semantics.specs.Location.{Location, Member, Element, within}
use Rattle.scc_semantics.specs.Places.{Places, Thing, Number, Signal, Port}
use Rattle.scc_semantics.specs.Expressions.{Expr, Literal, Load, Read, Convert, Unary, Binary, Choose, Bit, Range, Join, Left, Declared, Result, This, At, Null, Follow, Field, Indexed, Pick, Whole, OneBit, Bits}
use Rattle.scc_semantics.specs.Store.{changed}
use Rattle.scc_semantics.specs.Scene.{Names, Scene, expr_kind, loaded, sensed, index_of, bit_at, with_two, chosen, followed, with_bit}
use Rattle.scc_semantics.specs.Body.{Body, End, Assign, Point, Clear, If, Block, Loop, Exit, Call, Begin, Pass, Return, Wait}
use Rattle.scc_semantics.specs.Value.{Held, behind, locate, value, put_at, picked, with_words, asked}
use Rattle.scc_semantics.specs.Machine.{Inner, BehindBlock, Frames, Stop, Go, Outcome, Next, leave, pick, unless_stuck, scene, act, idle, run, after}
use Rattle.scc_semantics.specs.Steady.{plain_expr, plain_left, plain_pick, plain_body}
use Rattle.scc_semantics_laws.specs.Words.{PlainFrames, aimed}
use Rattle.scc_semantics_laws.proofs.Blind.{IsBlind, act-blind, and-first, and-second, plain-leave, plain-pick}

not-true : {A : Type 0} → false ≡ true → A
not-true e = absurd cc

module _ (ps : Location → Bool) where
  abbrev other : Places → Places
  other p = record { things = p.things; pointers = ps }

  abbrev there : Scene → Scene
  there s = record { places = other s.places; signals = s.signals; names = s.names; store = s.store }

  mutual
    value-there : (s : Scene) (e : Expr) → plain_expr e ≡ true → value (there s) e ≡ value s e
    value-there s (Literal k w) h = refl
    value-there s (Load k l) h = ap (λ o. option_map (λ m. loaded (s.places.things m) (s.store.words m)) (followed o)) (locate-there s l h)
    value-there s (Read k l) h = ap (λ o. option_map (λ m. sensed (s.places.things m) s.signals m) (followed o)) (locate-there s l h)
    value-there s (Convert k e) h = ap (option_map (λ x. stored k (number_of (expr_kind e) x))) (value-there s e h)
    value-there s (Unary o a) h = ap (option_and_then (λ x. applied o (expr_kind a) x (expr_kind a) x)) (value-there s a h)
    value-there s (Binary o a b) h = λ i. with_two (value-there s a (and-first (plain_expr a) (plain_expr b) h) i) (value-there s b (and-second (plain_expr a) (plain_expr b) h) i) (λ x y. applied o (expr_kind a) x (expr_kind b) y)
    value-there s (Choose k q a b) h =
        let g = and-second (plain_expr q) (plain_expr a && plain_expr b) h in
        λ i. option_and_then (λ n. with_two (value-there s a (and-first (plain_expr a) (plain_expr b) g) i) (value-there s b (and-second (plain_expr a) (plain_expr b) g) i)
        (λ x y. Some (chosen n (stored k (number_of (expr_kind a) x)) (stored k (number_of (expr_kind b) y))))) (value-there s q (and-first (plain_expr q) (plain_expr a && plain_expr b) h) i)
    value-there s (Bit a e) h = λ i. with_two (value-there s a (and-first (plain_expr a) (plain_expr e) h) i) (value-there s e (and-second (plain_expr a) (plain_expr e) h) i)
        (λ x n. Some (bit_at (width_of (expr_kind a)) x (index_of (expr_kind e) n)))
    value-there s (Range k a u l) h = ap (option_map (part u l)) (value-there s a h)
    value-there s (Join k a b) h = λ i. with_two (value-there s a (and-first (plain_expr a) (plain_expr b) h) i) (value-there s b (and-second (plain_expr a) (plain_expr b) h) i) (λ x y. Some (joined (width_of (expr_kind b)) x y))

    locate-there : (s : Scene) (l : Left) → plain_left l ≡ true → locate (there s) l ≡ locate s l
    locate-there s (Declared d) h = refl
    locate-there s (Result c) h = refl
    locate-there s This h = refl
    locate-there s (At l) h = refl
    locate-there s Null h = refl
    locate-there s (Follow p) h = not-true h
    locate-there s (Field p n) h = ap (λ o. behind o (λ l. Some (Some (within l (Member n))))) (locate-there s p h)
    locate-there s (Indexed p e) h = λ i. behind (locate-there s p (and-first (plain_left p) (plain_expr e) h) i)
        (λ l. option_map (λ n. Some (within l (Element (index_of (expr_kind e) n)))) (value-there s e (and-second (plain_left p) (plain_expr e) h) i))

  picked-there : (s : Scene) (k : Kind) (p : Pick) (old new : ℕ) → plain_pick p ≡ true → picked (there s) k p old new ≡ picked s k p old new
  picked-there s k Whole old new h = refl
  picked-there s k (OneBit e) old new h = ap (option_map (λ n. with_bit (width_of k) old (index_of (expr_kind e) n) new)) (value-there s e h)
  picked-there s k (Bits u l) old new h = refl

  put-there : (a : Option Thing) (s : Scene) (h : Held) (l : Location) (p : Pick) (x : ℕ) → plain_pick p ≡ true → put_at a (there s) h l p x ≡ put_at a s h l p x
  put-there (Some (Number k)) s h l p x e = ap (option_map (λ w. with_words h (changed l w h.store.words))) (picked-there s k p (h.store.words l) x e)
  put-there (Some (Signal k)) s h l p x e = ap (option_map (λ w. asked h l x)) (picked-there s k p 0 x e)
  put-there (Some (Port k root)) s h l p x e = ap (option_map (λ w. asked h root x)) (picked-there s k p 0 x e)
  put-there None s h l p x e = ap (option_map (λ w. h)) (picked-there s kind.Bool p 0 x e)

  -- along plain frames the next is the same
  abbrev Alike : Next → Next → Type 0
  Alike u v = (g : Frames) (h : Held) → PlainFrames g → v g h ≡ u g h

  unless-alike : {A : Type 0} (h : Held) (o q : Option A) (f g : A → Outcome) → q ≡ o → ((x : A) → g x ≡ f x) → unless_stuck h q g ≡ unless_stuck h o f
  unless-alike {A} h o q f g e l = ap (λ o. unless_stuck h o g) e ∙ by o
    where
      by : (o : Option A) → unless_stuck h o g ≡ unless_stuck h o f
      by None = refl
      by (Some x) = l x

  module _ (places : Places) (functions : ℕ → Body) (signals : Location → ℕ) where
    abbrev sc : Names → Held → Scene
    sc = scene places functions signals

    act-there : (u v : Next) → Alike u v → Alike (act places functions signals u) (act (other places) functions signals v)
    act-there u v l Stop h p = refl
    act-there u v l (Go mark m End k) h p = act-there u v l k h p.1
    act-there u v l (Go mark m (Assign left q e r) k) h p =
        let p1 = and-second (plain_left left) (plain_pick q && (plain_expr e && plain_body r)) p.0 in
        let p2 = and-second (plain_pick q) (plain_expr e && plain_body r) p1 in
        unless-alike h (value (sc m h) e) (value (there (sc m h)) e)
        (λ x. unless_stuck h (followed (locate (sc m h) left)) (λ y. unless_stuck h (put_at (places.things y) (sc m h) h y q x) (u (Go Inner m r k))))
        (λ x. unless_stuck h (followed (locate (there (sc m h)) left)) (λ y. unless_stuck h (put_at (places.things y) (there (sc m h)) h y q x) (v (Go Inner m r k))))
        (value-there (sc m h) e (and-first (plain_expr e) (plain_body r) p2)) (λ x.
        unless-alike h (followed (locate (sc m h) left)) (followed (locate (there (sc m h)) left))
        (λ y. unless_stuck h (put_at (places.things y) (sc m h) h y q x) (u (Go Inner m r k)))
        (λ y. unless_stuck h (put_at (places.things y) (there (sc m h)) h y q x) (v (Go Inner m r k)))
        (ap followed (locate-there (sc m h) left (and-first (plain_left left) (plain_pick q && (plain_expr e && plain_body r)) p.0))) (λ y.
        unless-alike h (put_at (places.things y) (sc m h) h y q x) (put_at (places.things y) (there (sc m h)) h y q x) (u (Go Inner m r k)) (v (Go Inner m r k))
        (put-there (places.things y) (sc m h) h y q x (and-first (plain_pick q) (plain_expr e && plain_body r) p1))
        (λ c. l (Go Inner m r k) c (and-second (plain_expr e) (plain_body r) p2, p.1))))
    act-there u v l (Go mark m (If q a b r) k) h p =
        let p1 = and-second (plain_expr q) (plain_body a && (plain_body b && plain_body r)) p.0 in
        let p2 = and-second (plain_body a) (plain_body b && plain_body r) p1 in
        unless-alike h (value (sc m h) q) (value (there (sc m h)) q) (λ x. u (Go Inner m (pick x a b) (Go Inner m r k)) h) (λ x. v (Go Inner m (pick x a b) (Go Inner m r k)) h)
        (value-there (sc m h) q (and-first (plain_expr q) (plain_body a && (plain_body b && plain_body r)) p.0))
        (λ x. l (Go Inner m (pick x a b) (Go Inner m r k)) h (plain-pick x a b (and-first (plain_body a) (plain_body b && plain_body r) p1) (and-first (plain_body b) (plain_body r) p2), (and-second (plain_body b) (plain_body r) p2, p.1)))
    act-there u v l (Go mark m (Block b r) k) h p =
        l (Go Inner m b (Go BehindBlock m r k)) h (and-first (plain_body b) (plain_body r) p.0, (and-second (plain_body b) (plain_body r) p.0, p.1))
    act-there u v l (Go mark m (Loop b r) k) h p = l (Go Inner m b (Go Inner m (Loop b r) k)) h (and-first (plain_body b) (plain_body r) p.0, p)
    act-there u v l (Go mark m (Exit n r) k) h p = l (leave n k) h (plain-leave n k p.1)
    act-there u v l (Go mark m (Wait number count r) k) h p = refl
    act-there u v l (Go mark m (Point declares left q r) k) h p = not-true p.0
    act-there u v l (Go mark m (Clear left r) k) h p = not-true p.0
    act-there u v l (Go mark m (Call number object enter function r) k) h p = not-true p.0
    act-there u v l (Go mark m (Begin r) k) h p = not-true p.0
    act-there u v l (Go mark m (Pass d a r) k) h p = not-true p.0
    act-there u v l (Go mark m (Return e r) k) h p = not-true p.0

    idle-there : Alike (idle places functions signals) (idle (other places) functions signals)
    idle-there Stop h p = refl
    idle-there (Go mark m End k) h p = idle-there k h p.1
    idle-there (Go mark m b k) h p = refl

    pub run-there : (n : ℕ) → Alike (run places functions signals n) (run (other places) functions signals n)
    run-there zero = idle-there
    run-there (suc n) = act-there (run places functions signals n) (run (other places) functions signals n) (run-there n)

    pub after-there : (n : ℕ) → Alike (after places functions signals n) (after (other places) functions signals n)
    after-there zero = λ g h p. refl
    after-there (suc n) = act-there (after places functions signals n) (after (other places) functions signals n) (after-there n)

-- nor does it matter, so many statements on, where pointers lead
module _ (places : Places) (functions : ℕ → Body) (signals : Location → ℕ) (t : Location → Option Location) where
  pub after-blind : (n : ℕ) (g : Frames) (h : Held) → PlainFrames g → IsBlind places functions signals t (after places functions signals n g h) (after places functions signals n g (aimed t h))
  after-blind zero g h p = record { same = refl; plain = p }
  after-blind (suc n) g h p = act-blind places functions signals t (after places functions signals n) (after-blind n) g h p
