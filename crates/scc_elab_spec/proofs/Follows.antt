-- Runs of the machine that follow the statements of a constructor, whatever comes behind them.
use Rattle.std.proofs.Common.{◌≡◌, ℕ, zero, suc, List, Bool, true, false, nat_le, if◌then◌else◌, refl, subst}
use Rattle.scc_base.specs.declared.refusal.Place.{Place}
use Rattle.scc_semantics.specs.Store.{Request}
use Rattle.scc_semantics.specs.Scene.{Names}
use Rattle.scc_semantics.specs.Body as machine
use Rattle.scc_semantics.specs.Body.{Body}
use Rattle.scc_semantics.specs.Value.{Held}
use Rattle.scc_semantics.specs.Machine.{Frames, Mark, Inner, BehindBlock, Go, leave}
use Rattle.scc_core_spec.specs.First.{refused}
use Rattle.scc_base.specs.declared.code.Code.TheVariants as reason
use Rattle.scc_core_spec.specs.Resolved.{Tried, Made, Stopped}
use Rattle.scc_elab_spec.specs.Design.{Object}
use Rattle.scc_elab_spec.specs.Grown.{with_turn}
use Rattle.scc_elab_spec.specs.Worth.{Site}
use Rattle.scc_elab_spec.specs.Construct.{Now, Ran, Fell, Left_out, Halted, then_run, shut, from_tried, turned, looped}
use Rattle.scc_elab_spec.proofs.Regular.{IsFine, places_by}
use Rattle.scc_elab_spec.proofs.Steps.{Reaches, reaches-then, reaches-one}

abbrev pub held : Now → List Request → Held
held n rs = record { store = n.grown.store; requests = rs }

module _ (s : Site) (os : List Object) where
  -- the frames behind some statements are reached, or those behind a block that they leave
  abbrev pub Follows : Ran → Frames → Held → Frames → Type 0
  Follows (Fell m) f h k = (rs : List Request) × Reaches (places_by s os) f h k (held m rs) × IsFine s os m
  Follows (Left_out d m) f h k = (rs : List Request) × Reaches (places_by s os) f h (leave d k) (held m rs) × IsFine s os m
  Follows (Halted r) f h k = Unit {0}

  pub follows-after : (r : Ran) (f g k : Frames) (h i : Held) → Reaches (places_by s os) f h g i → Follows r g i k → Follows r f h k
  follows-after (Fell m) f g k h i a b = (b.0, reaches-then (places_by s os) f g k h i (held m b.0) a b.1, b.2)
  follows-after (Left_out d m) f g k h i a b = (b.0, reaches-then (places_by s os) f g (leave d k) h i (held m b.0) a b.1, b.2)
  follows-after (Halted r) f g k h i a b = tt

  pub follows-then : (r : Ran) (next : Now → Ran) (f g k : Frames) (h : Held) → Follows r f h g → ((d : ℕ) → leave d g ≡ leave d k)
      → ((m : Now) (rs : List Request) → IsFine s os m → Follows (next m) g (held m rs) k) → Follows (then_run r next) f h k
  follows-then (Fell m) next f g k h a e b = follows-after (next m) f g k h (held m a.0) a.1 (b m a.0 a.2)
  follows-then (Left_out d m) next f g k h a e b = (a.0, subst (λ z. Reaches (places_by s os) f h z (held m a.0)) (e d) a.1, a.2)
  follows-then (Halted r) next f g k h a e b = tt

  pub follows-shut : (r : Ran) (next : Now → Ran) (f k : Frames) (names : Names) (rest : Body) (h : Held) → Follows r f h (Go BehindBlock names rest k)
      → ((mark : Mark) (m : Now) (rs : List Request) → IsFine s os m → Follows (next m) (Go mark names rest k) (held m rs) k) → Follows (shut r next) f h k
  follows-shut (Fell m) next f k names rest h a b = follows-after (next m) f (Go BehindBlock names rest k) k h (held m a.0) a.1 (b BehindBlock m a.0 a.2)
  follows-shut (Left_out zero m) next f k names rest h a b = follows-after (next m) f (Go Inner names rest k) k h (held m a.0) a.1 (b Inner m a.0 a.2)
  follows-shut (Left_out (suc d) m) next f k names rest h a b = (a.0, a.1, a.2)
  follows-shut (Halted r) next f k names rest h a b = tt

  pub follows-tried : {A : Type 0} (t : Tried A) (next : A → Ran) (f k : Frames) (h : Held) → ((a : A) → t ≡ Made a → Follows (next a) f h k) → Follows (from_tried t next) f h k
  follows-tried (Made a) next f k h b = b a refl
  follows-tried (Stopped r) next f k h b = tt

  follows-turned : (p : Place) (n : Now) (next : Now → Ran) (f k : Frames) (rs : List Request) → IsFine s os n
      → ((m : Now) → IsFine s os m → (m.grown.store ≡ n.grown.store) → Follows (next m) f (held m rs) k) → Follows (turned p n next) f (held n rs) k
  follows-turned p n next f k rs fine b = by (nat_le 65536 n.grown.turns)
    where
      by : (c : Bool) → Follows (if c then Halted (refused reason.ConstructionTurns p) else next (record { grown = with_turn n.grown; last = n.last })) f (held n rs) k
      by true = tt
      by false = b (record { grown = with_turn n.grown; last = n.last }) (record { objects = fine.objects; words = fine.words; targets = fine.targets }) refl

  -- a loop whose test and turn are followed
  pub follows-looped : (left : ℕ) (p : Place) (test turn : Now → Ran) (names : Names) (inside rest : Body) (g k : Frames)
      → ((n : Now) (rs : List Request) → IsFine s os n → Follows (test n) (Go Inner names inside (Go Inner names (machine.Loop inside rest) k)) (held n rs) g)
      → ((n : Now) (rs : List Request) → IsFine s os n → Follows (turn n) g (held n rs) (Go Inner names (machine.Loop inside rest) k))
      → ((d : ℕ) → leave d g ≡ leave d k)
      → (mark : Mark) (n : Now) (rs : List Request) → IsFine s os n → Follows (looped left p test turn n) (Go mark names (machine.Loop inside rest) k) (held n rs) k
  follows-looped zero p test turn names inside rest g k a b e mark n rs fine = tt
  follows-looped (suc left) p test turn names inside rest g k a b e mark n rs fine =
      let around : Frames = Go Inner names (machine.Loop inside rest) k in
      follows-after (looped (suc left) p test turn n) (Go mark names (machine.Loop inside rest) k) (Go Inner names inside around) k (held n rs) (held n rs)
      (reaches-one (places_by s os) (Go mark names (machine.Loop inside rest) k) (Go Inner names inside around) (held n rs) (held n rs) (λ j. refl))
      (follows-then (test n) (λ n. turned p n (λ n. then_run (turn n) (looped left p test turn))) (Go Inner names inside around) g k (held n rs) (a n rs fine) e
      (λ m rs fine. follows-turned p m (λ n. then_run (turn n) (looped left p test turn)) g k rs fine
      (λ m fine same. follows-then (turn m) (looped left p test turn) g around k (held m rs) (b m rs fine) (λ d. refl)
      (λ m rs fine. follows-looped left p test turn names inside rest g k a b e Inner m rs fine))))
