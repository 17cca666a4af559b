-- Runs of the machine that reach others, and its single steps.
use Rattle.std.proofs.Common.{◌≡◌, ℕ, zero, suc, Bool, Option, Some, ap, refl, ◌∙◌}
use Rattle.scc_semantics.specs.Location.{Location}
use Rattle.scc_semantics.specs.Places.{Places}
use Rattle.scc_semantics.specs.Expressions.{Expr, Left, Pick, Target}
use Rattle.scc_semantics.specs.Scene.{Names, Scene, followed}
use Rattle.scc_semantics.specs.Body.{Body, End, Assign, Point, Clear, If}
use Rattle.scc_semantics.specs.Value.{Held, value, locate, target_of, put_at}
use Rattle.scc_semantics.specs.Machine.{Frames, Mark, Inner, Go, Next, pick, unless_stuck, pointed_at, cleared, run}

abbrev pub go : Places → ℕ → Next
go places = run places (λ f. End) (λ l. 0)

-- with some more steps it comes to what it comes to from there
pub record Reaches (places : Places) (f : Frames) (h : Held) (g : Frames) (i : Held) : Type 0 where
  pub steps : ℕ → ℕ
  pub same : (j : ℕ) → go places (steps j) f h ≡ go places j g i

pub reaches-same : (places : Places) (f : Frames) (h : Held) → Reaches places f h f h
reaches-same places f h = record { steps = λ j. j; same = λ j. refl }

pub reaches-then : (places : Places) (f g k : Frames) (h i j : Held) → Reaches places f h g i → Reaches places g i k j → Reaches places f h k j
reaches-then places f g k h i j a b = record { steps = λ n. a.steps (b.steps n); same = λ n. a.same (b.steps n) ∙ b.same n }

-- one step
pub reaches-one : (places : Places) (f g : Frames) (h i : Held) → ((j : ℕ) → go places (suc j) f h ≡ go places j g i) → Reaches places f h g i
reaches-one places f g h i e = record { steps = suc; same = e }

module _ (places : Places) (mark : Mark) (names : Names) (rest : Body) (outer : Frames) (h : Held) where
  -- an empty list takes no step
  pub step-end : Reaches places (Go mark names End outer) h outer h
  step-end = record { steps = λ j. j; same = by }
    where
      by : (j : ℕ) → go places j (Go mark names End outer) h ≡ go places j outer h
      by zero = refl
      by (suc j) = refl

  abbrev pub scene : Scene
  scene = record { places = places; signals = λ l. 0; names = names; store = h.store }

  pub step-assign : (left : Left) (p : Pick) (e : Expr) (x : ℕ) (l : Location) (i : Held) → value scene e ≡ Some x → locate scene left ≡ Some (Some l) → put_at (places.things l) scene h l p x ≡ Some i
      → Reaches places (Go mark names (Assign left p e rest) outer) h (Go Inner names rest outer) i
  step-assign left p e x l i a b c = reaches-one places (Go mark names (Assign left p e rest) outer) (Go Inner names rest outer) h i (λ j.
      ap (λ o. unless_stuck h o (λ x. unless_stuck h (followed (locate scene left)) (λ l. unless_stuck h (put_at (places.things l) scene h l p x) (go places j (Go Inner names rest outer))))) a
      ∙ (ap (λ o. unless_stuck h (followed o) (λ l. unless_stuck h (put_at (places.things l) scene h l p x) (go places j (Go Inner names rest outer)))) b
      ∙ ap (λ o. unless_stuck h o (go places j (Go Inner names rest outer))) c))

  pub step-point : (declares : Bool) (left : Left) (t : Target) (o : Option Location) (l : Location) (i : Held) → target_of scene t ≡ Some o → locate scene left ≡ Some (Some l)
      → pointed_at (places.pointers l) h l o ≡ i → Reaches places (Go mark names (Point declares left t rest) outer) h (Go Inner names rest outer) i
  step-point declares left t o l i a b c = reaches-one places (Go mark names (Point declares left t rest) outer) (Go Inner names rest outer) h i (λ j.
      ap (λ q. unless_stuck h q (λ o. unless_stuck h (followed (locate scene left)) (λ l. go places j (Go Inner names rest outer) (pointed_at (places.pointers l) h l o)))) a
      ∙ (ap (λ q. unless_stuck h (followed q) (λ l. go places j (Go Inner names rest outer) (pointed_at (places.pointers l) h l o))) b
      ∙ ap (go places j (Go Inner names rest outer)) c))

  pub step-clear : (left : Left) (l : Location) (i : Held) → locate scene left ≡ Some (Some l) → cleared places h l ≡ i → Reaches places (Go mark names (Clear left rest) outer) h (Go Inner names rest outer) i
  step-clear left l i a b = reaches-one places (Go mark names (Clear left rest) outer) (Go Inner names rest outer) h i (λ j.
      ap (λ q. unless_stuck h (followed q) (λ l. go places j (Go Inner names rest outer) (cleared places h l))) a ∙ ap (go places j (Go Inner names rest outer)) b)

  pub step-if : (t : Expr) (a b : Body) (x : ℕ) → value scene t ≡ Some x → Reaches places (Go mark names (If t a b rest) outer) h (Go Inner names (pick x a b) (Go Inner names rest outer)) h
  step-if t a b x e = reaches-one places (Go mark names (If t a b rest) outer) (Go Inner names (pick x a b) (Go Inner names rest outer)) h h (λ j.
      ap (λ o. unless_stuck h o (λ x. go places j (Go Inner names (pick x a b) (Go Inner names rest outer)) h)) e)
