-- Single steps of the machine.
use Rattle.std.proofs.Common.{◌≡◌, ℕ, zero, suc, ◌+◌, ◌≤◌, false, Option, Some, None, refl, ◌∙◌, arith}
use Rattle.std.specs.Prelude.{option_map, option_and_then}
use Rattle.scc_semantics.specs.Expressions as body
use Rattle.scc_semantics.specs.Scene.{followed}
use Rattle.scc_semantics.specs.Body.{Body}
use Rattle.scc_semantics.specs.Body as machine
use Rattle.scc_semantics.specs.Value.{Held, locate, target_of, put_at}
use Rattle.scc_semantics.specs.Machine.{Frames, Go, Mark, Inner, Next, Outcome, Stuck, unless_stuck, pointed_at, act, run, after}
use Rattle.scc_core_spec.specs.Term.{Term, Left, Pick}
use Rattle.scc_core_spec.specs.Code.{Pointed, Declared, Assigned}
use Rattle.scc_core_spec.specs.Source.{expr_of, left_of, pick_of, aimed}
use Rattle.scc_blocks_spec.specs.Comes.{next_waits}
use Rattle.scc_states_path_laws.specs.Moved.{World, put_on, aim_on, word_of, around, pointer_left}
use Rattle.scc_states_path_laws.specs.Within.{Within, Along}

pub flat : {A B : Type 0} (h : Held) (o : Option A) (f : A → Option B) (g : B → Outcome) → unless_stuck h o (λ x. unless_stuck h (f x) g) ≡ unless_stuck h (option_and_then f o) g
flat h None f g = refl
flat h (Some x) f g = refl

flat_two : {A B C : Type 0} (h : Held) (o : Option A) (p : Option B) (f : A → B → Option C) (g : C → Outcome)
    → unless_stuck h o (λ x. unless_stuck h p (λ m. unless_stuck h (f x m) g)) ≡ unless_stuck h (option_and_then (λ x. option_and_then (f x) p) o) g
flat_two h None p f g = refl
flat_two h (Some x) p f g = flat h p (f x) g

flat_map : {A B C : Type 0} (h : Held) (o : Option A) (p : Option B) (f : A → B → C) (g : C → Outcome)
    → unless_stuck h o (λ x. unless_stuck h p (λ m. g (f x m))) ≡ unless_stuck h (option_and_then (λ x. option_map (f x) p) o) g
flat_map h None p f g = refl
flat_map h (Some x) None f g = refl
flat_map h (Some x) (Some m) f g = refl

module _ (w : World) where
  abbrev pub step_of : Next → Next
  step_of = act w.places w.functions w.signals

  pub puts : (next : Next) (mark : Mark) (l : Left) (k : Pick) (e : Term) (r : Body) (outer : Frames) (h : Held)
      → step_of next (Go mark w.names (machine.Assign (left_of w.home w.cells w.process l) (pick_of w.home w.cells w.process k) (expr_of w.home w.cells w.process e) r) outer) h
      ≡ unless_stuck h (put_on w l k e h) (next (Go Inner w.names r outer))
  puts next mark l k e r outer h = flat_two h (word_of w e h) (followed (locate (around w h) (left_of w.home w.cells w.process l)))
      (λ x m. put_at (w.places.things m) (around w h) h m (pick_of w.home w.cells w.process k) x) (next (Go Inner w.names r outer))

  pub aims : (next : Next) (mark : Mark) (to : Pointed) (t : Left) (r : Body) (outer : Frames) (h : Held)
      → step_of next (Go mark w.names (aimed w.home w.cells w.process to (left_of w.home w.cells w.process t) r) outer) h
      ≡ unless_stuck h (aim_on w to t h) (next (Go Inner w.names r outer))
  aims next mark (Declared n) t r outer h = flat_map h (target_of (around w h) (body.Address (left_of w.home w.cells w.process t)))
      (followed (locate (around w h) (pointer_left w (Declared n)))) (λ o m. pointed_at (w.places.pointers m) h m o) (next (Go Inner w.names r outer))
  aims next mark (Assigned l) t r outer h = flat_map h (target_of (around w h) (body.Address (left_of w.home w.cells w.process t)))
      (followed (locate (around w h) (pointer_left w (Assigned l)))) (λ o m. pointed_at (w.places.pointers m) h m o) (next (Go Inner w.names r outer))

  pub later : (b b' : ℕ) (f : Frames) (h : Held) (o : Outcome) → b ≤ b' → Within w b f h o → Within w b' f h o
  later b b' f h o le q = record { by = λ n le'. q.by n (omega arith) }

  -- an end takes no step
  pub pop : (b : ℕ) (mark : Mark) (k : Frames) (h : Held) (o : Outcome) → Within w b k h o → Within w b (Go mark w.names machine.End k) h o
  pop b mark k h o q = record { by = go }
    where
      go : (n : ℕ) → b ≤ n → run w.places w.functions w.signals n (Go mark w.names machine.End k) h ≡ o
      go zero le = q.by zero le
      go (suc n) le = q.by (suc n) le

  -- nothing comes behind a statement that is stuck
  pub stuck : (b : ℕ) (f : Frames) (h : Held) → 1 ≤ b → ((next : Next) → step_of next f h ≡ Stuck h) → Within w b f h (Stuck h)
  stuck b f h le st = record { by = go }
    where
      go : (n : ℕ) → b ≤ n → run w.places w.functions w.signals n f h ≡ Stuck h
      go zero le' = absurd (omega arith)
      go (suc n) le' = st (run w.places w.functions w.signals n)

  module _ (a : Along w) where
    -- one statement
    pub one : (b b' : ℕ) (f f' : Frames) (h h' : Held) (o : Outcome) → 1 + b ≤ b' → next_waits f ≡ false → ((next : Next) → step_of next f h ≡ next f' h')
        → a.Is f h → (a.Is f' h' → Within w b f' h' o) → Within w b' f h o
    one b b' f f' h h' o le free st is rest = record { by = go }
      where
        go : (n : ℕ) → b' ≤ n → run w.places w.functions w.signals n f h ≡ o
        go zero le' = absurd (omega arith)
        go (suc n) le' = st (run w.places w.functions w.signals n) ∙ (rest (a.moves f f' h h' free (st (after w.places w.functions w.signals 0)) is)).by n (omega arith)
