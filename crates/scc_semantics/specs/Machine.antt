-- The machine: one statement a step, over frames of statements still to do (IEEE 1666-2011, 5.2: processes and wait).
use Rattle.std.specs.Prelude.{ℕ, zero, suc, Bool, true, false, Option, Some, None}
use Rattle.scc_semantics.specs.Location.{Location}
use Rattle.scc_semantics.specs.Places.{Thing, Number, Places}
use Rattle.scc_semantics.specs.Expressions.{Expr, Argument, Value, Place}
use Rattle.scc_semantics.specs.Store.{changed}
use Rattle.scc_semantics.specs.Scene.{Names, Scene, followed}
use Rattle.scc_semantics.specs.Body.{Body, End, Assign, Point, Clear, If, Block, Loop, Exit, Call, Begin, Pass, Return, Wait}
use Rattle.scc_semantics.specs.Value.{locate, value, target_of, Held, with_words, with_targets, put_at, local, answer, called, object_of}

-- what the frame's statements stand behind, when the frame above them is left
pub data Mark : Type 0 where
  Inner : Mark
  BehindBlock : Mark
  BehindCall : Mark

-- the statements still to do, those of the innermost list first, with what their names mean
pub data Frames : Type 0 where
  Stop : Frames
  Go : (mark : Mark) (names : Names) (body : Body) (outer : Frames) → Frames

pub data Outcome : Type 0 where
  -- at a wait, with the frames from which it goes on
  Suspended : (frames : Frames) (held : Held) → Outcome
  Ended : (held : Held) → Outcome
  -- a null pointer was followed
  Stuck : (held : Held) → Outcome
  -- so many steps were not enough
  Unfinished : Outcome

abbrev pub Next : Type 0
Next = Frames → Held → Outcome

-- what is left after leaving the n-th enclosing block of the function
abbrev pub leave : ℕ → Frames → Frames
leave n Stop = Stop
leave n (Go Inner m b k) = leave n k
leave zero (Go BehindBlock m b k) = Go Inner m b k
leave (suc n) (Go BehindBlock m b k) = leave n k
leave n (Go BehindCall m b k) = Go BehindCall m b k

-- what is left after leaving the function
abbrev pub return : Frames → Frames
return Stop = Stop
return (Go Inner m b k) = return k
return (Go BehindBlock m b k) = return k
return (Go BehindCall m b k) = Go Inner m b k

-- the names of the caller
abbrev pub caller : Frames → Names → Names
caller Stop names = names
caller (Go Inner m b k) names = caller k names
caller (Go BehindBlock m b k) names = caller k names
caller (Go BehindCall m b k) names = m

abbrev pub pick : ℕ → Body → Body → Body
pick zero a b = b
pick (suc n) a b = a

abbrev pub one_less : ℕ → ℕ
one_less zero = zero
one_less (suc n) = n

-- the frames behind a wait for so many more edges
abbrev pub waiting : ℕ → ℕ → Frames → Frames
waiting number zero f = f
waiting number (suc n) Stop = Stop
waiting number (suc n) (Go mark names b k) = Go mark names (Wait number (suc n) b) k

abbrev pub unless_stuck : {A : Type 0} → Held → Option A → (A → Outcome) → Outcome
unless_stuck h None f = Stuck h
unless_stuck h (Some x) f = f x

-- a pointer takes a target; where no pointer stands, nothing is written
abbrev pub pointed_at : Bool → Held → Location → Option Location → Held
pointed_at true h l target = with_targets h (changed l target h.store.targets)
pointed_at false h l target = h

-- a declared number or pointer begins as 0 or null
abbrev pub zeroed : Option Thing → Held → Location → Held
zeroed (Some (Number k)) h l = with_words h (changed l 0 h.store.words)
zeroed _ h l = h

abbrev pub cleared : Places → Held → Location → Held
cleared places h l = pointed_at (places.pointers l) (zeroed (places.things l) h l) l None

-- the machine's surroundings in one resume: the design's places and functions, and the signals' words, which stay
module _ (places : Places) (functions : ℕ → Body) (signals : Location → ℕ) where
  abbrev pub scene : Names → Held → Scene
  scene names h = record { places = places; signals = signals; names = names; store = h.store }

  -- a parameter takes its argument, which the caller evaluates
  abbrev pub passed : Names → Names → ℕ → Argument → Held → (Held → Outcome) → Outcome
  passed names from d (Value e) h next = unless_stuck h (value (scene from h) e) (λ x. next (with_words h (changed (local names d) x h.store.words)))
  passed names from d (Place t) h next = unless_stuck h (target_of (scene from h) t) (λ o. next (with_targets h (changed (local names d) o h.store.targets)))

  -- the function's result is its value
  abbrev pub returned : Names → Option Expr → Held → (Held → Outcome) → Outcome
  returned names None h next = next h
  returned names (Some e) h next = unless_stuck h (value (scene names h) e) (λ x. next (with_words h (changed (answer names) x h.store.words)))

  -- One statement, and then what comes next; an empty list takes no step.
  abbrev pub act : Next → Next
  act next Stop h = Ended h
  act next (Go mark m End k) h = act next k h
  act next (Go mark m (Assign left p e r) k) h =
      unless_stuck h (value (scene m h) e) (λ x. unless_stuck h (followed (locate (scene m h) left)) (λ l.
      unless_stuck h (put_at (places.things l) (scene m h) h l p x) (next (Go Inner m r k))))
  act next (Go mark m (Point declares left t r) k) h =
      unless_stuck h (target_of (scene m h) t) (λ o. unless_stuck h (followed (locate (scene m h) left)) (λ l.
      next (Go Inner m r k) (pointed_at (places.pointers l) h l o)))
  act next (Go mark m (Clear left r) k) h =
      unless_stuck h (followed (locate (scene m h) left)) (λ l. next (Go Inner m r k) (cleared places h l))
  act next (Go mark m (If t a b r) k) h = unless_stuck h (value (scene m h) t) (λ x. next (Go Inner m (pick x a b) (Go Inner m r k)) h)
  act next (Go mark m (Block b r) k) h = next (Go Inner m b (Go BehindBlock m r k)) h
  act next (Go mark m (Loop b r) k) h = next (Go Inner m b (Go Inner m (Loop b r) k)) h
  act next (Go mark m (Exit n r) k) h = next (leave n k) h
  act next (Go mark m (Call number object enter function r) k) h =
      unless_stuck h (object_of (scene m h) object) (λ o.
      next (Go Inner (called m number o) enter (Go Inner (called m number o) (functions function) (Go BehindCall m r k))) h)
  act next (Go mark m (Begin r) k) h = next (Go Inner m r k) (with_words h (changed (answer m) 0 h.store.words))
  act next (Go mark m (Pass d a r) k) h = passed m (caller k m) d a h (next (Go Inner m r k))
  act next (Go mark m (Return e r) k) h = returned m e h (next (return k))
  act next (Go mark m (Wait number count r) k) h = Suspended (waiting number (one_less count) (Go Inner m r k)) h

  -- no statement: only an empty list has come to its end
  abbrev pub idle : Next
  idle Stop h = Ended h
  idle (Go mark m End k) h = idle k h
  idle (Go mark m b k) h = Unfinished

  -- at most so many statements
  abbrev pub run : ℕ → Next
  run zero f h = idle f h
  run (suc n) f h = act (run n) f h

  -- where it stands after so many statements, as if it were suspended there, or how it came to its end before
  abbrev pub after : ℕ → Next
  after zero f h = Suspended f h
  after (suc n) f h = act (after n) f h
