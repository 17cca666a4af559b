-- What code without waits and loops leaves, and what a segment leaves with the wait that ends it. This project's own.
use Rattle.std.specs.Prelude.{ℕ, zero, suc, ◌-◌, Option, Some, None, option_and_then}
use Rattle.scc_core_spec.specs.Term.{Term, Left, Pick}
use Rattle.scc_core_spec.specs.Code.{Code, End, Put, Aim, If, Block, Loop, Exit, Wait}
use Rattle.scc_core_spec.specs.Segments.{Segment, Plain, Test, Halt, Finish}
use Rattle.scc_core_spec.specs.Static.{Cells}
use Rattle.scc_blocks_spec.specs.Acting.{Acting, word_in, steps_in, cell_named, put_in}

pub data Effect : Type 0 where
  -- the end is come to, or the n-th block around is left
  Fell : (acting : Acting) → Effect
  Left_out : (depth : ℕ) (acting : Acting) → Effect
  -- a pointer, a loop or a wait stands there, or a value has no rule
  Lost : Effect

abbrev pub then_effect : Effect → (Acting → Effect) → Effect
then_effect (Fell a) f = f a
then_effect (Left_out n a) f = Left_out n a
then_effect Lost f = Lost

abbrev pub shut : Effect → (Acting → Effect) → Effect
shut (Fell a) f = f a
shut (Left_out zero a) f = f a
shut (Left_out (suc n) a) f = Left_out n a
shut Lost f = Lost

abbrev pub or_lost : {A : Type 0} → Option A → (A → Effect) → Effect
or_lost None f = Lost
or_lost (Some x) f = f x

abbrev pub branch : ℕ → Effect → Effect → Effect
branch zero a b = b
branch (suc n) a b = a

abbrev pub assigned : Cells → Acting → Left → Pick → Term → Option Acting
assigned cs a l k e = option_and_then (λ w. option_and_then (λ s. put_in cs a (cell_named cs (Some s)) k w) (steps_in cs a l)) (word_in cs a e)

abbrev pub effect : Cells → Code → Acting → Effect
effect cs End a = Fell a
effect cs (Put p l k e r) a = or_lost (assigned cs a l k e) (effect cs r)
effect cs (If p t b c r) a = or_lost (word_in cs a t) (λ n. then_effect (branch n (effect cs b a) (effect cs c a)) (effect cs r))
effect cs (Block p b r) a = shut (effect cs b a) (effect cs r)
effect cs (Exit p n r) a = Left_out n a
effect cs (Aim p to t r) a = Lost
effect cs (Loop p n b r) a = Lost
effect cs (Wait p l n r) a = Lost

-- Where a thread stands: behind the wait of that number, with so many more edges to wait.
pub record Place : Type 0 where
  pub number : ℕ
  pub left : ℕ

pub data Ran : Type 0 where
  Waits : (acting : Acting) (place : Place) → Ran
  Ends : (acting : Acting) → Ran
  Fails : Ran

abbrev pub then_ran : Effect → (Acting → Ran) → Ran
then_ran (Fell a) f = f a
then_ran (Left_out n a) f = Fails
then_ran Lost f = Fails

abbrev pub or_fails : Option ℕ → (ℕ → Ran) → Ran
or_fails None f = Fails
or_fails (Some n) f = f n

abbrev pub choose : ℕ → Ran → Ran → Ran
choose zero a b = b
choose (suc n) a b = a

abbrev pub run_segment : Cells → Segment → Acting → Ran
run_segment cs (Plain c s) a = then_ran (effect cs c a) (run_segment cs s)
run_segment cs (Test p t s u) a = or_fails (word_in cs a t) (λ n. choose n (run_segment cs s a) (run_segment cs u a))
run_segment cs (Halt p number count) a = Waits a (record { number = number; left = count - 1 })
run_segment cs Finish a = Ends a
