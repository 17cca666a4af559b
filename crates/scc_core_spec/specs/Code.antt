-- Statements of a process, calls copied: each holds what follows it (IEEE 1666-2011, 5.2.18 `wait`; ISO C++ [stmt]).
use Rattle.std.specs.Prelude.{ℕ, ◌+◌, max, Bool, true, false, ◌||◌, Option}
use Rattle.scc_base.specs.declared.refusal.Place.{Place}
use Rattle.scc_bits_kinds.specs.declared.op.Op.{Op}
use Rattle.scc_core_spec.specs.Term.{Term, Left, Pick}

-- how a counted loop counts: its counter's cell, and what is compared and added at each turn
pub record Count : Type 0 where
  pub cell : ℕ
  pub start : Term
  pub compare : Op
  pub bound : Term
  pub step_op : Op
  pub step : Term

-- which pointer takes a target: the cell of a local one at its declaration, or one that is assigned
pub data Pointed : Type 0 where
  Declared : (cell : ℕ) → Pointed
  Assigned : (left : Left) → Pointed

pub data Code : Type 0 where
  End : Code
  -- a variable or local takes the value at once, a signal or port when the processes have stopped
  Put : (place : Place) (left : Left) (pick : Pick) (value : Term) (rest : Code) → Code
  -- a pointer or reference is given where it leads
  Aim : (place : Place) (to : Pointed) (target : Left) (rest : Code) → Code
  If : (place : Place) (test : Term) (yes no rest : Code) → Code
  Block : (place : Place) (body rest : Code) → Code
  -- goes on until it is left
  Loop : (place : Place) (count : Option Count) (body rest : Code) → Code
  -- leaves the n-th enclosing block, counted outward from 0
  Exit : (place : Place) (depth : ℕ) (rest : Code) → Code
  -- waits for so many edges, under its number in text order
  Wait : (place : Place) (number count : ℕ) (rest : Code) → Code

abbrev pub append : Code → Code → Code
append End c = c
append (Put p l k e r) c = Put p l k e (append r c)
append (Aim p to t r) c = Aim p to t (append r c)
append (If p t a b r) c = If p t a b (append r c)
append (Block p b r) c = Block p b (append r c)
append (Loop p n b r) c = Loop p n b (append r c)
append (Exit p n r) c = Exit p n (append r c)
append (Wait p l n r) c = Wait p l n (append r c)

-- how many statements there are, at every depth
abbrev pub size : Code → ℕ
size End = 0
size (Put p l k e r) = 1 + size r
size (Aim p to t r) = 1 + size r
size (If p t a b r) = 1 + (size a + (size b + size r))
size (Block p b r) = 1 + (size b + size r)
size (Loop p n b r) = 1 + (size b + size r)
size (Exit p n r) = 1 + size r
size (Wait p l n r) = 1 + size r

-- how deep they nest: 0 where there is none, 1 for statements that hold none
abbrev pub height : Code → ℕ
height End = 0
height (Put p l k e r) = max 1 (height r)
height (Aim p to t r) = max 1 (height r)
height (If p t a b r) = max (1 + max (height a) (height b)) (height r)
height (Block p b r) = max (1 + height b) (height r)
height (Loop p n b r) = max (1 + height b) (height r)
height (Exit p n r) = max 1 (height r)
height (Wait p l n r) = max 1 (height r)

abbrev pub waits_in : Code → ℕ
waits_in End = 0
waits_in (Put p l k e r) = waits_in r
waits_in (Aim p to t r) = waits_in r
waits_in (If p t a b r) = waits_in a + (waits_in b + waits_in r)
waits_in (Block p b r) = waits_in b + waits_in r
waits_in (Loop p n b r) = waits_in b + waits_in r
waits_in (Exit p n r) = waits_in r
waits_in (Wait p l n r) = 1 + waits_in r

abbrev pub holds_wait : Code → Bool
holds_wait End = false
holds_wait (Put p l k e r) = holds_wait r
holds_wait (Aim p to t r) = holds_wait r
holds_wait (If p t a b r) = holds_wait a || (holds_wait b || holds_wait r)
holds_wait (Block p b r) = holds_wait b || holds_wait r
holds_wait (Loop p n b r) = holds_wait b || holds_wait r
holds_wait (Exit p n r) = holds_wait r
holds_wait (Wait p l n r) = true

-- the waits numbered in text order, from n on
abbrev pub numbered : ℕ → Code → Code
numbered n End = End
numbered n (Put p l k e r) = Put p l k e (numbered n r)
numbered n (Aim p to t r) = Aim p to t (numbered n r)
numbered n (If p t a b r) = If p t (numbered n a) (numbered (n + waits_in a) b) (numbered (n + (waits_in a + waits_in b)) r)
numbered n (Block p b r) = Block p (numbered n b) (numbered (n + waits_in b) r)
numbered n (Loop p c b r) = Loop p c (numbered n b) (numbered (n + waits_in b) r)
numbered n (Exit p d r) = Exit p d (numbered n r)
numbered n (Wait p l c r) = Wait p n c (numbered (n + 1) r)
