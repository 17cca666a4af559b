-- Segments of a live body: the code from a point to the next wait. This project's own way from `wait` (IEEE 1666-2011, 5.2.18) to states.
use Rattle.std.specs.Prelude.{ℕ, zero, suc, ◌+◌, Bool, true, false, not, ◌||◌, nat_lt, List, [], ◌∷◌, ◌++◌, map, sum}
use Rattle.scc_base.specs.declared.refusal.Place.{Place}
use Rattle.scc_core_spec.specs.Term.{Term}
use Rattle.scc_core_spec.specs.Code.{Code, End, Put, Aim, If, Block, Loop, Exit, Wait, size}

pub data Segment : Type 0 where
  -- a statement without a wait, which leaves no block that is open
  Plain : (statement : Code) (rest : Segment) → Segment
  Test : (place : Place) (test : Term) (yes no : Segment) → Segment
  -- the wait with which it ends
  Halt : (place : Place) (number count : ℕ) → Segment
  -- the end of the function, to which no thread comes
  Finish : Segment

-- A statement is open where it holds a wait, or an exit from an open block around it. Here every block around, beyond d of the
-- statement's own, is open.
abbrev pub opens : ℕ → Code → Bool
opens d End = false
opens d (Put p l k e r) = opens d r
opens d (Aim p to t r) = opens d r
opens d (If p t a b r) = opens d a || (opens d b || opens d r)
opens d (Block p b r) = opens (suc d) b || opens d r
opens d (Loop p n b r) = opens d b || opens d r
opens d (Exit p n r) = not (nat_lt n d) || opens d r
opens d (Wait p l n r) = true

-- what follows the n-th open block
abbrev pub behind : ℕ → List Segment → Segment
behind n [] = Finish
behind zero (x ∷ xs) = x
behind (suc n) (x ∷ xs) = behind n xs

abbrev pub opened : Bool → Segment → Segment → Segment
opened true a b = a
opened false a b = b

-- The segment of a list, before what follows it, and what follows each open block around, the innermost first. A loop with waits
-- becomes its body, the loop again and the rest: the end of its body is never reached without a wait, so the loop again never stands.
abbrev pub segment : Code → Segment → List Segment → Segment
segment End next outer = next
segment (Put p l k e r) next outer = Plain (Put p l k e End) (segment r next outer)
segment (Aim p to t r) next outer = Plain (Aim p to t End) (segment r next outer)
segment (If p t a b r) next outer =
    let rest = segment r next outer in
    opened (opens 0 (If p t a b End)) (Test p t (segment a rest outer) (segment b rest outer)) (Plain (If p t a b End) rest)
segment (Block p b r) next outer =
    let rest = segment r next outer in
    opened (opens 0 (Block p b End)) (segment b rest (rest ∷ outer)) (Plain (Block p b End) rest)
segment (Loop p n b r) next outer = opened (opens 0 (Loop p n b End)) (segment b Finish outer) (Plain (Loop p n b End) (segment r next outer))
segment (Exit p n r) next outer = behind n outer
segment (Wait p l n r) next outer = Halt p l n

-- what follows each wait, in text order; behind the end of a loop's body stands the loop again
abbrev pub segments : Code → Segment → List Segment → List Segment
segments End next outer = []
segments (Put p l k e r) next outer = segments r next outer
segments (Aim p to t r) next outer = segments r next outer
segments (If p t a b r) next outer =
    let rest = segment r next outer in segments a rest outer ++ (segments b rest outer ++ segments r next outer)
segments (Block p b r) next outer =
    let rest = segment r next outer in segments b rest (rest ∷ outer) ++ segments r next outer
segments (Loop p n b r) next outer = segments b (segment (Loop p n b r) next outer) outer ++ segments r next outer
segments (Exit p n r) next outer = segments r next outer
segments (Wait p l n r) next outer = segment r next outer ∷ segments r next outer

-- the reset segment and the numbered ones of a live body whose waits are numbered
abbrev pub all_segments : Code → List Segment
all_segments c = segment c Finish [] ∷ segments c Finish []

-- the counts of the waits of a body, in text order
abbrev pub counts : Code → List ℕ
counts End = []
counts (Put p l k e r) = counts r
counts (Aim p to t r) = counts r
counts (If p t a b r) = counts a ++ (counts b ++ counts r)
counts (Block p b r) = counts b ++ counts r
counts (Loop p n b r) = counts b ++ counts r
counts (Exit p n r) = counts r
counts (Wait p l n r) = n ∷ counts r

-- statements of a segment at every depth, a wait counting 1; and how deep they nest
abbrev pub segment_size : Segment → ℕ
segment_size (Plain c s) = size c + segment_size s
segment_size (Test p t a b) = 1 + (segment_size a + segment_size b)
segment_size (Halt p l n) = 1
segment_size Finish = 0

-- a segment as code: its waits are its ends
abbrev pub segment_code : Segment → Code
segment_code (Plain (Put p l k e r) s) = Put p l k e (segment_code s)
segment_code (Plain (Aim p to t r) s) = Aim p to t (segment_code s)
segment_code (Plain (If p t a b r) s) = If p t a b (segment_code s)
segment_code (Plain (Block p b r) s) = Block p b (segment_code s)
segment_code (Plain (Loop p n b r) s) = Loop p n b (segment_code s)
segment_code (Plain c s) = segment_code s
segment_code (Test p t a b) = If p t (segment_code a) (segment_code b) End
segment_code (Halt p l n) = End
segment_code Finish = End

-- all statements of all segments
abbrev pub statements : List Segment → ℕ
statements ss = sum (map segment_size ss)
