-- The statements of a process over the numbers of the lowering: a method's live body, and a thread's segments by its state, counter and reset. This project's own.
use Rattle.std.specs.Prelude.{◌≡◌, ◌||◌, ℕ, nat_eq, zero, suc, ◌-◌, ◌*◌, ◌<◌, ◌^◌, Bool, true, false, List, [], ◌∷◌, Option, Some, None, slice_get, is_some, if◌then◌else◌}
use Rattle.scc_svtree.specs.declared.expr.SvLeft.{SvLeft}
use Rattle.scc_svtree.specs.declared.expr.SvLeft.TheVariants.{Whole}
use Rattle.scc_svtree.specs.declared.expr.SvUnary.TheVariants as unary
use Rattle.scc_svtree.specs.declared.expr.SvBinary.TheVariants as binary
use Rattle.scc_svtree.specs.Term as emitted
use Rattle.scc_svtree.specs.Code as emitted_code
use Rattle.scc_core_spec.specs.Program.{Process, Reset, is_root}
use Rattle.scc_core_spec.specs.Uses.{has_sort, width_at}
use Rattle.scc_core_spec.specs.Segments.{Segment, Plain, Test, Halt, Finish, counts}
use Rattle.scc_core_spec.specs.Sizes.{live_body}
use Rattle.scc_core_spec.specs.Live.{live}
use Rattle.scc_blocks_spec.specs.Turns.{segment_at}
use Rattle.scc_blocks_spec.specs.Shown.{View, Constant, Sight, state_number, next_state_number, counter_number, next_counter_number}
use Rattle.scc_blocks_spec.specs.Lowered.{IsLoweredCode, IsLoweredTerm}

abbrev pub whole : ℕ → SvLeft
whole v = Whole (record { 0 = v })

abbrev pub variable : ℕ → emitted.Term
variable v = emitted.Part (whole v)

-- code before other code
abbrev pub then_code : emitted_code.Code → emitted_code.Code → emitted_code.Code
then_code emitted_code.End d = d
then_code (emitted_code.Assign l e r) d = emitted_code.Assign l e (then_code r d)
then_code (emitted_code.If c a b r) d = emitted_code.If c a b (then_code r d)
then_code (emitted_code.Case e arms r) d = emitted_code.Case e arms (then_code r d)

-- ---- first assignments

-- a variable that is assigned first: the word of another one, or 0
pub record First : Type 0 where
  pub target : ℕ
  pub source : Option ℕ

abbrev pub first_term : (ℕ → ℕ) → First → emitted.Term
first_term width f = by f.source
  where
    by : Option ℕ → emitted.Term
    by None = emitted.Literal (width f.target) 0
    by (Some u) = variable u

abbrev pub firsts_code : (ℕ → ℕ) → List First → emitted_code.Code → emitted_code.Code
firsts_code width [] rest = rest
firsts_code width (f ∷ fs) rest = emitted_code.Assign (whole f.target) (first_term width f) (firsts_code width fs rest)

abbrev pub or_else : {A : Type 0} → Option A → Option A → Option A
or_else None o = o
or_else (Some x) o = Some x

-- what is assigned first to a variable, the last counting
abbrev pub first_at : List First → ℕ → Option (Option ℕ)
first_at [] v = None
first_at (f ∷ fs) v = or_else (first_at fs v) (if nat_eq f.target v then Some f.source else None)

abbrev pub is_source_of : Option ℕ → ℕ → Bool
is_source_of None u = false
is_source_of (Some v) u = nat_eq v u

abbrev pub is_source : List First → ℕ → Bool
is_source [] u = false
is_source (f ∷ fs) u = is_source_of f.source u || is_source fs u

-- ---- threads

-- the widths of a thread's state and counter, 0 where it has none
pub record Wide : Type 0 where
  pub state : ℕ
  pub counter : ℕ

abbrev pub put_number : ℕ → (variable number : ℕ) → emitted_code.Code → emitted_code.Code
put_number zero v n rest = rest
put_number (suc w) v n rest = emitted_code.Assign (whole v) (emitted.Literal (suc w) n) rest

-- the next state and counter
abbrev pub place_code : Wide → (number left : ℕ) → emitted_code.Code
place_code w n left = put_number w.state next_state_number n (put_number w.counter next_counter_number left emitted_code.End)

-- the code of a segment, statement by statement
abbrev pub IsSegmentCode : Sight → (ℕ → ℕ) → Wide → Segment → emitted_code.Code → Type 0
IsSegmentCode s width w (Plain c r) code = (l rest : emitted_code.Code) × IsLoweredCode s width c l × IsSegmentCode s width w r rest × (code ≡ then_code l rest)
IsSegmentCode s width w (Test p t a b) code = (front yes no : emitted_code.Code) × (e : emitted.Term) × IsLoweredTerm s width t front e
    × IsSegmentCode s width w a yes × IsSegmentCode s width w b no × (code ≡ then_code front (emitted_code.If e yes no emitted_code.End))
IsSegmentCode s width w (Halt p n count) code = code ≡ place_code w n (count - 1)
IsSegmentCode s width w Finish code = Unit {0}

-- behind a wait for more edges than one the counter counts down to 0
abbrev pub counted : Wide → ℕ → emitted_code.Code → emitted_code.Code
counted w (suc zero) code = code
counted w count code = emitted_code.If (emitted.Binary binary.Ne (variable counter_number) (emitted.Literal w.counter 0))
    (emitted_code.Assign (whole next_counter_number) (emitted.Binary binary.Sub (variable counter_number) (emitted.Literal w.counter 1)) emitted_code.End) code emitted_code.End

abbrev pub arms_from : ℕ → ℕ → List emitted_code.Code → emitted_code.Arms
arms_from width k [] = emitted_code.None
arms_from width k (c ∷ cs) = emitted_code.Arm width k c (arms_from width (suc k) cs)

-- of one state alone its code, else by the state's number
abbrev pub states_code : ℕ → List emitted_code.Code → emitted_code.Code
states_code zero [] = emitted_code.End
states_code zero (c ∷ cs) = c
states_code (suc w) cs = emitted_code.Case (variable state_number) (arms_from (suc w) 0 cs) emitted_code.End

-- the reset's cell as it is read; a constant one is its literal
abbrev pub read_cell : View → ℕ → emitted.Term
read_cell (Constant w) c = emitted.Literal 1 w
read_cell v c = variable (2 * c)

abbrev pub at_level : Bool → emitted.Term → emitted.Term
at_level true t = t
at_level false t = emitted.Unary unary.LogNot t

abbrev pub reset_term : Sight → Reset → emitted.Term
reset_term s r = at_level r.level (read_cell (s.view r.cell) r.cell)

-- an asynchronous reset stands at the registers alone
abbrev pub under_reset : Sight → Reset → (reset states : emitted_code.Code) → emitted_code.Code
under_reset s r reset states = if r.asynchronous then states else emitted_code.If (reset_term s r) reset states emitted_code.End

-- the code of each state: its segment, behind as many edges as its wait counts
pub record AreStates (s : Sight) (width : ℕ → ℕ) (w : Wide) (q : Process) (codes : List emitted_code.Code) : Type 0 where
  pub state : (k count : ℕ) → slice_get (counts (live_body s.cells q.body)) k ≡ Some count → (seg : Segment) × (code : emitted_code.Code)
      × (segment_at s.cells q (suc k) ≡ Some seg) × IsSegmentCode s width w seg code × (slice_get codes k ≡ Some (counted w count code))
  pub number_fits : (k count : ℕ) → slice_get (counts (live_body s.cells q.body)) k ≡ Some count → k < 2 ^ w.state
  pub count_fits : (k count : ℕ) → slice_get (counts (live_body s.cells q.body)) k ≡ Some count → count - 1 < 2 ^ w.counter

pub record IsThreadCode (s : Sight) (width : ℕ → ℕ) (w : Wide) (q : Process) (code : emitted_code.Code) : Type 0 where
  pub reset : Reset
  pub has_reset : q.reset ≡ Some reset
  pub segment : Segment
  pub is_first : segment_at s.cells q 0 ≡ Some segment
  pub reset_code : emitted_code.Code
  pub is_reset : reset.asynchronous ≡ false → IsSegmentCode s width w segment reset_code
  pub codes : List emitted_code.Code
  pub states : AreStates s width w q codes
  pub is_code : code ≡ under_reset s reset reset_code (states_code w.state codes)
  pub clocked : is_some q.edge ≡ true
  -- a sequential reset is a root that the process names, of one bit
  pub sees_reset : reset.asynchronous ≡ false → (s.mine reset.cell ≡ true) × (has_sort is_root s.cells reset.cell ≡ true) × (width_at s.cells reset.cell ≡ 1)

-- what a process's block does behind its first assignments
abbrev pub BodyBy : Bool → Sight → (ℕ → ℕ) → Wide → Process → emitted_code.Code → Type 0
BodyBy true s width w q code = IsThreadCode s width w q code
BodyBy false s width w q code = IsLoweredCode s width (live s.cells q.body) code

abbrev pub IsBody : Sight → (ℕ → ℕ) → Wide → Process → emitted_code.Code → Type 0
IsBody s width w q code = BodyBy q.is_thread s width w q code
