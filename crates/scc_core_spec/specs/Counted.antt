-- Counted loops: which loops are written out, and their turns. The form of loop is this project's own (ISO C++ [stmt.for]).
use Rattle.std.specs.Prelude.{ℕ, zero, suc, ◌+◌, Bool, true, false, not, ◌&&◌, nat_eq, nat_le, List, [], ◌∷◌, Option, Some, None, option_map, option_and_then, find, unwrap_or, is_some, slice_get, if◌then◌else◌}
use Rattle.scc_base.specs.declared.refusal.Place.{Place}
use Rattle.scc_bits_kinds.specs.declared.kind.Kind.{Kind}
use Rattle.scc_semantics.specs.Location.{Part, same_path}
use Rattle.scc_core_spec.specs.Term.{Term, Literal, Load, Read, Convert, Unary, Binary, Choose, Bit, Range, Join, Left, Cell, Prefix, Null, Follow, Member, Index, Pick, Whole, OneBit, Bits, CellName, Own}
use Rattle.scc_core_spec.specs.Code.{Code, Count, Pointed, Declared, Assigned, End, Put, Aim, If, Block, Loop, Exit, Wait, holds_wait}
use Rattle.scc_core_spec.specs.Program as program
use Rattle.scc_core_spec.specs.Program.{is_pointer}
use Rattle.scc_core_spec.specs.Static.{Cells, static, goes}

-- a counter that stands as a literal
pub record Counter : Type 0 where
  pub cell : ℕ
  pub word : ℕ

abbrev pub counter_at : List Counter → Left → Option Counter
counter_at ns (Cell p n) = find (λ c. nat_eq n c.cell) ns
counter_at ns _ = None

-- the literal keeps the kind of what it stands for
abbrev pub loaded_as : Option Counter → Place → Kind → Left → Term
loaded_as (Some c) p k l = Literal p k c.word
loaded_as None p k l = Load p k l

abbrev mutual
  -- with the counters as literals
  pub counting : List Counter → Term → Term
  counting ns (Literal p k w) = Literal p k w
  counting ns (Load p k l) = loaded_as (counter_at ns l) p k (counting_left ns l)
  counting ns (Read p k l) = Read p k (counting_left ns l)
  counting ns (Convert p k e) = Convert p k (counting ns e)
  counting ns (Unary p k o a) = Unary p k o (counting ns a)
  counting ns (Binary p k o a b) = Binary p k o (counting ns a) (counting ns b)
  counting ns (Choose p k t a b) = Choose p k (counting ns t) (counting ns a) (counting ns b)
  counting ns (Bit p a e) = Bit p (counting ns a) (counting ns e)
  counting ns (Range p k a h l) = Range p k (counting ns a) h l
  counting ns (Join p k a b) = Join p k (counting ns a) (counting ns b)

  pub counting_left : List Counter → Left → Left
  counting_left ns (Cell p n) = Cell p n
  counting_left ns (Prefix p n) = Prefix p n
  counting_left ns (Null p) = Null p
  counting_left ns (Follow p s l) = Follow p s (counting_left ns l)
  counting_left ns (Member l n) = Member (counting_left ns l) n
  counting_left ns (Index l size e) = Index (counting_left ns l) size (counting ns e)

abbrev pub counting_pick : List Counter → Pick → Pick
counting_pick ns Whole = Whole
counting_pick ns (OneBit e) = OneBit (counting ns e)
counting_pick ns (Bits h l) = Bits h l

abbrev pub is_cell : ℕ → Left → Bool
is_cell n (Cell p m) = nat_eq n m
is_cell n _ = false

abbrev pub is_whole : Pick → Bool
is_whole Whole = true
is_whole _ = false

-- what stands around a statement: the cells, the name of its process and the whole body
pub record Setting : Type 0 where
  pub cells : Cells
  pub path : List Part
  pub body : Code

-- the local that a name has as a whole, by its number
abbrev pub own_whole : Option Own → List ℕ → Option ℕ
own_whole (Some o) [] = Some o.number
own_whole _ _ = None

abbrev pub own_of : CellName → Option ℕ
own_of n = own_whole n.own n.indices

abbrev pub own_at : Cells → Left → Option ℕ
own_at cs (Cell p n) = option_and_then (λ c. own_of c.name) (slice_get cs n)
own_at cs (Prefix p n) = own_of n
own_at cs _ = None

abbrev pub is_it : ℕ → Option ℕ → Bool
is_it o None = false
is_it o (Some m) = nat_eq o m

abbrev pub times : ℕ → Bool → ℕ
times n true = n
times n false = 0

-- how often statements assign a local as a whole; one that leads a pointer to it counts as more than any loop does
abbrev pub uses : Cells → ℕ → Code → ℕ
uses cs o End = 0
uses cs o (Put p l k e r) = times 1 (is_it o (own_at cs l)) + uses cs o r
uses cs o (Aim p to t r) = times 3 (is_it o (own_at cs t)) + uses cs o r
uses cs o (If p t a b r) = uses cs o a + (uses cs o b + uses cs o r)
uses cs o (Block p b r) = uses cs o b + uses cs o r
uses cs o (Loop p n b r) = uses cs o b + uses cs o r
uses cs o (Exit p n r) = uses cs o r
uses cs o (Wait p l n r) = uses cs o r

-- a counter is a local of the process that is no array, by its number
abbrev pub number_of : List Part → Option program.Cell → Option ℕ
number_of path None = None
number_of path (Some c) = if same_path c.name.path path && not (is_pointer c.sort) then own_of c.name else None

abbrev pub counter_number : Setting → ℕ → Option ℕ
counter_number s n = number_of s.path (slice_get s.cells n)

-- nothing but what begins and steps the loop assigns it, and no pointer leads to it
abbrev pub is_seldom : Setting → Option ℕ → Bool
is_seldom s None = false
is_seldom s (Some o) = nat_le (uses s.cells o s.body) 2

-- the parts of the body of a loop with a count: the test that leaves it, a turn, and the step, which gives the counter its next value
pub record Turning : Type 0 where
  pub test : Term
  pub turn_place : Place
  pub turn : Code
  pub step_place : Place
  pub step_left : Left
  pub step : Term

abbrev pub step_of : Term → Place → Code → Code → Option Turning
step_of t p b (Put q l k e r) = Some (record { test = t; turn_place = p; turn = b; step_place = q; step_left = l; step = e })
step_of t p b _ = None

abbrev pub turn_of : Term → Code → Option Turning
turn_of t (Block p b r) = step_of t p b r
turn_of t _ = None

abbrev pub turning_of : Code → Option Turning
turning_of (If p t a b r) = turn_of t r
turning_of _ = None

abbrev pub is_end : Code → Bool
is_end End = true
is_end _ = false

abbrev pub leaves_block : Code → Bool
leaves_block (Exit p n r) = nat_eq n 0 && is_end r
leaves_block _ = false

abbrev pub is_step : ℕ → Code → Bool
is_step n (Put p l k e r) = is_cell n l && (is_whole k && is_end r)
is_step n _ = false

abbrev pub is_turn : ℕ → Code → Bool
is_turn n (Block p b r) = is_step n r
is_turn n _ = false

-- a test that leaves the block where it fails, a block, and an assignment of the counter
abbrev pub is_turning : ℕ → Code → Bool
is_turning n (If p t a b r) = is_end a && (leaves_block b && is_turn n r)
is_turning n _ = false

-- an assignment
pub record Start : Type 0 where
  pub left : Left
  pub pick : Pick
  pub value : Term

-- where a statement stands: it is its block's first, or stands behind that one, which is an assignment, or elsewhere
pub data Stand : Type 0 where
  First : Stand
  Behind : (start : Start) → Stand
  Elsewhere : Stand

abbrev pub behind : Stand → Start → Stand
behind First z = Behind z
behind _ z = Elsewhere

abbrev pub is_static : Cells → List Counter → Term → Bool
is_static cs ns e = is_some (static cs (counting ns e))

-- A counted loop holds no wait; its start, bound and step are static where the counters around stand as literals; it and, before it, the assignment
-- that begins its counter are a block; beside that one its step alone assigns the counter, and no pointer leads to it.
abbrev pub counts : Setting → List Counter → Start → Count → Code → Code → Bool
counts s ns z c b r = not (holds_wait b) && (is_static s.cells ns c.start && (is_static s.cells ns c.bound && (is_static s.cells ns c.step
    && (is_cell c.cell z.left && (is_whole z.pick && (is_end r && (is_turning c.cell b && is_seldom s (counter_number s c.cell))))))))

-- a turn: the counter in it and behind it
pub record Turn : Type 0 where
  pub now : ℕ
  pub next : ℕ

-- turns, and whether they come to an end, with each test and step static
pub record Turns : Type 0 where
  pub list : List Turn
  pub ends : Bool

abbrev pub no_turns : Bool → Turns
no_turns ends = record { list = []; ends = ends }

abbrev pub one_more : ℕ → Option ℕ → Turns → Turns
one_more now next ts = record { list = record { now = now; next = unwrap_or next 0 } ∷ ts.list; ends = ts.ends }

abbrev pub if_goes : Option Bool → (Unit {0} → Turns) → Turns
if_goes None more = no_turns false
if_goes (Some false) more = no_turns true
if_goes (Some true) more = more tt

abbrev pub counter : ℕ → ℕ → Counter
counter n x = record { cell = n; word = x }

-- at most so many turns: one begins where the test lets it in
abbrev pub turns_from : Cells → List Counter → ℕ → Turning → ℕ → Option ℕ → Turns
turns_from cs ns n t zero x = no_turns false
turns_from cs ns n t (suc left) None = no_turns false
turns_from cs ns n t (suc left) (Some x) = if_goes (goes cs (counting (counter n x ∷ ns) t.test))
    (λ _. one_more x (static cs (counting (counter n x ∷ ns) t.step)) (turns_from cs ns n t left (static cs (counting (counter n x ∷ ns) t.step))))

-- one turn more than a process may have
abbrev pub enough_turns : ℕ
enough_turns = 4097

abbrev pub turns_by : Cells → List Counter → ℕ → Term → Option Turning → Turns
turns_by cs ns n start None = no_turns false
turns_by cs ns n start (Some t) = turns_from cs ns n t enough_turns (static cs (counting ns start))

-- a loop that is counted: its counter's cell and its turns
pub record Counting : Type 0 where
  pub cell : ℕ
  pub turns : Turns

abbrev pub counted_by : Setting → List Counter → Stand → Option Count → Code → Code → Option Counting
counted_by s ns (Behind z) (Some c) b r = if counts s ns z c b r then Some (record { cell = c.cell; turns = turns_by s.cells ns c.cell z.value (turning_of b) }) else None
counted_by s ns _ _ b r = None

-- it is written out where its turns come to an end
abbrev pub ended : Option Counting → Option Counting
ended None = None
ended (Some g) = if g.turns.ends then Some g else None

-- counters of the counted loops around a loop, as 0
abbrev pub around : List Counter → Option Counting → List Counter
around ns None = ns
around ns (Some g) = counter g.cell 0 ∷ ns
