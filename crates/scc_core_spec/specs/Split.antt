-- What is refused of a thread that is cut into segments, and of the elements under indices that aren't static. The limits are this
-- project's own.
use Rattle.std.specs.Prelude.{ℕ, zero, suc, ◌+◌, ◌-◌, Bool, true, false, ◌&&◌, ◌||◌, not, nat_eq, nat_lt, List, [], ◌∷◌, ◌++◌, flat_map, drop, Option, Some, None, option_map, unwrap_or, if◌then◌else◌, is_some}
use Rattle.scc_base.specs.declared.refusal.Place.{Place}
use Rattle.scc_base.specs.declared.refusal.Refusal.{Refusal}
use Rattle.scc_base.specs.declared.code.Code.TheVariants as reason
use Rattle.scc_core_spec.specs.Term.{Term, Left, Pick}
use Rattle.scc_core_spec.specs.Code.{Code, End, Put, Aim, If, Block, Loop, Exit, Wait}
use Rattle.scc_core_spec.specs.Program.{Process, Program, Reset}
use Rattle.scc_core_spec.specs.Static.{Cells, static, goes}
use Rattle.scc_core_spec.specs.Segments.{Segment, Plain, Test, Halt, Finish, all_segments, opens}
use Rattle.scc_core_spec.specs.Sizes.{live_body, index_sum}
use Rattle.scc_core_spec.specs.Live.{live}
use Rattle.scc_core_spec.specs.Uses.{cells_of, is_single, is_all, width_at}
use Rattle.scc_core_spec.specs.Rules.{waits}
use Rattle.scc_core_spec.specs.First.{or_else, first_of, first_some, when, refused}

-- a statement of a segment and how deep it stands, 1 for one that stands in no other
pub record Stood : Type 0 where
  pub place : Place
  pub depth : ℕ

abbrev pub stood : ℕ → Code → List Stood
stood d End = []
stood d (Put p l k e r) = record { place = p; depth = d } ∷ stood d r
stood d (Aim p to t r) = record { place = p; depth = d } ∷ stood d r
stood d (If p t a b r) = record { place = p; depth = d } ∷ (stood (d + 1) a ++ (stood (d + 1) b ++ stood d r))
stood d (Block p b r) = record { place = p; depth = d } ∷ (stood (d + 1) b ++ stood d r)
stood d (Loop p n b r) = record { place = p; depth = d } ∷ (stood (d + 1) b ++ stood d r)
stood d (Exit p n r) = record { place = p; depth = d } ∷ stood d r
stood d (Wait p l n r) = record { place = p; depth = d } ∷ stood d r

abbrev pub stood_in : ℕ → Segment → List Stood
stood_in d (Plain c s) = stood d c ++ stood_in d s
stood_in d (Test p t a b) = record { place = p; depth = d } ∷ (stood_in (d + 1) a ++ stood_in (d + 1) b)
stood_in d (Halt p l n) = record { place = p; depth = d } ∷ []
stood_in d Finish = []

-- the first that stands behind so many others, or deeper than that
abbrev pub first_past : ℕ → ℕ → List Stood → Option Place
first_past left deepest [] = None
first_past left deepest (s ∷ ss) = if nat_eq left 0 || nat_lt deepest s.depth then Some s.place else first_past (left - 1) deepest ss

-- E603: the 16,385th wait; E604: the first statement of the segments past 65,536 together or deeper than 1,024, the reset segment first
abbrev pub most_waits : ℕ
most_waits = 16384

abbrev pub most_statements : ℕ
most_statements = 65536

abbrev pub deepest : ℕ
deepest = 1024

abbrev pub too_many_states : Cells → Process → Option Refusal
too_many_states cs p = first_of (λ at. Some (refused reason.TooManyStates at)) (drop most_waits (waits (live cs p.body)))

abbrev pub segments_too_large : Cells → Process → Option Refusal
segments_too_large cs p = option_map (refused reason.SegmentsTooLarge) (first_past most_statements deepest (flat_map (stood_in 1) (all_segments (live_body cs p.body))))

-- a value that an asynchronous reset can load: a static value for one whole cell
abbrev pub one_cell : List ℕ → Option ℕ
one_cell (n ∷ []) = Some n
one_cell _ = None

abbrev pub gives_static : Cells → Left → Pick → Term → Bool
gives_static cs l k e = is_some (static cs e) && (is_single cs l && unwrap_or (option_map (λ n. is_all cs (width_at cs n) k) (one_cell (cells_of cs l))) false)

-- E514: of statements without a wait, the first assignment or test that isn't so, with all that stands in them
abbrev pub unloaded : Cells → Code → Option Place
unloaded cs End = None
unloaded cs (Put p l k e r) = or_else (when (not (gives_static cs l k e)) p) (unloaded cs r)
unloaded cs (Aim p to t r) = unloaded cs r
unloaded cs (If p t a b r) = first_some (when (not (is_some (goes cs t))) p ∷ unloaded cs a ∷ unloaded cs b ∷ unloaded cs r ∷ [])
unloaded cs (Block p b r) = or_else (unloaded cs b) (unloaded cs r)
unloaded cs (Loop p n b r) = or_else (unloaded cs b) (unloaded cs r)
unloaded cs (Exit p n r) = unloaded cs r
unloaded cs (Wait p l n r) = unloaded cs r

-- what the walk along the reset segment of the whole body comes to: its end, with the first place that isn't so; or it goes on, or leaves a block
pub data Along : Type 0 where
  Ended : (first : Option Place) → Along
  On : (first : Option Place) → Along
  Out : (depth : ℕ) (first : Option Place) → Along

abbrev pub before : Option Place → Along → Along
before first (Ended f) = Ended (or_else first f)
before first (On f) = On (or_else first f)
before first (Out n f) = Out n (or_else first f)

abbrev pub then_along : Along → Along → Along
then_along (On f) y = before f y
then_along x y = x

abbrev pub shut_along : Along → Along → Along
shut_along (On f) y = before f y
shut_along (Out zero f) y = before f y
shut_along (Out (suc n) f) y = Out n f
shut_along (Ended f) y = Ended f

abbrev pub one_way : Option Bool → Place → Along → Along → Along
one_way (Some true) p x y = x
one_way (Some false) p x y = y
one_way None p x y = Ended (Some p)

abbrev pub plain_or : Bool → Along → Along → Along
plain_or true cut plain = cut
plain_or false cut plain = plain

-- a loop in the reset segment is entered once: a wait stands on every path through it
abbrev pub along : Cells → Code → Along
along cs End = On None
along cs (Put p l k e r) = before (unloaded cs (Put p l k e End)) (along cs r)
along cs (Aim p to t r) = along cs r
along cs (If p t a b r) = plain_or (opens 0 (If p t a b End)) (then_along (one_way (goes cs t) p (along cs a) (along cs b)) (along cs r)) (before (unloaded cs (If p t a b End)) (along cs r))
along cs (Block p b r) = plain_or (opens 0 (Block p b End)) (shut_along (along cs b) (along cs r)) (before (unloaded cs (Block p b End)) (along cs r))
along cs (Loop p n b r) = plain_or (opens 0 (Loop p n b End)) (then_along (along cs b) (Ended None)) (before (unloaded cs (Loop p n b End)) (along cs r))
along cs (Exit p n r) = Out n None
along cs (Wait p l n r) = Ended None

abbrev pub first_along : Along → Option Place
first_along (Ended f) = f
first_along (On f) = f
first_along (Out n f) = f

abbrev pub is_asynchronous : Option Reset → Bool
is_asynchronous None = false
is_asynchronous (Some r) = r.asynchronous

abbrev pub reset_value : Cells → Process → Option Refusal
reset_value cs p = if is_asynchronous p.reset then option_map (refused reason.ResetValue) (first_along (along cs p.body)) else None

-- what is refused of a thread, one after the other; a method isn't cut
abbrev pub first_split : Program → Process → Option Refusal
first_split p q = if q.is_thread then first_some (too_many_states p.cells q ∷ segments_too_large p.cells q ∷ reset_value p.cells q ∷ []) else None

-- E605, at the first process
abbrev pub most_elements : ℕ
most_elements = 1048576

abbrev pub index_too_wide : Program → Option Refusal
index_too_wide p = if nat_lt most_elements (index_sum p) then first_of (λ q. Some (refused reason.IndexTooWide q.place)) p.processes else None

-- the first refusal of rules, states and size
abbrev pub first_after_passes : (Program → Option Refusal) → Program → Option Refusal
first_after_passes first_rule p = first_some (first_rule p ∷ first_of (first_split p) p.processes ∷ index_too_wide p ∷ [])
