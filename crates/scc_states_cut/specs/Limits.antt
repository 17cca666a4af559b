-- What is refused of a body that is cut, and what its cut is. This project's own.
use Rattle.std.specs.Prelude.{◌≡◌, ℕ, List, ◌∷◌, map, flat_map, drop, Option, Some, None, option_map, Result, Ok, Err}
use Rattle.scc_base.specs.declared.refusal.Place.{Place}
use Rattle.scc_base.specs.declared.refusal.Refusal.{Refusal}
use Rattle.scc_base.specs.declared.refusal.Stop.{Stop}
use Rattle.scc_base.specs.declared.refusal.Stop.TheVariants as stop
use Rattle.scc_base.specs.declared.code.Code.TheVariants as reason
use Rattle.scc_core_spec.specs.Code.{Code, numbered}
use Rattle.scc_core_spec.specs.First.{or_else, first_of, refused}
use Rattle.scc_core_spec.specs.Rules.{waits}
use Rattle.scc_core_spec.specs.Segments.{Segment, all_segments}
use Rattle.scc_core_spec.specs.Segments as part
use Rattle.scc_core_spec.specs.Split.{first_past, stood_in, deepest, most_statements, most_waits}
use Rattle.scc_states_cut.specs.declared.body.CutBody.{CutBody}
use Rattle.scc_states_cut.specs.Cut.{segment_of}

-- E603: the first wait behind so many
abbrev pub too_many : List Place → Option Refusal
too_many ps = first_of (λ at. Some (refused reason.TooManyStates at)) (drop most_waits ps)

-- E604
abbrev pub too_large : List Segment → Option Refusal
too_large ss = option_map (refused reason.SegmentsTooLarge) (first_past most_statements deepest (flat_map (stood_in 1) ss))

-- what is refused of a live body that is cut: its waits first
abbrev pub first_cut : Code → Option Refusal
first_cut c = or_else (too_many (waits c)) (too_large (all_segments (numbered 0 c)))

-- the refusal is this; want of memory tells nothing
abbrev pub Stops : Option Refusal → Stop → Type 0
Stops o (stop.Refused r) = o ≡ Some r
Stops o stop.NoMemory = Unit {0}

abbrev pub AreFew : List Place → Result Unit Stop → Type 0
AreFew ps (Ok u) = too_many ps ≡ None
AreFew ps (Err e) = Stops (too_many ps) e

-- what is built of the reset segment and of those behind the waits, of a thread whose waits have these counts
pub record IsMade (waits : List ℕ) (x : Segment) (xs : List Segment) (b : CutBody) : Type 0 where
  pub counts : b.waits ≡ waits
  pub reset : segment_of waits b.reset ≡ x
  pub segments : map (segment_of waits) b.segments ≡ xs
  pub fits : too_large (x ∷ xs) ≡ None

abbrev pub IsBuilt : List ℕ → Segment → List Segment → Result CutBody Stop → Type 0
IsBuilt waits x xs (Ok b) = IsMade waits x xs b
IsBuilt waits x xs (Err e) = Stops (too_large (x ∷ xs)) e

-- The cut of a live body: the counts of its waits in text order, and the segments of the body whose waits are numbered in that order.
pub record IsCutOf (c : Code) (b : CutBody) : Type 0 where
  pub counts : b.waits ≡ part.counts (numbered 0 c)
  pub segments : segment_of b.waits b.reset ∷ map (segment_of b.waits) b.segments ≡ all_segments (numbered 0 c)
  pub fits : first_cut c ≡ None

abbrev pub IsCut : Code → Result CutBody Stop → Type 0
IsCut c (Ok b) = IsCutOf c b
IsCut c (Err e) = Stops (first_cut c) e
