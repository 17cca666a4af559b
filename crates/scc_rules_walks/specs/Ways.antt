-- How paths come to statements: by the least depth of a loop from whose body's start one comes without a wait, 0 for the beginning of the function.
use Rattle.std.specs.Prelude.{◌≡◌, ◌≤◌, ℕ, min, nat_le, Bool, true, false, if◌then◌else◌, List, [], ◌∷◌, length, Option, Some, None}
use Rattle.scc_base.specs.declared.refusal.Place.{Place}
use Rattle.scc_core_spec.specs.First.{or_else, first_of}
use Rattle.scc_core_spec.specs.Flow.{Idle}
use Rattle.scc_rules_walks.specs.declared.ways.Out.{Out}

abbrev pub Way : Type 0
Way = Option ℕ

abbrev pub least : Way → Way → Way
least None b = b
least (Some a) None = Some a
least (Some a) (Some b) = Some (min a b)

-- behind code, to whose end a path comes without a wait or not
abbrev pub pass : Bool → Way → Way
pass true way = way
pass false way = None

-- out of a block of that depth: a loop inside it is left
abbrev pub cut : ℕ → Way → Way
cut depth None = None
cut depth (Some h) = if nat_le h depth then Some h else None

-- at the start of the body of a loop of that depth
abbrev pub start : ℕ → Way → ℕ
start depth None = depth
start depth (Some h) = min h depth

-- open blocks, the innermost last, with how they are left besides; blocks are counted outward from 0
abbrev pub marked : (ℕ → Bool) → Way → List Out → List Out
marked f h [] = []
marked f h (o ∷ os) = record { way = least o.way (pass (f (length os)) (cut o.depth h)); depth = o.depth } ∷ marked f h os

abbrev pub within : ℕ → Way → Type 0
within depth None = Unit {0}
within depth (Some h) = h ≤ depth

abbrev pub AreWithin : ℕ → List Out → Type 0
AreWithin depth [] = Unit {0}
AreWithin depth (o ∷ os) = (o.depth ≤ depth) × AreWithin depth os

-- what a walk over code tells and marks, and the first loop at fault
pub record Passed (x : Idle) (xs : List Place) (here way : Way) (outs now : List Out) (first found : Option Place) : Type 0 where
  pub ends : way ≡ pass x.ends here
  pub marks : now ≡ marked x.leaves here outs
  pub places : found ≡ or_else first (first_of Some xs)

-- the first loop at fault behind a loop: one before it, or itself where a path comes to its body's end, or one inside
abbrev pub first_loop : Option Place → Option Place → Way → Place → Option Place
first_loop None inside (Some h) place = Some place
first_loop None inside None place = inside
first_loop (Some before) inside end place = inside
