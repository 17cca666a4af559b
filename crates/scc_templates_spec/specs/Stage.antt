-- The walk over all that is needed, in the order in which it is first needed, and what the whole stage refuses first. This project's own.
use Rattle.std.specs.Prelude.{◌≡◌, ℕ, zero, suc, ◌+◌, nat_eq, nat_lt, Bool, ◌&&◌, List, [], ◌∷◌, ◌++◌, slice_get, Option, Some, None, if◌then◌else◌}
use Rattle.scc_base.specs.declared.refusal.Place.{Place}
use Rattle.scc_base.specs.declared.refusal.Refusal.{Refusal}
use Rattle.scc_base.specs.declared.code.Code.TheVariants as reason
use Rattle.scc_base.specs.Code.{code_number}
use Rattle.scc_templates_spec.specs.Walk.{Event, Needed, Tally, Went, went_on, then_go, go, refusal, empty}

-- `walk_of` is the walk over one class or function
module _ (walk_of : Needed → List Event) where
  abbrev pub all_of : List Needed → List Event
  all_of [] = []
  all_of (x ∷ xs) = walk_of x ++ all_of xs

  -- what walking a queue's own entries needs, beginning with a first queue, is the queue: said without an order of work
  abbrev pub IsReached : Tally → Tally → Type 0
  IsReached first t = go (all_of t.queue) first ≡ went_on t

  abbrev pub next : Tally → Option Needed → (Tally → Went) → Went
  next t None more = went_on t
  next t (Some x) more = then_go (go (walk_of x) t) more

  -- entry after entry, from number i on, so many at most
  abbrev pub stage : ℕ → ℕ → Tally → Went
  stage zero i t = went_on t
  stage (suc n) i t = next t (slice_get t.queue i) (stage n (i + 1))

  abbrev pub enough : ℕ
  enough = 18446744073709551615

  -- the whole stage behind a first walk
  unfoldable pub staged_from : List Event → Went
  staged_from first = then_go (go first empty) (stage enough 0)

abbrev pub same_place : Place → Place → Bool
same_place p q = nat_eq p.file q.file && nat_eq p.at q.at

-- A late call (E313) stands where nothing else is refused, or before what is: but at one place the smaller number comes first.
abbrev pub before_late : Place → Option Refusal → Refusal
before_late l None = refusal reason.CallPlace l None
before_late l (Some r) = if same_place r.place l && nat_lt (code_number r.code) 313 then r else refusal reason.CallPlace l None

abbrev pub by_late : Option Place → Option Refusal → Option Refusal
by_late None stop = stop
by_late (Some l) stop = Some (before_late l stop)

abbrev pub judged : Went → Option Refusal
judged w = by_late w.tally.late w.stop
