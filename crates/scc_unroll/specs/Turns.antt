-- Turns of counted loops, as the code finds them.
use Rattle.std.specs.Prelude.{ℕ, Bool, true, false, List, ◌++◌, map, Option, Some, None, option_map}
use Rattle.scc_bits_kinds.specs.declared.kind.Word.{Word}
use Rattle.scc_core.specs.declared.copy.Counter.{Counter as Held}
use Rattle.scc_core_spec.specs.Counted.{Counting, Turn, Turns, no_turns, one_more}
use Rattle.scc_unroll.specs.declared.counted.At.{At}
use Rattle.scc_unroll.specs.declared.counted.Counted.{Counted}
use Rattle.scc_unroll.specs.declared.ended.Ended.{Ended}
use Rattle.scc_unroll.specs.declared.turns.Turn.{Turn as HeldTurn}
use Rattle.scc_unroll.specs.declared.turns.Turns.{Turns as HeldTurns}
use Rattle.scc_unroll.specs.declared.turns.Going.{Going}
use Rattle.scc_unroll.specs.declared.turns.Going.TheVariants as going
use Rattle.scc_unroll_asked.specs.Read.{AreCounters, IsRead}

abbrev pub turn_of : HeldTurn → Turn
turn_of t = record { now = t.now.bits; next = t.next.bits }

abbrev pub turns_of : HeldTurns → Turns
turns_of t = record { list = map turn_of t.list; ends = t.ends }

-- a loop that is written out
abbrev pub ended_of : Ended → Counting
ended_of e = record { cell = e.cell; turns = record { list = map turn_of e.list; ends = true } }

-- what is asked of a loop has the values that the code finds
pub record IsTold (at : At) (ns : List Held) (g : Counted) : Type 0 where
  pub counters : AreCounters at.known.cells.now ns
  pub start : IsRead at.known g.start.now
  pub test : IsRead at.known g.turning.test.now
  pub step : IsRead at.known g.turning.step.now

abbrev pub going_by : Option Bool → Word → Option Word → Going
going_by None now next = going.Unknown
going_by (Some false) now next = going.Ends
going_by (Some true) now next = going.On now next

-- the turns from there on, by those behind the first
abbrev pub went : Going → (Option ℕ → Turns) → Turns
went going.Unknown more = no_turns false
went going.Ends more = no_turns true
went (going.On now next) more = one_more now.bits (option_map (λ w. w.bits) next) (more (option_map (λ w. w.bits) next))

-- turns behind others
abbrev pub put : List Turn → Turns → Turns
put xs ts = record { list = xs ++ ts.list; ends = ts.ends }
