-- What is known of the statements of code, and what sets of cells hold on a walk from their end backward. This project's own.
use Rattle.std.specs.Prelude.{◌≡◌, ℕ, Bool, true, false, List, [], ◌∷◌, length, map, Option, Some, None}
use Rattle.scc_core.specs.declared.expr.CoreLeft.{CoreLeft}
use Rattle.scc_core.specs.declared.statics.Known.{Known}
use Rattle.scc_core_flow.specs.declared.set.CellSet.{CellSet}
use Rattle.scc_core_flow.specs.Live.{Each}
use Rattle.scc_core_spec.specs.Code.{Code}
use Rattle.scc_core_spec.specs.Segments.{Segment, segment_code}
use Rattle.scc_core_spec.specs.Static.{Cells}
use Rattle.scc_core_spec.specs.Term.{Left, Pick}
use Rattle.scc_core_spec.specs.Uses.{Act, acts, among, cells_of, whole_writes}
use Rattle.scc_core_view.specs.Terms.{taken_of}
use Rattle.scc_states_cut.specs.declared.types.SegStmt.{SegStmt}
use Rattle.scc_states_cut.specs.Cut.{before, stmt_segment}
use Rattle.scc_states_kept.specs.declared.own.Own.{Own}
use Rattle.scc_states_kept.specs.Filled.{filled_in}
use Rattle.scc_states_kept.specs.Needs.{behind, needed}
use Rattle.scc_states_kept.specs.Rows.{cells_in}
use Rattle.scc_states_kept.specs.Slots.{Keeps, TellsUses, is_at}

-- Of the cells that are asked for, what is known tells which of them an assignment to this location may write, and to which it gives a whole value, as the
-- definition does.
pub record TellsWrite (known : Known) (cs : Cells) (only : ℕ → Bool) (w : Left × Pick) : Type 0 where
  pub names : (l : CoreLeft) → w.0 ≡ (taken_of l).left → (x : ℕ) → only x ≡ true → among x (cells_in known l) ≡ among x (cells_of cs w.0)
  pub fills : (l : CoreLeft) → w.0 ≡ (taken_of l).left → w.1 ≡ (taken_of l).pick → (x : ℕ) → only x ≡ true → is_at x (filled_in known l) ≡ among x (whole_writes cs w.0 w.1)

abbrev pub TellsWrites : Known → Cells → (ℕ → Bool) → Option (Left × Pick) → Type 0
TellsWrites known cs only None = Unit {0}
TellsWrites known cs only (Some w) = TellsWrite known cs only w

-- the same of a statement by itself
pub record TellsAct (known : Known) (cs : Cells) (only : ℕ → Bool) (a : Act) : Type 0 where
  pub reads : TellsUses known cs only a.reads
  pub writes : TellsWrites known cs only a.writes

-- and of all statements of some code
abbrev pub TellsCode : Known → Cells → (ℕ → Bool) → Code → Type 0
TellsCode known cs only c = Each (TellsAct known cs only) (acts c)

-- what is needed behind the n-th block around
abbrev pub left_at : ℕ → (ℕ → List Bool) → ℕ → Bool
left_at n outs x = behind n (outs x)

-- Sets for the open blocks, the innermost last: each holds what is needed behind its block.
abbrev pub Around : (ℕ → Bool) → Own → List CellSet → (ℕ → List Bool) → Type 0
Around only own [] outs = Unit {0}
Around only own (s ∷ ss) outs = Keeps only own s (left_at (length ss) outs) × Around only own ss outs

-- what is needed before code where these cells are needed behind it
abbrev pub needs : Cells → Code → (ℕ → Bool) → (ℕ → List Bool) → ℕ → Bool
needs cs c f outs x = needed cs x c (f x) (outs x)

abbrev pub nowhere : ℕ → List Bool
nowhere x = []

abbrev pub nothing : ℕ → Bool
nothing x = false

-- Where what is known tells of the statements of a segment, the set holds what is needed before it.
abbrev pub Meets : (ℕ → Bool) → Own → Cells → CellSet → Segment → Type 0
Meets only own cs set s = TellsCode own.known cs only (segment_code s) → Keeps only own set (needs cs (segment_code s) nothing nowhere)

-- statements of a segment before what follows, where waits have these counts
abbrev pub Counts : Type 0
Counts = List ℕ

abbrev pub before_rest : Counts → List SegStmt → Segment → Segment
before_rest waits ss rest = before (map (stmt_segment waits) ss) rest

-- what is needed behind each block around, by the cell
abbrev pub Outs : Type 0
Outs = ℕ → List Bool

-- the set of the n-th block
abbrev pub IsAround : List CellSet → ℕ → CellSet → Type 0
IsAround sets n s = (only : ℕ → Bool) (own : Own) (outs : Outs) → Around only own sets outs → Keeps only own s (left_at n outs)
