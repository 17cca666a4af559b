-- What is asked of an expression beside its first operand. This project's own.
use Rattle.std.specs.Prelude.{◌≡◌, ℕ, Bool, false, true, nat_le, List, map, Option, Some, None, slice_get}
use Rattle.scc_bits_kinds.specs.declared.kind.Kind.{Kind}
use Rattle.scc_bits_kinds.specs.declared.op.Op.{Op}
use Rattle.scc_bits_kinds.specs.Operators.{Divisor}
use Rattle.scc_bits.specs.Value.{Number}
use Rattle.scc_core.specs.declared.expr.CoreExpr.{CoreExpr}
use Rattle.scc_core.specs.declared.program.Cell.{Cell}
use Rattle.scc_core.specs.Statics.{static_of}
use Rattle.scc_core_spec.specs.Named.{steps_of}
use Rattle.scc_core_spec.specs.Static.{found}
use Rattle.scc_core_view.specs.Programs.{cell_of}
use Rattle.scc_core_view.specs.Terms.{name_of}
use Rattle.scc_core_view.specs.Whole.{Answers, IsWhole}

-- each cell has its name for itself
abbrev pub HaveNames : List Cell → Type 0
HaveNames cells = (n : ℕ) (c : Cell) → slice_get cells n ≡ Some c → found (map cell_of cells) (steps_of (name_of c.name)) ≡ Some (cell_of c)

module _ (cells : List Cell) where
  abbrev pub IfWhole : Option CoreExpr → Type 0
  IfWhole None = Unit {0}
  IfWhole (Some e) = IsWhole cells e

  -- no divisor that is known is 0
  abbrev pub Divides : Op → CoreExpr → Type 0
  Divides o e = (n : Number) → static_of cells e ≡ Some n → Divisor o n.word

  -- an operator behind a first operand of a kind
  abbrev pub IsOperated : Kind → Op → Kind → Option CoreExpr → Type 0
  IsOperated k o j None = Answers o j j k × ((y : ℕ) → Divisor o y)
  IsOperated k o j (Some e) = Answers o j e.kind k × Divides o e × IsWhole cells e

-- an index that is known is no less than a bound
abbrev pub is_past : ℕ → Option ℕ → Bool
is_past bound None = false
is_past bound (Some i) = nat_le bound i

-- and so is what is no number of an element
abbrev pub reaches : ℕ → Option ℕ → Bool
reaches bound None = true
reaches bound (Some i) = nat_le bound i
