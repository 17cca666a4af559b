-- Whether an assignment fills one whole cell. This project's own.
use Rattle.std.specs.Prelude.{ℕ, ◌+◌, ◌&&◌, min, Bool, true, false, nat_eq, if◌then◌else◌, List, [], ◌∷◌, length, Option, Some, None, slice_get}
use Rattle.scc_bits.specs.Value.{Number}
use Rattle.scc_bits_kinds.specs.declared.kind.Kind.{Kind}
use Rattle.scc_bits_kinds.specs.Kinds.{width_of}
use Rattle.scc_core.specs.declared.expr.CoreBase.{CoreBase}
use Rattle.scc_core.specs.declared.expr.CoreBase.TheOpen.{CorePick-F}
use Rattle.scc_core.specs.declared.expr.CoreBase.TheOpen as tree
use Rattle.scc_core.specs.declared.expr.CoreExpr.{CoreExpr}
use Rattle.scc_core.specs.declared.expr.CoreExprNode.{CoreExprNode}
use Rattle.scc_core.specs.declared.expr.CoreLeft.{CoreLeft}
use Rattle.scc_core.specs.declared.expr.CorePart.{CorePart}
use Rattle.scc_core.specs.declared.expr.CorePick.{CorePick, out-CorePick}
use Rattle.scc_core.specs.declared.named.Named.{Named}
use Rattle.scc_core.specs.declared.program.Cell.{Cell}
use Rattle.scc_core.specs.declared.statics.Known.{Known}
use Rattle.scc_core.specs.Known.{facts_in}
use Rattle.scc_core.specs.Located.{named_in}
use Rattle.scc_core.specs.Statics.{value_in}

abbrev pub is_zero : Option Number → Bool
is_zero None = false
is_zero (Some v) = nat_eq v.word 0

-- what is taken is all of a number of a kind
abbrev pub all_by : Known → Kind → CorePick-F CoreBase CoreExprNode CorePart CorePick CoreExpr CoreLeft → Bool
all_by known k (tree.Bit of at) = nat_eq (width_of k) 1 && is_zero (value_in (facts_in known) at)
all_by known k (tree.Range of h l) = nat_eq l 0 && nat_eq (min (h + 1) 4294967295) (width_of k)

unfoldable pub pick_all : Known → CorePick → Kind → Bool
pick_all known q k = all_by known k (out-CorePick q)

abbrev pub all_in : Known → Option CorePick → Kind → Bool
all_in known None k = true
all_in known (Some q) k = pick_all known q k

abbrev pub fills_cell : Known → CoreLeft → Named → Option Cell → Bool
fills_cell known l n None = false
fills_cell known l n (Some c) = nat_eq (length n.dims) 0 && all_in known l.pick c.kind

abbrev pub fills : Known → CoreLeft → Option Named → Bool
fills known l None = false
fills known l (Some n) = fills_cell known l n (slice_get known.cells.now n.base)

-- the cell that is filled, if one is
abbrev pub filled_by : Known → CoreLeft → Option Named → Option ℕ
filled_by known l None = None
filled_by known l (Some n) = if fills known l (Some n) then Some n.base else None

unfoldable pub filled_in : Known → CoreLeft → Option ℕ
filled_in known l = filled_by known l (named_in known l)
