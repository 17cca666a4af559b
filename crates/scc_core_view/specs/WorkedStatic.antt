-- Expressions over `const sc_uint<8> x = 8; const sc_uint<8> m[2] = {5, 7};`, worked by hand, as the trees of the code.
use Rattle.std.specs.Prelude.{ℕ, true, false, List, [], ◌∷◌, Some, None}
use Rattle.scc_base.specs.declared.path.PathPart.{PathPart}
use Rattle.scc_base.specs.declared.path.PathPart.TheVariants as path_part
use Rattle.scc_bits_kinds.specs.declared.kind.Kind.{Kind}
use Rattle.scc_bits_kinds.specs.declared.kind.Kind.TheVariants as kind
use Rattle.scc_bits_kinds.specs.declared.op.Op.TheVariants as op
use Rattle.scc_core.specs.declared.expr.CoreExpr.{CoreExpr}
use Rattle.scc_core.specs.declared.expr.CoreBase.{roll-CoreBase}
use Rattle.scc_core.specs.declared.expr.CorePart.{CorePart, roll-CorePart}
use Rattle.scc_core.specs.declared.expr.CorePick.{roll-CorePick}
use Rattle.scc_core.specs.declared.expr.CoreBase.TheOpen as tree
use Rattle.scc_core.specs.declared.program.Cell.{Cell}
use Rattle.scc_core.specs.declared.program.CellName.{CellName}
use Rattle.scc_core.specs.declared.program.CellSort.TheVariants as sort
use Rattle.scc_core_spec.specs.Worked.{here}
use Rattle.scc_core_view.specs.Whole.{location, made}

abbrev pub byte : Kind
byte = kind.Uint 8

-- the kind in which an `sc_uint` and an `int` meet
abbrev pub long : Kind
long = kind.Native 64 false

abbrev pub int : Kind
int = kind.Native 32 true

abbrev pub path : List PathPart → CellName
path ps = record { path = ps; local = None; indices = [] }

abbrev pub named : ℕ → PathPart
named n = path_part.Member (record { 0 = n })

abbrev pub fixed_cell : List PathPart → ℕ → Cell
fixed_cell ps w = record { name = path ps; kind = byte; sort = sort.Variable (record { bits = w }) true; place = here }

abbrev pub fixed_cells : List Cell
fixed_cells = fixed_cell (named 0 ∷ []) 8 ∷ fixed_cell (named 1 ∷ path_part.Index 0 ∷ []) 5 ∷ fixed_cell (named 1 ∷ path_part.Index 1 ∷ []) 7 ∷ []

abbrev pub literal_of : ℕ → CoreExpr
literal_of n = made here int (tree.Lit (record { bits = n }))

-- `x[i]`
abbrev pub bit_of : ℕ → CoreExpr
bit_of i = made here kind.Bool (tree.Load (location here (roll-CoreBase (tree.Cell 0)) [] (Some (roll-CorePick (tree.Bit byte (literal_of i))))))

abbrev pub indices : ℕ → List CorePart
indices i = roll-CorePart (tree.Index 2 (literal_of i)) ∷ []

-- `m[i]`
abbrev pub element_of : ℕ → CoreExpr
element_of i = made here byte (tree.Load (location here (roll-CoreBase (tree.Prefix (path (named 1 ∷ [])))) (indices i) None))

-- `m[i] + 2`
abbrev pub sum_of : ℕ → CoreExpr
sum_of i = made here long (tree.Operate op.Add (element_of i) (Some (literal_of 2)))
