-- Trees of the function `int pick(int k) { return k; }`, of bit 3 of a variable, and of the design of a top with an `int m` and a method. This project's own.
use Rattle.std.specs.Prelude.{ℕ, false, [], ◌∷◌, Some, None}
use Rattle.scc_base.specs.declared.names.Name.{Name}
use Rattle.scc_base.specs.declared.path.PathPart.TheVariants as path_part
use Rattle.scc_bits_kinds.specs.declared.kind.Kind.{Kind}
use Rattle.scc_bits_kinds.specs.declared.kind.Kind.TheVariants as kind
use Rattle.scc_plain_tree.specs.declared.expr.PlainExpr.{PlainExpr}
use Rattle.scc_plain_tree.specs.declared.expr.PlainExprNode.{roll-PlainExprNode}
use Rattle.scc_plain_tree.specs.declared.expr.PlainLeft.{PlainLeft}
use Rattle.scc_plain_tree.specs.declared.expr.PlainBase.{roll-PlainBase}
use Rattle.scc_plain_tree.specs.declared.expr.PlainPick.{PlainPick, roll-PlainPick}
use Rattle.scc_plain_tree.specs.declared.expr.PlainBase.TheOpen as tree
use Rattle.scc_plain_tree.specs.declared.stmt.PlainStmt.{PlainStmt}
use Rattle.scc_plain_tree.specs.declared.stmt.PlainNode.{roll-PlainNode}
use Rattle.scc_plain_tree.specs.declared.stmt.PlainNode.TheOpen as node
use Rattle.scc_plain_tree.specs.declared.program.Base.TheVariants as base
use Rattle.scc_plain_tree.specs.declared.program.Reach.TheVariants as reach
use Rattle.scc_plain_tree.specs.declared.program.PlainMember.{PlainMember}
use Rattle.scc_plain_tree.specs.declared.program.PlainFunction.{PlainFunction}
use Rattle.scc_plain_tree.specs.declared.program.Plain.{Plain}
use Rattle.scc_elab_design.specs.declared.Design.{Design}
use Rattle.scc_elab_design.specs.declared.ObjectNode.TheVariants as object
use Rattle.scc_elab_design.specs.declared.Sort.TheVariants.{Method}
use Rattle.scc_elab_spec.specs.Worked.{here, int}

abbrev pub named : ℕ → Name
named n = record { 0 = n }

abbrev pub parameter : PlainLeft
parameter = record { place = here; base = roll-PlainBase (tree.Local 0); parts = []; pick = None }

abbrev pub loaded : PlainExpr
loaded = record { place = here; kind = int; node = roll-PlainExprNode (tree.Load parameter) }

-- `x[3]` of a local `sc_uint<8> x`
abbrev pub byte : Kind
byte = kind.Uint 8

abbrev pub number_three : PlainExpr
number_three = record { place = here; kind = int; node = roll-PlainExprNode (tree.Lit (record { bits = 3 })) }

abbrev pub picked_three : PlainPick
picked_three = roll-PlainPick (tree.Bit byte number_three)

abbrev pub bit_location : PlainLeft
bit_location = record { place = here; base = roll-PlainBase (tree.Local 0); parts = []; pick = Some picked_three }

abbrev pub bit_three : PlainExpr
bit_three = record { place = here; kind = kind.Bool; node = roll-PlainExprNode (tree.Load bit_location) }

abbrev pub returned : PlainStmt
returned = record { place = here; node = roll-PlainNode (node.Return (Some loaded)) }

abbrev pub declared : PlainMember
declared = record { name = named 21; place = here; shape = record { base = base.Number int; reach = reach.Direct; vector = false; sizes = [] } }

abbrev pub pick : PlainFunction
pick = record { name = named 20; place = here; class = None; params = 1; locals = declared ∷ []; result = Some int; inits = []; body = returned ∷ [] }

-- a program of that function alone
abbrev pub alone : Plain
alone = record { classes = []; functions = pick ∷ []; top = 0 }

abbrev pub made : Design
made = record {
  objects = record { path = []; place = here; node = object.Module 0 }
      ∷ record { path = path_part.Member (named 24) ∷ []; place = here; node = object.Variable int (record { bits = 0 }) } ∷ [];
  processes = record { object = 0; function = 0; place = here; sort = Method; senses = []; edge = None; reset = None } ∷ [];
  targets = [];
  vectors = [];
}
