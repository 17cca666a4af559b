-- A worked value: two inverters in a row. This project's own.
-- `Inv` has an input x and an output y that is its complement, the top `Two` an input a, an output b, a signal m and instances p and q.
use Rattle.std.specs.Prelude.{ℕ, List, [], ◌∷◌, ◌++◌, codes}
use Rattle.scc_svtree.specs.declared.expr.SvExpr.{SvExpr}
use Rattle.scc_svtree.specs.declared.expr.SvExprNode.{SvExprNode, roll-SvExprNode}
use Rattle.scc_svtree.specs.declared.expr.SvExprNode.TheOpen as node
use Rattle.scc_svtree.specs.declared.expr.SvLeft.TheVariants.{Whole}
use Rattle.scc_svtree.specs.declared.expr.SvUnary.TheVariants.{LogNot}
use Rattle.scc_svtree.specs.declared.stmt.SvStmt.{SvStmt, roll-SvStmt}
use Rattle.scc_svtree.specs.declared.stmt.SvStmt.TheOpen as stmt
use Rattle.scc_svtree.specs.declared.module.SvModule.{SvModule}
use Rattle.scc_svtree.specs.declared.module.SvVar.{SvVar}
use Rattle.scc_svtree.specs.declared.module.Dir.{Dir}
use Rattle.scc_svtree.specs.declared.module.Dir.TheVariants as dir
use Rattle.scc_svtree.specs.declared.module.SvBlock.TheVariants as block
use Rattle.scc_svtree.specs.Term as term
use Rattle.scc_svtree.specs.Code.{Assign, End}
use Rattle.scc_hier_text.specs.declared.tree.Hier.{Hier}
use Rattle.scc_hier_text.specs.declared.tree.HierModule.{HierModule}
use Rattle.scc_hier_text.specs.declared.tree.Instance.{Instance}
use Rattle.scc_blocks_spec.specs.Renamed.{BlockCode, Comb}
use Rattle.scc_hier_spec.specs.Ports.{Named}

abbrev pub bit : List ℕ → Dir → SvVar
bit name d = record { name = name; width = 1; dir = d }

abbrev pub expr : SvExprNode → SvExpr
expr n = record { node = n }

abbrev pub assign : ℕ → SvExprNode → SvStmt
assign v e = roll-SvStmt (stmt.Assign (Whole (record { 0 = v })) (expr e))

abbrev pub variable : ℕ → SvExpr
variable v = expr (roll-SvExprNode (node.Left (Whole (record { 0 = v }))))

abbrev pub inverter : HierModule
inverter = record {
  name = codes "Two$p";
  vars = bit (codes "x") dir.Input ∷ bit (codes "y") dir.Output ∷ [];
  instances = [];
  blocks = block.Comb (assign 1 (roll-SvExprNode (node.Literal (record { width = 1; value = record { bits = 0 } })))
      ∷ assign 1 (roll-SvExprNode (node.Unary LogNot (variable 0))) ∷ []) ∷ [];
}

abbrev pub wired : List ℕ → ℕ → ℕ → Instance
wired name x y = record { «module» = 1; name = name; wires = record { 0 = x } ∷ record { 0 = y } ∷ [] }

abbrev pub outer : HierModule
outer = record {
  name = codes "Two";
  vars = bit (codes "a") dir.Input ∷ bit (codes "b") dir.Output ∷ bit (codes "m") dir.Inner ∷ [];
  instances = wired (codes "p") 0 2 ∷ wired (codes "q") 2 1 ∷ [];
  blocks = [];
}

abbrev pub two : Hier
two = record { modules = outer ∷ inverter ∷ [] }

-- wrong ones: the inverter's output is an input; the inverter has another name
abbrev pub with_inverter : HierModule → Hier
with_inverter m = record { modules = outer ∷ m ∷ [] }

abbrev pub turned : Hier
turned = with_inverter (record inverter { vars = bit (codes "x") dir.Input ∷ bit (codes "y") dir.Input ∷ [] })

abbrev pub misnamed : Hier
misnamed = with_inverter (record inverter { name = codes "Two$q" })

-- the ports of the two inverters, and the one module whose variables they are
abbrev pub port : (home name variable : List ℕ) → Named
port home name variable = record { home = home; name = name; variable = variable }

abbrev pub ports : List Named
ports = port (codes "p$") (codes "x") (codes "a") ∷ port (codes "p$") (codes "y") (codes "m") ∷ port (codes "q$") (codes "x") (codes "m") ∷ port (codes "q$") (codes "y") (codes "b") ∷ []

abbrev pub together : SvModule
together = record { name = codes "Two"; vars = outer.vars; blocks = [] }

-- wrong ones: the ports stand in another order; a port has another name
abbrev pub exchanged : Hier
exchanged = record {
  modules = record outer { instances = wired (codes "p") 2 0 ∷ wired (codes "q") 1 2 ∷ [] }
      ∷ record inverter { vars = bit (codes "y") dir.Output ∷ bit (codes "x") dir.Input ∷ [] } ∷ [];
}

abbrev pub renamed : Hier
renamed = with_inverter (record inverter { vars = bit (codes "x") dir.Input ∷ bit (codes "z") dir.Output ∷ [] })

-- what each inverter is in the flattening
abbrev pub inverts : ℕ → ℕ → BlockCode
inverts x y = Comb (Assign (Whole (record { 0 = y })) (term.Literal 1 0) (Assign (Whole (record { 0 = y })) (term.Unary LogNot (term.Part (Whole (record { 0 = x })))) End))

abbrev pub written : List ℕ
written = codes "module Two (\n  input logic a,\n  output logic b\n);\n  logic m;\n  Two$p p (.x(a), .y(m));\n  Two$p q (.x(m), .y(b));\nendmodule\n"
    ++ codes "module Two$p (\n  input logic x,\n  output logic y\n);\n  always_comb begin\n    y = 1'h0;\n    y = (!x);\n  end\nendmodule\n"
