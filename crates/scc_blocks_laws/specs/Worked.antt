-- A worked value: a method at a clock's edge that hands an input on to an output, and its module, whose variables have the numbers of the lowering. This project's own.
use Rattle.std.specs.Prelude.{ℕ, nat_eq, not, true, false, List, [], ◌∷◌, Some, None, codes, if◌then◌else◌}
use Rattle.scc_bits_kinds.specs.declared.kind.Kind.TheVariants as kind
use Rattle.scc_svtree.specs.declared.expr.SvExpr.{SvExpr}
use Rattle.scc_svtree.specs.declared.expr.SvExprNode.{roll-SvExprNode}
use Rattle.scc_svtree.specs.declared.expr.SvExprNode.TheOpen as node
use Rattle.scc_svtree.specs.declared.expr.SvLeft.TheVariants.{Whole}
use Rattle.scc_svtree.specs.declared.stmt.SvStmt.{SvStmt, roll-SvStmt}
use Rattle.scc_svtree.specs.declared.stmt.SvStmt.TheOpen as stmt
use Rattle.scc_svtree.specs.declared.module.SvModule.{SvModule}
use Rattle.scc_svtree.specs.declared.module.Dir.TheVariants.{Input, Output, Inner}
use Rattle.scc_svtree.specs.declared.module.SvBlock.TheVariants as block
use Rattle.scc_svtree.specs.Code as emitted_code
use Rattle.scc_svtree.specs.Variables.{width_at}
use Rattle.scc_core_spec.specs.Term as core
use Rattle.scc_core_spec.specs.Code.{Code, End}
use Rattle.scc_core_spec.specs.Program.{Program, Process}
use Rattle.scc_core_spec.specs.Program as program
use Rattle.scc_core_spec.specs.Worked.{here, named, cell, put}
use Rattle.scc_blocks_spec.specs.Tied.{Registers}
use Rattle.scc_blocks_spec.specs.WorkedList.{var}
use Rattle.scc_blocks_run_laws.specs.Pieces.{whole, variable}
use Rattle.scc_blocks_run_laws.specs.Blocks.{Numbering}

-- `q.write(a.read());`
abbrev pub hand_on : Code
hand_on = put 2 (core.Read here (kind.Uint 8) (core.Cell here 1)) End

abbrev pub handing_process : Process
handing_process = record { is_thread = false; name = named 9; place = here; senses = []; edge = Some (record { cell = 0; rising = true }); reset = None; body = hand_on }

-- a clock, an input a and an output q
abbrev pub handing : Program
handing = record {
  top = 8;
  cells = cell 0 kind.Bool program.Input ∷ cell 1 (kind.Uint 8) program.Input ∷ cell 2 (kind.Uint 8) program.Output ∷ [];
  vectors = [];
  processes = handing_process ∷ [];
}

abbrev pub read_of : ℕ → SvExpr
read_of v = record { node = roll-SvExprNode (node.Left (Whole (record { 0 = v }))) }

abbrev pub assign_of : ℕ → ℕ → SvStmt
assign_of v u = roll-SvStmt (stmt.Assign (Whole (record { 0 = v })) (read_of u))

abbrev pub handing_stmts : List SvStmt
handing_stmts = assign_of 5 4 ∷ assign_of 5 2 ∷ []

abbrev pub handing_module : SvModule
handing_module = record {
  name = codes "t";
  vars = var (codes "clk") 1 Input ∷ var (codes "b") 8 Input ∷ var (codes "a") 8 Input ∷ var (codes "d") 8 Input ∷ var (codes "q") 8 Output ∷ var (codes "q$$n") 8 Inner ∷ [];
  blocks = block.Comb handing_stmts ∷ block.Edge true (record { 0 = 0 }) None (record { target = record { 0 = 4 }; value = read_of 5 } ∷ []) ∷ [];
}

-- the input but the clock, and the output
abbrev pub handing_registers : Registers
handing_registers = record { variable = λ c. if nat_eq c 1 then Some 2 else (if nat_eq c 2 then Some 4 else None); state = λ i. None; counter = λ i. None }

abbrev pub handing_numbers : Numbering
handing_numbers = record { id = λ v. v; declared = λ v. not (nat_eq v 6); width = width_at handing_module.vars; firsts = record { target = 5; source = Some 4 } ∷ [] }

abbrev pub handing_body : emitted_code.Code
handing_body = emitted_code.Assign (whole 5) (variable 2) emitted_code.End

-- ---- the same as a combinational method

abbrev pub passing_process : Process
passing_process = record { is_thread = false; name = named 9; place = here; senses = 1 ∷ []; edge = None; reset = None; body = hand_on }

abbrev pub passing_on : Program
passing_on = record { top = 8; cells = handing.cells; vectors = []; processes = passing_process ∷ [] }

abbrev pub passing_numbers : Numbering
passing_numbers = record { id = λ v. v; declared = λ v. not (nat_eq v 6); width = width_at handing_module.vars; firsts = record { target = 4; source = None } ∷ [] }

abbrev pub passing_body : emitted_code.Code
passing_body = emitted_code.Assign (whole 4) (variable 2) emitted_code.End
