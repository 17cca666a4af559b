-- What a walk over statements appends of their live part, and which open blocks it finds left. This project's own.
use Rattle.std.specs.Prelude.{◌≡◌, ℕ, Bool, true, false, ◌||◌, not, nat_eq, List, [], ◌∷◌, ◌++◌, length, map, Option, option_map}
use Rattle.scc_core.specs.declared.expr.CoreExpr.{CoreExpr}
use Rattle.scc_core.specs.declared.program.Core.{Core}
use Rattle.scc_core.specs.declared.program.CoreProcess.{CoreProcess}
use Rattle.scc_core.specs.declared.stmt.CoreStmt.{CoreStmt, fold-CoreStmt}
use Rattle.scc_core.specs.declared.stmt.CoreNode.TheOpen.{CoreNode-F, CoreStmt-F}
use Rattle.scc_core.specs.declared.stmt.CoreNode.TheOpen as node
use Rattle.scc_core.specs.declared.statics.Known.{Known}
use Rattle.scc_core.specs.Known.{facts_in}
use Rattle.scc_core.specs.Statics.{value_in}
use Rattle.scc_base.specs.declared.refusal.Place.{Place}
use Rattle.scc_core_spec.specs.Code.{Code, Count, Loop, End, append}
use Rattle.scc_core_spec.specs.Static.{Cells, goes}
use Rattle.scc_core_spec.specs.Live.{Alive}
use Rattle.scc_core_view.specs.Codes.{code_of}
use Rattle.scc_core_view.specs.Terms.{term_of}
use Rattle.scc_core_view.specs.Whole.{AreWholeCells, IsWhole}

abbrev pub flat : List (List CoreExpr) → List CoreExpr
flat [] = []
flat (x ∷ xs) = x ++ flat xs

-- the tests of the `if`s in a statement
abbrev pub node_tests : CoreNode-F (List CoreExpr) (List CoreExpr) → List CoreExpr
node_tests (node.Assign l e) = []
node_tests (node.If t a b) = t ∷ (flat a ++ flat b)
node_tests (node.Block b) = flat b
node_tests (node.Loop n b) = flat b
node_tests (node.Exit n) = []
node_tests (node.Wait n) = []
node_tests (node.Alias to target) = []

abbrev pub tests_step : CoreStmt-F (List CoreExpr) (List CoreExpr) → List CoreExpr
tests_step s = s.node

abbrev pub tests_of : CoreStmt → List CoreExpr
tests_of = fold-CoreStmt (List CoreExpr) (List CoreExpr) node_tests tests_step

abbrev pub tests_in : List CoreStmt → List CoreExpr
tests_in ss = flat (map tests_of ss)

-- P holds of each
abbrev pub Each : {A : Type 0} → (A → Type 0) → List A → Type 0
Each P [] = Unit {0}
Each P (x ∷ xs) = P x × Each P xs

-- what is known tells which way a test always goes as the definition does
abbrev pub Decides : Known → Cells → CoreExpr → Type 0
Decides known cs e = option_map (λ v. not (nat_eq v.word 0)) (value_in (facts_in known) e) ≡ goes cs (term_of e)

abbrev pub DecidesAll : Known → Cells → List CoreStmt → Type 0
DecidesAll known cs ss = Each (Decides known cs) (tests_in ss)

-- the cells of a core and the tests of its bodies are whole
abbrev pub AreWholeTests : Core → CoreProcess → Type 0
AreWholeTests c p = Each (IsWhole c.cells) (tests_in p.body)

pub record HasWholeTests (c : Core) : Type 0 where
  pub cells : AreWholeCells c.cells
  pub tests : Each (AreWholeTests c) c.processes

-- flags of the open blocks, the innermost last, with those that are left besides; blocks are counted outward from 0
abbrev pub left_by : (ℕ → Bool) → List Bool → List Bool
left_by f [] = []
left_by f (x ∷ xs) = (x || f (length xs)) ∷ left_by f xs

-- what a walk over code appends, tells and marks
pub record Walked (x : Alive) (ends : Bool) (out now : List CoreStmt) (left flags : List Bool) : Type 0 where
  pub code : code_of now ≡ append (code_of out) x.code
  pub told : ends ≡ x.ends
  pub marks : flags ≡ left_by x.leaves left

-- a loop with this body, or its body where no path comes to its end
abbrev pub loop_code : Bool → Place → Option Count → Code → Code
loop_code true p n c = Loop p n c End
loop_code false p n c = c
