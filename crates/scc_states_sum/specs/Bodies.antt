-- Statements of which all expressions are measured and whose tests go as the definition says, and the elements that their code uses. This project's own.
use Rattle.std.specs.Prelude.{◌≡◌, ℕ, ◌+◌, not, nat_eq, List, [], ◌∷◌, map, Option, option_map}
use Rattle.scc_base.specs.declared.refusal.Place.{Place}
use Rattle.scc_bits.specs.Value.{Number}
use Rattle.scc_core.specs.declared.expr.CoreExpr.{CoreExpr}
use Rattle.scc_core.specs.declared.expr.CoreLeft.{CoreLeft}
use Rattle.scc_core.specs.declared.stmt.Count.{Count as Counting}
use Rattle.scc_core.specs.declared.stmt.CoreStmt.{CoreStmt}
use Rattle.scc_core.specs.declared.stmt.CoreNode.{CoreNode, roll-CoreNode}
use Rattle.scc_core.specs.declared.stmt.CoreNode.TheOpen.{CoreNode-F}
use Rattle.scc_core.specs.declared.stmt.CoreNode.TheOpen as node
use Rattle.scc_core_spec.specs.Code.{Code}
use Rattle.scc_core_spec.specs.Live.{Alive}
use Rattle.scc_core_spec.specs.Sizes.{written_left}
use Rattle.scc_core_spec.specs.Static.{Cells, goes}
use Rattle.scc_core_spec.specs.Uses.{Act, acts}
use Rattle.scc_core_view.specs.Terms.{term_of}
use Rattle.scc_states_sum.specs.Elements.{total}
use Rattle.scc_states_sum.specs.Live.{Live}
use Rattle.scc_states_sum.specs.Measured.{elements_at, used_elements, IsMeasured, IsMeasuredLeft}

-- what one statement by itself uses, and what code does
abbrev pub act_elements : Cells → Act → ℕ
act_elements cs a = total (map (elements_at cs) (written_left a.writes)) + used_elements cs a.reads

abbrev pub acts_elements : Cells → List Act → ℕ
acts_elements cs xs = total (map (act_elements cs) xs)

abbrev pub code_elements : Cells → Code → ℕ
code_elements cs c = acts_elements cs (acts c)

abbrev pub stated : Place → CoreNode-F CoreNode CoreStmt → CoreStmt
stated p x = record { place = p; node = roll-CoreNode x }

module _ (cs : Cells) (known : CoreExpr → Option Number) where
  mutual
    pub data IsMeasuredStmt : CoreStmt → Type 0 where
      assign : {p : Place} {l : CoreLeft} {e : CoreExpr} → IsMeasuredLeft cs known l → IsMeasured cs known e → IsMeasuredStmt (stated p (node.Assign l e))
      test : {p : Place} {t : CoreExpr} {a b : List CoreStmt} → option_map (λ v. not (nat_eq v.word 0)) (known t) ≡ goes cs (term_of t) → IsMeasured cs known t
          → AreMeasuredStmts a → AreMeasuredStmts b → IsMeasuredStmt (stated p (node.If t a b))
      block : {p : Place} {b : List CoreStmt} → AreMeasuredStmts b → IsMeasuredStmt (stated p (node.Block b))
      loop : {p : Place} (n : Option Counting) {b : List CoreStmt} → AreMeasuredStmts b → IsMeasuredStmt (stated p (node.Loop n b))
      exit : {p : Place} (n : ℕ) → IsMeasuredStmt (stated p (node.Exit n))
      wait : {p : Place} (n : ℕ) → IsMeasuredStmt (stated p (node.Wait n))

    pub data AreMeasuredStmts : List CoreStmt → Type 0 where
      no_stmt : AreMeasuredStmts []
      more_stmt : {s : CoreStmt} {ss : List CoreStmt} → IsMeasuredStmt s → AreMeasuredStmts ss → AreMeasuredStmts (s ∷ ss)

-- what is counted on paths is what the live part uses, and both come to the end and leave blocks alike
pub record Agrees (cs : Cells) (l : Live) (x : Alive) : Type 0 where
  pub elements : l.elements ≡ code_elements cs x.code
  pub ends : l.ends ≡ x.ends
  pub leaves : (n : ℕ) → l.leaves n ≡ x.leaves n
