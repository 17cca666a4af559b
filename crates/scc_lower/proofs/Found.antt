-- Assignments to cells that were found.
use Rattle.std.proofs.Common.{◌≡◌, ℕ, List, Some, map, sym, ◌∙◌, ap, subst, slice_get}
use Rattle.scc_bits_kinds.specs.declared.kind.Kind.{Kind}
use Rattle.scc_bits_kinds.specs.Kinds.{width_of}
use Rattle.scc_core.specs.declared.expr.CoreBase.TheOpen as tree
use Rattle.scc_core.specs.declared.expr.CoreExpr.{CoreExpr}
use Rattle.scc_core.specs.declared.expr.CoreLeft.{CoreLeft}
use Rattle.scc_core.specs.declared.expr.CorePick.{CorePick, out-CorePick}
use Rattle.scc_core.specs.declared.program.Cell.{Cell}
use Rattle.scc_core_view.specs.Terms.{taken_of}
use Rattle.scc_core_view.specs.Terms as core
use Rattle.scc_svtree.specs.declared.expr.SvExpr.{SvExpr}
use Rattle.scc_svtree.specs.Code.{Code}
use Rattle.scc_svtree.specs.Term as emitted
use Rattle.scc_svtree.specs.Term.{term_of}
use Rattle.scc_lower_laws.specs.Elements.{Slot}
use Rattle.scc_lower_laws.specs.Puts.{bit_value}
use Rattle.scc_lower_tree_laws.specs.Assigning.{Assigning, At, Part, PutsElement, Takes}
use Rattle.scc_lower_tree_laws.specs.Becoming.{Becomes}
use Rattle.scc_lower_tree_laws.specs.Choosing.{Opened}
use Rattle.scc_lower_tree_laws.specs.Finding.{Chosen, Found, Indexing, IsFoundAt, Opening}
use Rattle.scc_lower_tree_laws.specs.States.{Given, State}
use Rattle.scc_lower_tree_laws.proofs.Assigning.{assigning-bit, assigning-part}
use Rattle.scc_lower_expressions.specs.declared.convert.Lowered.{Lowered}
use Rattle.scc_lower_expressions.specs.declared.index.Open.{Open}
use Rattle.scc_lower_expressions.specs.Becoming.{opened_of, outcome_of}
use Rattle.scc_lower_expressions.specs.Lowered.{text_of}
use Rattle.scc_lower_expressions.proofs.Outcomes.{text-same}

module _ (g : Given) (l : CoreLeft) (e : CoreExpr) (f : Found) (dims : List Chosen) (opens items : List Open) (a b : State) where
  pub part-done : (d : State) (hi lo : ℕ) (o : Lowered) (text : SvExpr) (code : Code) → IsFoundAt g l f → Takes g l e a.views hi lo → dims ≡ f.dims → Opening g dims a (map opened_of items) b → Becomes g e b (outcome_of o) d → term_of text ≡ text_of o
      → opens ≡ items → PutsElement g d.views (map opened_of opens) f.first (Part hi lo (taken_of l).pick (core.term_of e) (term_of text)) code → Assigning g l e a code d
  part-done d hi lo o text code found takes same op k is all put =
      let D : List Chosen → Type 0 = λ ds. Opening g ds a (map opened_of items) b in
      let O : List Open → Type 0 = λ os. PutsElement g d.views (map opened_of os) f.first (Part hi lo (taken_of l).pick (core.term_of e) (term_of text)) code in
      let T : emitted.Term → Type 0 = λ t. PutsElement g d.views (map opened_of items) f.first (Part hi lo (taken_of l).pick (core.term_of e) t) code in
      assigning-part g l e f (map opened_of items) a b d hi lo (outcome_of o) code found (subst D same op) k takes (subst T (is ∙ sym (text-same o)) (subst O all put))

  pub bit-done : (c d : State) (q : CorePick) (j : Kind) (i : CoreExpr) (u : Slot) (o : Lowered) (text : SvExpr) (cell : Cell) (wide : ℕ) (code : Code) → l.pick ≡ Some q → out-CorePick q ≡ tree.Bit j i → IsFoundAt g l f → slice_get g.cells f.first ≡ Some cell
      → wide ≡ width_of cell.kind → dims ≡ f.dims → Opening g dims a (map opened_of items) b → Indexing g i b u c → Becomes g e c (outcome_of o) d → term_of text ≡ bit_value wide (outcome_of o) → opens ≡ items
      → PutsElement g d.views (map opened_of opens) f.first (At (core.term_of i) u (term_of text)) code → Assigning g l e a code d
  bit-done c d q j i u o text cell wide code is at found stands width same op ix k made all put =
      let D : List Chosen → Type 0 = λ ds. Opening g ds a (map opened_of items) b in
      let O : List Open → Type 0 = λ os. PutsElement g d.views (map opened_of os) f.first (At (core.term_of i) u (term_of text)) code in
      let T : emitted.Term → Type 0 = λ t. PutsElement g d.views (map opened_of items) f.first (At (core.term_of i) u t) code in
      assigning-bit g l e f (map opened_of items) a b c d q j i u (outcome_of o) cell code is at found stands (subst D same op) ix k (subst T (made ∙ ap (λ n. bit_value n (outcome_of o)) width) (subst O all put))
