-- Expressions without a first operand, and indices.
use Rattle.std.proofs.Common.{◌≡◌, ℕ, List, Option, Some, None, refl, sym, ◌∙◌, ap, subst, length}
use Rattle.scc_bits_kinds.specs.declared.kind.Kind.{Kind}
use Rattle.scc_bits_kinds.specs.declared.kind.Word.{Word}
use Rattle.scc_bits_kinds.specs.Kinds.{width_of}
use Rattle.scc_bits.specs.Value.{Number}
use Rattle.scc_core.specs.declared.expr.CoreBase.TheOpen as tree
use Rattle.scc_core.specs.declared.expr.CoreExpr.{CoreExpr}
use Rattle.scc_core.specs.declared.expr.CoreExprNode.{out-CoreExprNode}
use Rattle.scc_core.specs.declared.expr.CoreExprNode.TheVariants as node
use Rattle.scc_core.specs.declared.expr.CoreLeft.{CoreLeft}
use Rattle.scc_core.specs.declared.expr.CorePick.{CorePick, out-CorePick}
use Rattle.scc_core.specs.Known.{facts_in}
use Rattle.scc_core.specs.Statics.{value_in}
use Rattle.scc_svtree.specs.Term as emitted
use Rattle.scc_lower_laws.specs.Elements.{Slot, index_kind}
use Rattle.scc_lower_laws.specs.Joins.{joined_text}
use Rattle.scc_lower_laws.specs.Outcome as outcome
use Rattle.scc_lower_laws.specs.Outcome.{Outcome}
use Rattle.scc_lower_tree_laws.specs.Becoming.{Becomes}
use Rattle.scc_lower_tree_laws.specs.Finding.{BitAt, Indexing, Keeping, LoweringAll, Picking, PickingBy, Reading, location_of}
use Rattle.scc_lower_tree_laws.specs.Sound.{Layer, read_in}
use Rattle.scc_lower_tree_laws.specs.States.{Given, State}
use Rattle.scc_lower_tree_laws.proofs.Expressions.{lowering-literal, lowering-known}
use Rattle.scc_lower_tree_laws.proofs.Nodes.{lowering-join, lowering-load, lowering-read}
use Rattle.scc_lower_expressions.specs.declared.convert.Lowered.{Lowered}
use Rattle.scc_lower_expressions.specs.Becoming.{IsNumber, outcome_of}
use Rattle.scc_lower_expressions.specs.Lowered.{Converts, text_of}
use Rattle.scc_lower_expressions.proofs.Outcomes.{text-same}
use Rattle.scc_lower_expressions.proofs.Shapes.{out-literal}
use Rattle.scc_lower_expressions.proofs.Steps.{indexing-of}

-- ---- numbers

pub literal-number : (g : Given) (e : CoreExpr) (w : Word) (o : Option Number) → e.node ≡ node.Lit w → (v : Number) × (o ≡ Some v) × (v.kind ≡ e.kind) × (v.word ≡ w.bits) → IsNumber g e o
literal-number g e w o is k = subst (IsNumber g e) (sym k.1) (λ a. lowering-literal g e a w k.0 (out-literal e.node w is) k.2 k.3)

pub known-number : (g : Given) (e : CoreExpr) (o : Option Number) → o ≡ value_in (facts_in g.known) e → IsNumber g e o
known-number g e None h = tt
known-number g e (Some v) h = λ a. lowering-known g e a v (sym h)

-- ---- reads

same-left : (m l : CoreLeft) → ◌≡◌ {A = Option CoreLeft} (Some m) (Some l) → m ≡ l
same-left m l e = cc

no-left : (l : CoreLeft) → ◌≡◌ {A = Option CoreLeft} None (Some l) → ⊥
no-left l e = cc

read-node : (g : Given) (e : CoreExpr) (l : CoreLeft) (x : Layer) (a b : State) (t : emitted.Term) → out-CoreExprNode e.node ≡ x → read_in x ≡ Some l → Reading g l l.pick e.kind a t b → Becomes g e a (outcome.Made t) b
read-node g e l (tree.Load m) a b t is s h = lowering-load g e l a b t (is ∙ ap tree.Load (same-left m l s)) h
read-node g e l (tree.Read m) a b t is s h = lowering-read g e l a b t (is ∙ ap tree.Read (same-left m l s)) h
read-node g e l (tree.Lit w) a b t is s h = absurd (no-left l s)
read-node g e l (tree.Convert f) a b t is s h = absurd (no-left l s)
read-node g e l (tree.Operate o f r) a b t is s h = absurd (no-left l s)
read-node g e l (tree.Choose u f r) a b t is s h = absurd (no-left l s)
read-node g e l (tree.Pick f q) a b t is s h = absurd (no-left l s)
read-node g e l (tree.Join es) a b t is s h = absurd (no-left l s)

pub located-read : (g : Given) (e : CoreExpr) (l : CoreLeft) (q : Option CorePick) (a b : State) (t : emitted.Term) → location_of e ≡ Some l → q ≡ l.pick → Reading g l q e.kind a t b → Becomes g e a (outcome.Made t) b
located-read g e l q a b t s p h =
    let P : Option CorePick → Type 0 = λ u. Reading g l u e.kind a t b in
    read-node g e l (out-CoreExprNode e.node) a b t refl s (subst P p h)

pub valued-pick : (g : Given) (e i : CoreExpr) (q : CorePick) (of k : Kind) (o : Lowered) (u t : emitted.Term) (a b c : State) → location_of e ≡ None → out-CorePick q ≡ tree.Bit of i → Becomes g e a (outcome_of o) b → u ≡ text_of o → BitAt g u i b t c → Picking g e q k a t c
valued-pick g e i q of k o u t a b c none is h text r =
    let P : Option CoreLeft → Type 0 = λ l. PickingBy g l e q k a t c in
    let Q : emitted.Term → Type 0 = λ z. BitAt g z i b t c in
    subst P (sym none) (record { of = of; index = i; is_bit = is; outcome = outcome_of o; between = b; first = h; second = subst Q (text ∙ sym (text-same o)) r })

pub joined-parts : (g : Given) (e : CoreExpr) (es fs : List CoreExpr) (a b : State) (t : emitted.Term) → out-CoreExprNode e.node ≡ tree.Join es → fs ≡ es → (os : List Outcome) × (t ≡ joined_text os) × LoweringAll g fs a os b → Becomes g e a (outcome.Made t) b
joined-parts g e es fs a b t is same h =
    let P : List CoreExpr → Type 0 = λ z. LoweringAll g z a h.0 b in
    lowering-join g e es a b h.0 t is h.1 (subst P same h.2)

-- ---- indices

pub index-from : (g : Given) (e : CoreExpr) (a b c : State) (kind to : Kind) (w : ℕ) (inner out : Lowered) (t : emitted.Term) (v : Slot) → kind ≡ e.kind → to ≡ index_kind kind → w ≡ width_of to → Becomes g e a (outcome_of inner) b
    → Converts kind to inner out → t ≡ text_of out → Keeping (length g.cells) (outcome.Made t) w b v c → Indexing g e a v c
index-from g e a b c kind to w inner out t v k i l h conv is keep =
    let P : Kind → Type 0 = λ x. Converts x (index_kind x) inner out in
    let Q : Kind → Type 0 = λ x. Converts kind x inner out in
    let R : ℕ → Type 0 = λ n. Keeping (length g.cells) (outcome.Made t) n b v c in
    indexing-of g e a b c inner out t v h (subst P k (subst Q i conv)) (is ∙ sym (text-same out)) (subst R (l ∙ ap width_of (i ∙ ap index_kind k)) keep)
