-- Expressions are lowered by the rules: literals, what is known, conversions, operators and choices.
use Rattle.std.proofs.Common.{◌≡◌, ℕ, length, Some, None, sym, ◌∙◌, ap, subst}
use Rattle.scc_bits_kinds.specs.declared.kind.Kind.{Kind}
use Rattle.scc_bits_kinds.specs.declared.kind.Word.{Word}
use Rattle.scc_bits_kinds.specs.declared.op.Op.{Op}
use Rattle.scc_bits_kinds.specs.Kinds.{IsValid}
use Rattle.scc_bits.specs.Value.{Number}
use Rattle.scc_bits.specs.Values as values
use Rattle.scc_bits.specs.Values.{is_too_wide}
use Rattle.scc_core.specs.declared.expr.CoreBase.{CoreBase, fold-CoreBase}
use Rattle.scc_core.specs.declared.expr.CoreExpr.{CoreExpr, fold-roll-CoreExpr}
use Rattle.scc_core.specs.declared.expr.CoreExprNode.{CoreExprNode, out-CoreExprNode, fold-CoreExprNode, map-CoreExprNode, fold_out-CoreExprNode}
use Rattle.scc_core.specs.declared.expr.CoreLeft.{CoreLeft}
use Rattle.scc_core.specs.declared.expr.CorePart.{CorePart, fold-CorePart}
use Rattle.scc_core.specs.declared.expr.CorePick.{CorePick, fold-CorePick}
use Rattle.scc_core.specs.declared.expr.CoreBase.TheOpen.{CoreExprNode-F}
use Rattle.scc_core.specs.declared.expr.CoreBase.TheOpen as tree
use Rattle.scc_core.specs.Known.{facts_in}
use Rattle.scc_core.specs.Statics.{value_in}
use Rattle.scc_core_spec.specs.Term.{Term, Left, Pick, kind_of}
use Rattle.scc_core_spec.specs.Term as core
use Rattle.scc_core_view.specs.Terms as to
use Rattle.scc_core_view.specs.Terms.{term_of}
use Rattle.scc_core_view.specs.Whole.{Answers}
use Rattle.scc_svtree.specs.Code.{Code, End}
use Rattle.scc_blocks_spec.specs.Shown.{Sight}
use Rattle.scc_lower_laws.specs.Sequence.{then_code}
use Rattle.scc_lower_laws.specs.Outcome.{Outcome, Known, number, converted, operated, operated_alone, chosen}
use Rattle.scc_lower_laws.specs.Lowers.{Lowers}
use Rattle.scc_lower_laws.proofs.Rules.{extended, behind, literal, convert, alone, two, choice}
use Rattle.scc_lower_laws.proofs.Loads.{known}
use Rattle.scc_lower_tree_laws.specs.States.{State, Given, Sees, Agrees}
use Rattle.scc_lower_tree_laws.specs.Sound.{Layer, Under, converted as under-convert, operand as under-operand, second as under-second, test as under-test, yes as under-yes, no as under-no, itself, deeper, IsFine, IsNode, IsSound}
use Rattle.scc_lower_tree_laws.specs.Becoming.{Becomes}
use Rattle.scc_lower_tree_laws.proofs.Leaving.{none-left, both-left, agrees-before, sees-on}

-- ---- terms by their nodes

abbrev pub term_node : CoreExprNode → to.Node
term_node = fold-CoreExprNode to.Base to.Node (Left → Left) to.Picking Term to.Taken to.base_node to.expr_node to.part_node to.pick_node to.expr_step to.left_step

abbrev pub term_base : CoreBase → to.Base
term_base = fold-CoreBase to.Base to.Node (Left → Left) to.Picking Term to.Taken to.base_node to.expr_node to.part_node to.pick_node to.expr_step to.left_step

abbrev pub term_part : CorePart → Left → Left
term_part = fold-CorePart to.Base to.Node (Left → Left) to.Picking Term to.Taken to.base_node to.expr_node to.part_node to.pick_node to.expr_step to.left_step

abbrev pub term_pick : CorePick → to.Picking
term_pick = fold-CorePick to.Base to.Node (Left → Left) to.Picking Term to.Taken to.base_node to.expr_node to.part_node to.pick_node to.expr_step to.left_step

abbrev pub term_layer : Layer → CoreExprNode-F to.Base to.Node (Left → Left) to.Picking Term to.Taken
term_layer = map-CoreExprNode CoreBase CoreExprNode CorePart CorePick CoreExpr CoreLeft to.Base to.Node (Left → Left) to.Picking Term to.Taken term_base term_node term_part term_pick to.term_of to.taken_of

pub term_out : (e : CoreExpr) (x : Layer) → out-CoreExprNode e.node ≡ x → to.term_of e ≡ to.expr_node (term_layer x) e.place e.kind
term_out e x h =
    fold-roll-CoreExpr to.Base to.Node (Left → Left) to.Picking Term to.Taken to.base_node to.expr_node to.part_node to.pick_node to.expr_step to.left_step (record { place = e.place; kind = e.kind; node = e.node })
    ∙ ap (λ n. n e.place e.kind) (fold_out-CoreExprNode to.Base to.Node (Left → Left) to.Picking Term to.Taken to.base_node to.expr_node to.part_node to.pick_node to.expr_step to.left_step e.node)
    ∙ ap (λ y. to.expr_node (term_layer y) e.place e.kind) h

-- ---- what stands in what is sound

pub sound-under : (g : Given) (s : Sight) (e f : CoreExpr) → Under e f → IsSound g s e → IsSound g s f
sound-under g s e f u h r w = h r (deeper e f r u w)

pub sound-here : (g : Given) (s : Sight) (e : CoreExpr) → IsSound g s e → IsFine g s e
sound-here g s e h = h e (itself e)

pub node-here : (g : Given) (s : Sight) (e : CoreExpr) (x : Layer) → out-CoreExprNode e.node ≡ x → IsSound g s e → IsNode g s e.kind x
node-here g s e x q h = let P : Layer → Type 0 = λ y. IsNode g s e.kind y in subst P q (sound-here g s e h).node

-- ---- the rules

module _ (g : Given) where
  abbrev LowersTo : Sight → (ℕ → ℕ) → State → State → Term → Code → Outcome → Type 0
  LowersTo s width a b t c o = Lowers s width (length a.temporaries) (length b.temporaries) t c o

  pub lowering-literal : (e : CoreExpr) (a : State) (w : Word) (n : Number) → out-CoreExprNode e.node ≡ tree.Lit w → n.kind ≡ e.kind → n.word ≡ w.bits → Becomes g e a (Known n) a
  lowering-literal e a w n q k b = record {
    leaves = none-left a;
    lowers = λ s width sees agrees sound. (
        let P : Term → Type 0 = λ t. LowersTo s width a a (t) End (Known n) in
        let R : Outcome → Type 0 = λ o. LowersTo s width a a (core.Literal e.place e.kind w.bits) End o in
        subst P (sym (term_out e (tree.Lit w) q))
        (subst R (λ i. Known (number (sym k i) (sym b i))) (literal s width (length a.temporaries) e.place e.kind w.bits (node-here g s e (tree.Lit w) q sound))));
  }

  pub lowering-known : (e : CoreExpr) (a : State) (n : Number) → value_in (facts_in g.known) e ≡ Some n → Becomes g e a (Known n) a
  lowering-known e a n v = record {
    leaves = none-left a;
    lowers = λ s width sees agrees sound. (
        let fine = sound-here g s e sound in
        let value = fine.value n v in
        let same : kind_of (term_of e) ≡ n.kind = fine.kind ∙ sym value.0 in
        let R : Outcome → Type 0 = λ o. LowersTo s width a a (term_of e) End o in
        subst R (λ i. Known (number (same i) n.word)) (known s width (length a.temporaries) (term_of e) n.word value.1));
  }

  pub lowering-convert : (e f : CoreExpr) (a b : State) (o : Outcome) → out-CoreExprNode e.node ≡ tree.Convert f → Becomes g f a o b → Becomes g e a (converted f.kind e.kind o) b
  lowering-convert e f a b o q h = record {
    leaves = h.leaves;
    lowers = λ s width sees agrees sound. (
        let inner = sound-under g s e f (under-convert f q) sound in
        let fine = sound-here g s f inner in
        let P : Term → Type 0 = λ t. LowersTo s width a b (t) h.leaves.front (converted f.kind e.kind o) in
        let R : Kind → Type 0 = λ k. LowersTo s width a b (core.Convert e.place e.kind (term_of f)) h.leaves.front (converted k e.kind o) in
        subst P (sym (term_out e (tree.Convert f) q))
        (subst R fine.kind (convert s width (length a.temporaries) (length b.temporaries) e.place e.kind (term_of f) h.leaves.front o (h.lowers s width sees agrees inner))));
  }

  pub lowering-alone : (e f : CoreExpr) (op : Op) (a b : State) (o out : Outcome) → out-CoreExprNode e.node ≡ tree.Operate op f None → operated_alone op f.kind o ≡ Some out → Becomes g f a o b → Becomes g e a out b
  lowering-alone e f op a b o out q made h = record {
    leaves = h.leaves;
    lowers = λ s width sees agrees sound. (
        let inner = sound-under g s e f (under-operand op f None q) sound in
        let fine = sound-here g s f inner in
        let rule : Answers op f.kind f.kind e.kind = node-here g s e (tree.Operate op f None) q sound in
        let P : Term → Type 0 = λ t. LowersTo s width a b (t) h.leaves.front out in
        let V : Kind → Type 0 = λ k. IsValid k in
        let k = sym fine.kind in
        subst P (sym (term_out e (tree.Operate op f None) q))
        (alone s width (length a.temporaries) (length b.temporaries) e.place e.kind op (term_of f) h.leaves.front o out
        (subst V k fine.valid) (ap (λ j. is_too_wide op j j) fine.kind ∙ rule.is_narrow) (ap (λ j. values.kind_of op j j) fine.kind ∙ rule.has_rule) (ap (λ j. operated_alone op j o) fine.kind ∙ made)
        (h.lowers s width sees agrees inner)));
  }

  -- two, one behind the other, have one front
  record Both (s : Sight) (width : ℕ → ℕ) (a c : State) (t u : Term) (front : Code) (o p : Outcome) : Type 0 where
    first : LowersTo s width a c t front o
    second : LowersTo s width a c u front p

  both : (e f : CoreExpr) (a b c : State) (o p : Outcome) (h : Becomes g e a o b) (k : Becomes g f b p c) (s : Sight) (width : ℕ → ℕ) → Sees g.cells a.views s width → Agrees s width c.temporaries → IsSound g s e → IsSound g s f
      → Both s width a c (term_of e) (term_of f) (then_code h.leaves.front k.leaves.front) o p
  both e f a b c o p h k s width sees agrees left right =
      let x = h.lowers s width sees (agrees-before s width b c k.leaves agrees) left in
      let y = k.lowers s width (sees-on g.cells s width a b h.leaves sees) agrees right in record {
        first = extended s width (length a.temporaries) (length b.temporaries) (length c.temporaries) (term_of e) h.leaves.front k.leaves.front o x y.grows y.makes;
        second = behind s width (length a.temporaries) (length b.temporaries) (length c.temporaries) (term_of f) h.leaves.front k.leaves.front p sees.number x.grows x.makes y;
      }

  pub lowering-two : (e f r : CoreExpr) (op : Op) (a b c : State) (o p out : Outcome) → out-CoreExprNode e.node ≡ tree.Operate op f (Some r) → operated op f.kind o r.kind p ≡ Some out
      → Becomes g f a o b → Becomes g r b p c → Becomes g e a out c
  lowering-two e f r op a b c o p out q made h k = record {
    leaves = both-left a b c h.leaves k.leaves;
    lowers = λ s width sees agrees sound. (
        let left = sound-under g s e f (under-operand op f (Some r) q) sound in
        let right = sound-under g s e r (under-second op f r q) sound in
        let i = sound-here g s f left in
        let j = sound-here g s r right in
        let rule : Answers op f.kind r.kind e.kind = node-here g s e (tree.Operate op f (Some r)) q sound in
        let x = both f r a b c o p h k s width sees agrees left right in
        let P : Term → Type 0 = λ t. LowersTo s width a c (t) (then_code h.leaves.front k.leaves.front) out in
        let V : Kind → Type 0 = λ k. IsValid k in
        subst P (sym (term_out e (tree.Operate op f (Some r)) q))
        (two s width (length a.temporaries) (length c.temporaries) e.place e.kind op (term_of f) (term_of r) (then_code h.leaves.front k.leaves.front) o p out
        (subst V (sym i.kind) i.valid) (subst V (sym j.kind) j.valid) ((λ n. is_too_wide op (i.kind n) (j.kind n)) ∙ rule.is_narrow) ((λ n. values.kind_of op (i.kind n) (j.kind n)) ∙ rule.has_rule)
        ((λ n. operated op (i.kind n) o (j.kind n) p) ∙ made) x.first x.second));
  }

  pub lowering-choice : (e t f r : CoreExpr) (a b c d : State) (o p q : Outcome) → out-CoreExprNode e.node ≡ tree.Choose t f r
      → Becomes g t a o b → Becomes g f b p c → Becomes g r c q d → Becomes g e a (chosen t.kind o f.kind p r.kind q e.kind) d
  lowering-choice e t f r a b c d o p q is h k l = record {
    leaves = both-left a b d h.leaves (both-left b c d k.leaves l.leaves);
    lowers = λ s width sees agrees sound. (
        let test = sound-under g s e t (under-test t f r is) sound in
        let left = sound-under g s e f (under-yes t f r is) sound in
        let right = sound-under g s e r (under-no t f r is) sound in
        let i = (sound-here g s t test).kind in
        let j = (sound-here g s f left).kind in
        let n = (sound-here g s r right).kind in
        let tail = both-left b c d k.leaves l.leaves in
        let x = h.lowers s width sees (agrees-before s width b d tail agrees) test in
        let y = both f r b c d p q k l s width (sees-on g.cells s width a b h.leaves sees) agrees left right in
        let from = length a.temporaries in
        let till = length d.temporaries in
        let front = then_code h.leaves.front tail.front in
        let R : Outcome → Type 0 = λ z. LowersTo s width a d (core.Choose e.place e.kind (term_of t) (term_of f) (term_of r)) front z in
        let Q : Term → Type 0 = λ u. LowersTo s width a d (u) front (chosen t.kind o f.kind p r.kind q e.kind) in
        subst Q (sym (term_out e (tree.Choose t f r) is))
        (subst R (λ m. chosen (i m) o (j m) p (n m) q e.kind)
        (choice s width from till e.place e.kind (term_of t) (term_of f) (term_of r) front o p q
        (extended s width from (length b.temporaries) till (term_of t) h.leaves.front tail.front o x y.first.grows y.first.makes)
        (behind s width from (length b.temporaries) till (term_of f) h.leaves.front tail.front p sees.number x.grows x.makes y.first)
        (behind s width from (length b.temporaries) till (term_of r) h.leaves.front tail.front q sees.number x.grows x.makes y.second))));
  }
