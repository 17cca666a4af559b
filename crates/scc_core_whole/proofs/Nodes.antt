-- Expressions are whole where their parts are, by their nodes.
use Rattle.std.proofs.Common.{◌≡◌, refl, ℕ, Bool, true, false, ◌&&◌, List, [], map, Option, Some, None, slice_get, ap, ◌∙◌, sym, subst}
use Rattle.std.specs.Prelude.{IfOk}
use Rattle.std.proofs.Common.{Result, Ok, Err}
use Rattle.scc_base.specs.declared.refusal.Place.{Place}
use Rattle.scc_bits_kinds.specs.declared.kind.Kind.{Kind}
use Rattle.scc_bits_kinds.specs.declared.kind.Word.{Word}
use Rattle.scc_bits_kinds.specs.declared.op.Op.{Op}
use Rattle.scc_bits_kinds.specs.Kinds.{Fits, IsValid}
use Rattle.scc_core.specs.declared.expr.CoreBase.{CoreBase, roll-CoreBase}
use Rattle.scc_core.specs.declared.expr.CoreBase.TheVariants as base
use Rattle.scc_core.specs.declared.expr.CoreBase.TheOpen.{CoreExprNode-F}
use Rattle.scc_core.specs.declared.expr.CoreBase.TheOpen as tree
use Rattle.scc_core.specs.declared.expr.CoreExpr.{CoreExpr}
use Rattle.scc_core.specs.declared.expr.CoreExprNode.{CoreExprNode, out-CoreExprNode, out-roll-CoreExprNode, roll-CoreExprNode}
use Rattle.scc_core.specs.declared.expr.CoreExprNode.TheVariants as node
use Rattle.scc_core.specs.declared.expr.CoreLeft.{CoreLeft}
use Rattle.scc_core.specs.declared.expr.CorePart.{CorePart}
use Rattle.scc_core.specs.declared.expr.CorePick.{CorePick}
use Rattle.scc_core.specs.declared.program.Cell.{Cell}
use Rattle.scc_core.specs.Operands.{first_in, first_of}
use Rattle.scc_core_view.specs.Whole as rule
use Rattle.scc_core_view.specs.Whole.{IsLoaded, IsNamed, IsWhole, made, location}
use Rattle.scc_core_whole.specs.Parts.{HaveNames, IfWhole, IsOperated}

pub first : (a b : Bool) → (a && b) ≡ true → a ≡ true
first true b e = refl
first false b e = absurd cc

pub second : (a b : Bool) → (a && b) ≡ true → b ≡ true
second true b e = e
second false b e = absurd cc

-- what holds of each answer
pub each-ok : {A E : Type 0} (P Q : A → Type 0) (r : Result A E) → IfOk r P → ((a : A) → P a → Q a) → IfOk r Q
each-ok P Q (Ok a) p f = f a p
each-ok P Q (Err e) p f = p

abbrev Layer : Type 0
Layer = CoreExprNode-F CoreBase CoreExprNode CorePart CorePick CoreExpr CoreLeft

first_is : (e : CoreExpr) (n : CoreExprNode) (x : Layer) → e.node ≡ n → roll-CoreExprNode x ≡ n → first_of e ≡ first_in x
first_is e n x is rolls = ap (λ m. first_in (out-CoreExprNode m)) (is ∙ sym rolls) ∙ ap first_in (out-roll-CoreExprNode x)

by_node : (e : CoreExpr) (n : CoreExprNode) (x : Layer) → e.node ≡ n → roll-CoreExprNode x ≡ n → made e.place e.kind x ≡ e
by_node e n x is rolls = λ i. record { place = e.place; kind = e.kind; node = (rolls ∙ sym is) i }

module _ (cells : List Cell) where
  from : (e : CoreExpr) (n : CoreExprNode) (x : Layer) → e.node ≡ n → roll-CoreExprNode x ≡ n → IsWhole cells (made e.place e.kind x) → IsWhole cells e
  from e n x is rolls w = subst (IsWhole cells) (by_node e n x is rolls) w

  inner : (e a : CoreExpr) (n : CoreExprNode) (x : Layer) → e.node ≡ n → roll-CoreExprNode x ≡ n → first_in x ≡ Some a → IfWhole cells (first_of e) → IsWhole cells a
  inner e a n x is rolls f h = subst (IfWhole cells) (first_is e n x is rolls ∙ f) h

  pub lit_whole : (e : CoreExpr) (w : Word) → e.node ≡ node.Lit w → IsValid e.kind × Fits e.kind w.bits → IsWhole cells e
  lit_whole e w is h = from e (node.Lit w) (tree.Lit w) is (node.rolls-Lit w) (rule.literal w h.0 h.1)

  pub load_whole : (e : CoreExpr) (l : CoreLeft) → e.node ≡ node.Load l → IsLoaded cells e.kind l → IsWhole cells e
  load_whole e l is h = from e (node.Load l) (tree.Load l) is (node.rolls-Load l) (rule.load h)

  pub read_whole : (e : CoreExpr) (l : CoreLeft) → e.node ≡ node.Read l → IsWhole cells e
  read_whole e l is = from e (node.Read l) (tree.Read l) is (node.rolls-Read l) (rule.read l)

  pub convert_whole : (e a : CoreExpr) → e.node ≡ node.Convert a → IsValid e.kind → IfWhole cells (first_of e) → IsWhole cells e
  convert_whole e a is v h = from e (node.Convert a) (tree.Convert a) is (node.rolls-Convert a) (rule.convert v (inner e a (node.Convert a) (tree.Convert a) is (node.rolls-Convert a) refl h))

  pub operate_whole : (e a : CoreExpr) (o : Op) (r : Option CoreExpr) → e.node ≡ node.Operate o a r → IsOperated cells e.kind o a.kind r → IfWhole cells (first_of e) → IsWhole cells e
  operate_whole e a o None is w h =
      from e (node.Operate o a None) (tree.Operate o a None) is (node.rolls-Operate o a None)
      (rule.unary w.0 (λ n f. w.1 n.word) (inner e a (node.Operate o a None) (tree.Operate o a None) is (node.rolls-Operate o a None) refl h))
  operate_whole e a o (Some b) is w h =
      from e (node.Operate o a (Some b)) (tree.Operate o a (Some b)) is (node.rolls-Operate o a (Some b))
      (rule.binary w.0 w.1 (inner e a (node.Operate o a (Some b)) (tree.Operate o a (Some b)) is (node.rolls-Operate o a (Some b)) refl h) w.2)

  pub choose_whole : (e t a b : CoreExpr) → e.node ≡ node.Choose t a b → IsValid e.kind → IsWhole cells a → IsWhole cells b → IfWhole cells (first_of e) → IsWhole cells e
  choose_whole e t a b is v x y h = from e (node.Choose t a b) (tree.Choose t a b) is (node.rolls-Choose t a b) (rule.choose v (inner e t (node.Choose t a b) (tree.Choose t a b) is (node.rolls-Choose t a b) refl h) x y)

  pub cell_named : HaveNames cells → (n : ℕ) (c : Cell) (k : Kind) → slice_get cells n ≡ Some c → c.kind ≡ k → (p : Place) → IsNamed cells p (roll-CoreBase (tree.Cell n)) [] k
  cell_named h n c k e is p = subst (λ k. IsNamed cells p (roll-CoreBase (tree.Cell n)) [] k) is (rule.cell n c e (h n c e))

  pub cell_loaded : (l : CoreLeft) (n : ℕ) (k : Kind) → l.base ≡ base.Cell n → l.parts ≡ [] → l.pick ≡ None → ((p : Place) → IsNamed cells p (roll-CoreBase (tree.Cell n)) [] k) → IsLoaded cells k l
  cell_loaded l n k is parts pick h =
      subst (IsLoaded cells k) (λ i. record { place = l.place; base = (base.rolls-Cell n ∙ sym is) i; parts = sym parts i; pick = sym pick i }) (rule.all (h l.place))
