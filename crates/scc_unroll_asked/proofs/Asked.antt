-- What is asked of a statement by its node, and of the statements of a list.
use Rattle.std.proofs.Common.{◌≡◌, refl, sym, ap, subst, ◌∙◌, ℕ, zero, suc, ◌+◌, ◌<◌, add-one, List, [], ◌∷◌, ◌++◌, take, drop, drop-cons, get_or, length, Option}
use Rattle.scc_core.specs.declared.expr.CoreExpr.{CoreExpr}
use Rattle.scc_core.specs.declared.expr.CoreLeft.{CoreLeft}
use Rattle.scc_core.specs.declared.statics.Known.{Known}
use Rattle.scc_core.specs.declared.stmt.Count.{Count}
use Rattle.scc_core.specs.declared.stmt.CoreStmt.{CoreStmt, fold-roll-CoreStmt}
use Rattle.scc_core.specs.declared.stmt.CoreNode.{CoreNode, fold-CoreNode, fold-roll-CoreNode}
use Rattle.scc_core.specs.declared.stmt.CoreNode.TheVariants as node
use Rattle.scc_core.specs.declared.stmt.CoreNode.TheOpen as tree
use Rattle.scc_unroll_asked.specs.Asked.{asked_count, asked_node, asked_step, asked_in, asked, AreAll, AreRead, AreTaken, IsItself}
use Rattle.scc_unroll_asked.specs.Read.{IsRead}

abbrev by_node : CoreNode → List CoreExpr
by_node = fold-CoreNode (List CoreExpr) (List CoreExpr) asked_node asked_step

stands : (s : CoreStmt) (n m : CoreNode) → s.node ≡ n → n ≡ m → asked_in s ≡ by_node m
stands s n m is rolls = fold-roll-CoreStmt (List CoreExpr) (List CoreExpr) asked_node asked_step (record { place = s.place; node = s.node }) ∙ ap by_node (is ∙ rolls)

tests : (s : CoreStmt) (t : CoreExpr) (a b : List CoreStmt) → s.node ≡ node.If t a b → asked_in s ≡ t ∷ (asked a ++ asked b)
tests s t a b is = stands s _ _ is (sym (node.rolls-If t a b)) ∙ fold-roll-CoreNode (List CoreExpr) (List CoreExpr) asked_node asked_step (tree.If t a b)

blocks : (s : CoreStmt) (b : List CoreStmt) → s.node ≡ node.Block b → asked_in s ≡ asked b
blocks s b is = stands s _ _ is (sym (node.rolls-Block b)) ∙ fold-roll-CoreNode (List CoreExpr) (List CoreExpr) asked_node asked_step (tree.Block b)

loops : (s : CoreStmt) (n : Option Count) (b : List CoreStmt) → s.node ≡ node.Loop n b → asked_in s ≡ asked_count n ++ asked b
loops s n b is = stands s _ _ is (sym (node.rolls-Loop n b)) ∙ fold-roll-CoreNode (List CoreExpr) (List CoreExpr) asked_node asked_step (tree.Loop n b)

assigns : (s : CoreStmt) (l : CoreLeft) (e : CoreExpr) → s.node ≡ node.Assign l e → asked_in s ≡ e ∷ []
assigns s l e is = stands s _ _ is (sym (node.rolls-Assign l e)) ∙ fold-roll-CoreNode (List CoreExpr) (List CoreExpr) asked_node asked_step (tree.Assign l e)

-- those of a front part, and of the rest
all_front : (Q : CoreExpr → Type 0) (a b : List CoreExpr) → AreAll Q (a ++ b) → AreAll Q a
all_front Q [] b h = tt
all_front Q (e ∷ a) b h = (h.0, all_front Q a b h.1)

all_back : (Q : CoreExpr → Type 0) (a b : List CoreExpr) → AreAll Q (a ++ b) → AreAll Q b
all_back Q [] b h = h
all_back Q (e ∷ a) b h = all_back Q a b h.1

no_more : (es : List CoreExpr) → es ++ [] ≡ es
no_more [] = refl
no_more (e ∷ es) = ap (λ x. e ∷ x) (no_more es)

module _ (Q : CoreExpr → Type 0) (s : CoreStmt) (h : AreAll Q (asked (s ∷ []))) where
  alone : AreAll Q (asked_in s)
  alone = subst (AreAll Q) (no_more (asked_in s)) h

  pub all_test : (t : CoreExpr) (a b : List CoreStmt) → s.node ≡ node.If t a b → AreAll Q (t ∷ (asked a ++ asked b))
  all_test t a b is = subst (AreAll Q) (tests s t a b is) alone

  pub all_yes : (t : CoreExpr) (a b : List CoreStmt) → s.node ≡ node.If t a b → AreAll Q (asked a)
  all_yes t a b is = all_front Q (asked a) (asked b) (all_test t a b is).1

  pub all_no : (t : CoreExpr) (a b : List CoreStmt) → s.node ≡ node.If t a b → AreAll Q (asked b)
  all_no t a b is = all_back Q (asked a) (asked b) (all_test t a b is).1

  pub all_block : (b : List CoreStmt) → s.node ≡ node.Block b → AreAll Q (asked b)
  all_block b is = subst (AreAll Q) (blocks s b is) alone

  pub all_count : (n : Option Count) (b : List CoreStmt) → s.node ≡ node.Loop n b → AreAll Q (asked_count n)
  all_count n b is = all_front Q (asked_count n) (asked b) (subst (AreAll Q) (loops s n b is) alone)

  pub all_loop : (n : Option Count) (b : List CoreStmt) → s.node ≡ node.Loop n b → AreAll Q (asked b)
  all_loop n b is = all_back Q (asked_count n) (asked b) (subst (AreAll Q) (loops s n b is) alone)

  pub all_value : (l : CoreLeft) (e : CoreExpr) → s.node ≡ node.Assign l e → AreAll Q (e ∷ [])
  all_value l e is = subst (AreAll Q) (assigns s l e is) alone

from_here : (ss : List CoreStmt) (i : ℕ) (s : CoreStmt) → i < length ss → s ≡ get_or ss i s → asked (drop i ss) ≡ asked_in s ++ asked (drop (i + 1) ss)
from_here ss i s h is =
    ap asked (drop-cons ss i s h)
    ∙ ap (λ x. asked_in x ++ asked (drop (suc i) ss)) (sym is)
    ∙ ap (λ n. asked_in s ++ asked (drop n ss)) (sym (add-one i))

-- of a list's statements from one on: those of that one, and of the rest
module _ (Q : CoreExpr → Type 0) (ss : List CoreStmt) (i : ℕ) (s : CoreStmt) (h : i < length ss) (is : s ≡ get_or ss i s) (r : AreAll Q (asked (drop i ss))) where
  pub all_first : AreAll Q (asked (s ∷ []))
  all_first = subst (AreAll Q) (sym (no_more (asked_in s))) (all_front Q (asked_in s) (asked (drop (i + 1) ss)) (subst (AreAll Q) (from_here ss i s h is) r))

  pub all_rest : AreAll Q (asked (drop (i + 1) ss))
  all_rest = all_back Q (asked_in s) (asked (drop (i + 1) ss)) (subst (AreAll Q) (from_here ss i s h is) r)

-- ---- behind the first, and so many of them

all_both : (Q : CoreExpr → Type 0) (a b : List CoreExpr) → AreAll Q a → AreAll Q b → AreAll Q (a ++ b)
all_both Q [] b h r = r
all_both Q (e ∷ a) b h r = (h.0, all_both Q a b h.1 r)

all_taken : (Q : CoreExpr → Type 0) (n : ℕ) (ss : List CoreStmt) → AreAll Q (asked ss) → AreAll Q (asked (take n ss))
all_taken Q zero ss h = tt
all_taken Q (suc n) [] h = tt
all_taken Q (suc n) (s ∷ ss) h = all_both Q (asked_in s) (asked (take n ss)) (all_front Q (asked_in s) (asked ss) h) (all_taken Q n ss (all_back Q (asked_in s) (asked ss) h))

all_tail : (Q : CoreExpr → Type 0) (ss : List CoreStmt) → AreAll Q (asked ss) → AreAll Q (asked (drop 1 ss))
all_tail Q [] h = tt
all_tail Q (s ∷ ss) h = all_back Q (asked_in s) (asked ss) h

pub all_few : (Q : CoreExpr → Type 0) (ss : List CoreStmt) (n : ℕ) → AreAll Q (asked ss) → AreAll Q (asked (take n (drop 1 ss)))
all_few Q ss n h = all_taken Q n (drop 1 ss) (all_tail Q ss h)

-- of several statements, those of the second
pub all_second : (Q : CoreExpr → Type 0) (ss : List CoreStmt) (s : CoreStmt) → 1 < length ss → s ≡ get_or ss 1 s → AreAll Q (asked ss) → AreAll Q (asked (s ∷ []))
all_second Q ss s h is r = all_first Q ss 1 s h is (all_tail Q ss r)

-- ---- of values that are read

pub read_front : (k : Known) (a b : List CoreExpr) → AreRead k (a ++ b) → AreRead k a
read_front k = all_front (IsRead k)

pub read_back : (k : Known) (a b : List CoreExpr) → AreRead k (a ++ b) → AreRead k b
read_back k = all_back (IsRead k)

module _ (k : Known) (s : CoreStmt) (h : AreRead k (asked (s ∷ []))) where
  pub test_read : (t : CoreExpr) (a b : List CoreStmt) → s.node ≡ node.If t a b → AreRead k (t ∷ (asked a ++ asked b))
  test_read = all_test (IsRead k) s h

  pub yes_read : (t : CoreExpr) (a b : List CoreStmt) → s.node ≡ node.If t a b → AreRead k (asked a)
  yes_read = all_yes (IsRead k) s h

  pub no_read : (t : CoreExpr) (a b : List CoreStmt) → s.node ≡ node.If t a b → AreRead k (asked b)
  no_read = all_no (IsRead k) s h

  pub block_read : (b : List CoreStmt) → s.node ≡ node.Block b → AreRead k (asked b)
  block_read = all_block (IsRead k) s h

  pub count_read : (n : Option Count) (b : List CoreStmt) → s.node ≡ node.Loop n b → AreRead k (asked_count n)
  count_read = all_count (IsRead k) s h

  pub loop_read : (n : Option Count) (b : List CoreStmt) → s.node ≡ node.Loop n b → AreRead k (asked b)
  loop_read = all_loop (IsRead k) s h

  pub value_read : (l : CoreLeft) (e : CoreExpr) → s.node ≡ node.Assign l e → AreRead k (e ∷ [])
  value_read = all_value (IsRead k) s h

module _ (k : Known) (ss : List CoreStmt) (i : ℕ) (s : CoreStmt) (h : i < length ss) (is : s ≡ get_or ss i s) (r : AreRead k (asked (drop i ss))) where
  pub first_read : AreRead k (asked (s ∷ []))
  first_read = all_first (IsRead k) ss i s h is r

  pub rest_read : AreRead k (asked (drop (i + 1) ss))
  rest_read = all_rest (IsRead k) ss i s h is r

pub rest_taken : (k : Known) (ss : List CoreStmt) (n : ℕ) → AreRead k (asked ss) → AreRead k (asked (take n (drop 1 ss)))
rest_taken k = all_few (IsRead k)

pub middle_read : (k : Known) (ss : List CoreStmt) (s : CoreStmt) → 1 < length ss → s ≡ get_or ss 1 s → AreRead k (asked ss) → AreRead k (asked (s ∷ []))
middle_read k = all_second (IsRead k)

-- ---- of expressions that are taken

pub all_read : (k : Known) (es : List CoreExpr) → AreTaken k es → AreRead k es
all_read k [] h = tt
all_read k (e ∷ es) h = (h.0.read, all_read k es h.1)

pub all_themselves : (k : Known) (es : List CoreExpr) → AreTaken k es → AreAll IsItself es
all_themselves k [] h = tt
all_themselves k (e ∷ es) h = (h.0.itself, all_themselves k es h.1)
