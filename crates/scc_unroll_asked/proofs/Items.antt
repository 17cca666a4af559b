-- Expressions and locations of a statement by its node, and of the statements of a list.
use Rattle.std.proofs.Common.{zero, suc, take, ◌≡◌, refl, sym, ap, subst, ◌∙◌, ℕ, ◌+◌, ◌<◌, add-one, List, [], ◌∷◌, ◌++◌, drop, drop-cons, get_or, length, map, Option, inl, inr}
use Rattle.scc_core.specs.declared.copy.Counter.{Counter as Held}
use Rattle.scc_core.specs.declared.expr.CoreExpr.{CoreExpr}
use Rattle.scc_core.specs.declared.expr.CoreLeft.{CoreLeft}
use Rattle.scc_core.specs.declared.program.Cell.{Cell}
use Rattle.scc_core.specs.declared.program.CoreProcess.{CoreProcess}
use Rattle.scc_core.specs.declared.stmt.Count.{Count}
use Rattle.scc_core.specs.declared.stmt.Pointed.{Pointed}
use Rattle.scc_core.specs.declared.stmt.CoreStmt.{CoreStmt, fold-roll-CoreStmt}
use Rattle.scc_core.specs.declared.stmt.CoreNode.{CoreNode, fold-CoreNode, fold-roll-CoreNode}
use Rattle.scc_core.specs.declared.stmt.CoreNode.TheVariants as node
use Rattle.scc_core.specs.declared.stmt.CoreNode.TheOpen as tree
use Rattle.scc_unroll_asked.specs.Copied.{AreCopies, AreOf, HaveCopies, IsCopy, copied, copy}
use Rattle.scc_unroll_asked.specs.Items.{AreAll, Item, Place, Value, asked, asked_count, asked_in, asked_node, asked_step, asked_to}
use Rattle.scc_unroll_asked.specs.Read.{AreCounters}

abbrev by_node : CoreNode → List Item
by_node = fold-CoreNode (List Item) (List Item) asked_node asked_step

stands : (s : CoreStmt) (n m : CoreNode) → s.node ≡ n → n ≡ m → asked_in s ≡ by_node m
stands s n m is rolls = fold-roll-CoreStmt (List Item) (List Item) asked_node asked_step (record { place = s.place; node = s.node }) ∙ ap by_node (is ∙ rolls)

pub tests : (s : CoreStmt) (t : CoreExpr) (a b : List CoreStmt) → s.node ≡ node.If t a b → asked_in s ≡ Value t ∷ (asked a ++ asked b)
tests s t a b is = stands s _ _ is (sym (node.rolls-If t a b)) ∙ fold-roll-CoreNode (List Item) (List Item) asked_node asked_step (tree.If t a b)

pub blocks : (s : CoreStmt) (b : List CoreStmt) → s.node ≡ node.Block b → asked_in s ≡ asked b
blocks s b is = stands s _ _ is (sym (node.rolls-Block b)) ∙ fold-roll-CoreNode (List Item) (List Item) asked_node asked_step (tree.Block b)

pub loops : (s : CoreStmt) (n : Option Count) (b : List CoreStmt) → s.node ≡ node.Loop n b → asked_in s ≡ asked_count n ++ asked b
loops s n b is = stands s _ _ is (sym (node.rolls-Loop n b)) ∙ fold-roll-CoreNode (List Item) (List Item) asked_node asked_step (tree.Loop n b)

pub assigns : (s : CoreStmt) (l : CoreLeft) (e : CoreExpr) → s.node ≡ node.Assign l e → asked_in s ≡ Place l ∷ Value e ∷ []
assigns s l e is = stands s _ _ is (sym (node.rolls-Assign l e)) ∙ fold-roll-CoreNode (List Item) (List Item) asked_node asked_step (tree.Assign l e)

pub aims : (s : CoreStmt) (to : Pointed) (l : CoreLeft) → s.node ≡ node.Alias to l → asked_in s ≡ Place l ∷ asked_to to
aims s to l is = stands s _ _ is (sym (node.rolls-Alias to l)) ∙ fold-roll-CoreNode (List Item) (List Item) asked_node asked_step (tree.Alias to l)

pub exits : (s : CoreStmt) (n : ℕ) → s.node ≡ node.Exit n → asked_in s ≡ []
exits s n is = stands s _ _ is (sym (node.rolls-Exit n)) ∙ fold-roll-CoreNode (List Item) (List Item) asked_node asked_step (tree.Exit n)

pub waits : (s : CoreStmt) (n : ℕ) → s.node ≡ node.Wait n → asked_in s ≡ []
waits s n is = stands s _ _ is (sym (node.rolls-Wait n)) ∙ fold-roll-CoreNode (List Item) (List Item) asked_node asked_step (tree.Wait n)

-- ---- lists

pub all_front : (Q : Item → Type 0) (a b : List Item) → AreAll Q (a ++ b) → AreAll Q a
all_front Q [] b h = tt
all_front Q (e ∷ a) b h = (h.0, all_front Q a b h.1)

pub all_back : (Q : Item → Type 0) (a b : List Item) → AreAll Q (a ++ b) → AreAll Q b
all_back Q [] b h = h
all_back Q (e ∷ a) b h = all_back Q a b h.1

pub all_both : (Q : Item → Type 0) (a b : List Item) → AreAll Q a → AreAll Q b → AreAll Q (a ++ b)
all_both Q [] b h r = r
all_both Q (e ∷ a) b h r = (h.0, all_both Q a b h.1 r)

no_more : (es : List Item) → es ++ [] ≡ es
no_more [] = refl
no_more (e ∷ es) = ap (λ x. e ∷ x) (no_more es)

behind : (a b c : List Item) → (a ++ b) ++ c ≡ a ++ (b ++ c)
behind [] b c = refl
behind (x ∷ a) b c = ap (λ y. x ∷ y) (behind a b c)

pub asked_both : (a b : List CoreStmt) → asked (a ++ b) ≡ asked a ++ asked b
asked_both [] b = refl
asked_both (s ∷ a) b = ap (λ x. asked_in s ++ x) (asked_both a b) ∙ sym (behind (asked_in s) (asked a) (asked b))

pub asked_one : (s : CoreStmt) → asked (s ∷ []) ≡ asked_in s
asked_one s = no_more (asked_in s)

pub from_here : (ss : List CoreStmt) (i : ℕ) (s : CoreStmt) → i < length ss → s ≡ get_or ss i s → asked (drop i ss) ≡ asked_in s ++ asked (drop (i + 1) ss)
from_here ss i s h is =
    ap asked (drop-cons ss i s h)
    ∙ ap (λ x. asked_in x ++ asked (drop (suc i) ss)) (sym is)
    ∙ ap (λ n. asked_in s ++ asked (drop n ss)) (sym (add-one i))

-- of a list's statements from one on: those of that one, and of the rest
module _ (Q : Item → Type 0) (ss : List CoreStmt) (i : ℕ) (s : CoreStmt) (h : i < length ss) (is : s ≡ get_or ss i s) (r : AreAll Q (asked (drop i ss))) where
  pub all_first : AreAll Q (asked (s ∷ []))
  all_first = subst (AreAll Q) (sym (no_more (asked_in s))) (all_front Q (asked_in s) (asked (drop (i + 1) ss)) (subst (AreAll Q) (from_here ss i s h is) r))

  pub all_rest : AreAll Q (asked (drop (i + 1) ss))
  all_rest = all_back Q (asked_in s) (asked (drop (i + 1) ss)) (subst (AreAll Q) (from_here ss i s h is) r)

pub all_tail : (Q : Item → Type 0) (ss : List CoreStmt) → AreAll Q (asked ss) → AreAll Q (asked (drop 1 ss))
all_tail Q [] h = tt
all_tail Q (s ∷ ss) h = all_back Q (asked_in s) (asked ss) h

-- of several statements, those of the second
pub all_second : (Q : Item → Type 0) (ss : List CoreStmt) (s : CoreStmt) → 1 < length ss → s ≡ get_or ss 1 s → AreAll Q (asked ss) → AreAll Q (asked (s ∷ []))
all_second Q ss s h is r = all_first Q ss 1 s h is (all_tail Q ss r)

module _ (Q : Item → Type 0) (s : CoreStmt) (h : AreAll Q (asked (s ∷ []))) where
  alone : AreAll Q (asked_in s)
  alone = subst (AreAll Q) (no_more (asked_in s)) h

  pub all_test : (t : CoreExpr) (a b : List CoreStmt) → s.node ≡ node.If t a b → AreAll Q (Value t ∷ (asked a ++ asked b))
  all_test t a b is = subst (AreAll Q) (tests s t a b is) alone

  pub all_yes : (t : CoreExpr) (a b : List CoreStmt) → s.node ≡ node.If t a b → AreAll Q (asked a)
  all_yes t a b is = all_front Q (asked a) (asked b) (all_test t a b is).1

  pub all_no : (t : CoreExpr) (a b : List CoreStmt) → s.node ≡ node.If t a b → AreAll Q (asked b)
  all_no t a b is = all_back Q (asked a) (asked b) (all_test t a b is).1

  pub all_block : (b : List CoreStmt) → s.node ≡ node.Block b → AreAll Q (asked b)
  all_block b is = subst (AreAll Q) (blocks s b is) alone

  pub all_count : (n : Option Count) (b : List CoreStmt) → s.node ≡ node.Loop n b → AreAll Q (asked_count n)
  all_count n b is = all_front Q (asked_count n) (asked b) (subst (AreAll Q) (loops s n b is) alone)

  pub all_loop : (n : Option Count) (b : List CoreStmt) → s.node ≡ node.Loop n b → AreAll Q (asked b)
  all_loop n b is = all_back Q (asked_count n) (asked b) (subst (AreAll Q) (loops s n b is) alone)

  pub all_put : (l : CoreLeft) (e : CoreExpr) → s.node ≡ node.Assign l e → AreAll Q (Place l ∷ Value e ∷ [])
  all_put l e is = subst (AreAll Q) (assigns s l e is) alone

  pub all_aim : (to : Pointed) (l : CoreLeft) → s.node ≡ node.Alias to l → AreAll Q (Place l ∷ asked_to to)
  all_aim to l is = subst (AreAll Q) (aims s to l is) alone

-- ---- behind the first, and so many of them

all_taken : (Q : Item → Type 0) (n : ℕ) (ss : List CoreStmt) → AreAll Q (asked ss) → AreAll Q (asked (take n ss))
all_taken Q zero ss h = tt
all_taken Q (suc n) [] h = tt
all_taken Q (suc n) (s ∷ ss) h = all_both Q (asked_in s) (asked (take n ss)) (all_front Q (asked_in s) (asked ss) h) (all_taken Q n ss (all_back Q (asked_in s) (asked ss) h))

pub all_few : (Q : Item → Type 0) (ss : List CoreStmt) (n : ℕ) → AreAll Q (asked ss) → AreAll Q (asked (take n (drop 1 ss)))
all_few Q ss n h = all_taken Q n (drop 1 ss) (all_tail Q ss h)

-- ---- the same the other way

module _ (Q : Item → Type 0) (s : CoreStmt) where
  pub one_all : AreAll Q (asked_in s) → AreAll Q (asked (s ∷ []))
  one_all h = subst (AreAll Q) (sym (no_more (asked_in s))) h

-- statements behind others
pub push_all : (Q : Item → Type 0) (a b : List CoreStmt) → AreAll Q (asked a) → AreAll Q (asked b) → AreAll Q (asked (a ++ b))
push_all Q a b h r = subst (AreAll Q) (sym (asked_both a b)) (all_both Q (asked a) (asked b) h r)

-- ---- copies

module _ (cells : List Cell) (xs : List Item) (ns : List Held) (a : AreCounters cells ns) where
  pub copies_all : (ys : List Item) → AreOf xs ys → AreAll (IsCopy cells xs) (map (copied ns) ys)
  copies_all [] h = tt
  copies_all (y ∷ ys) h = (copy ns a y h.0, copies_all ys h.1)

pub one_more_of : (x y : Item) (xs ys : List Item) → AreOf xs ys → AreOf (x ∷ xs) ys
one_more_of x y xs [] h = tt
one_more_of x y xs (z ∷ ys) h = (inr h.0, one_more_of x y xs ys h.1)

-- each is one of them
pub all_of_them : (xs : List Item) → AreOf xs xs
all_of_them [] = tt
all_of_them (x ∷ xs) = (inl refl, one_more_of x x xs xs (all_of_them xs))

-- one process more
pub one_more_copied : (cells : List Cell) (ps qs : List CoreProcess) (p q : CoreProcess) → HaveCopies cells ps qs → AreCopies cells (asked p.body) q.body → HaveCopies cells (ps ++ p ∷ []) (qs ++ q ∷ [])
one_more_copied cells [] [] p q h c = (c, tt)
one_more_copied cells (x ∷ ps) (y ∷ qs) p q h c = (h.0, one_more_copied cells ps qs p q h.1 c)
one_more_copied cells [] (y ∷ qs) p q h c = absurd h
one_more_copied cells (x ∷ ps) [] p q h c = absurd h
