-- What is asked of a statement by its node, and of the statements of a list.
use Rattle.std.proofs.Common.{◌≡◌, refl, sym, ap, subst, ◌∙◌, ℕ, suc, ◌+◌, ◌<◌, add-one, List, [], ◌∷◌, ◌++◌, drop, drop-cons, get_or, length, Option}
use Rattle.scc_core.specs.declared.expr.CoreExpr.{CoreExpr}
use Rattle.scc_core.specs.declared.expr.CoreLeft.{CoreLeft}
use Rattle.scc_core.specs.declared.stmt.Count.{Count}
use Rattle.scc_core.specs.declared.stmt.Pointed.{Pointed}
use Rattle.scc_core.specs.declared.stmt.CoreStmt.{CoreStmt, fold-roll-CoreStmt}
use Rattle.scc_core.specs.declared.stmt.CoreNode.{CoreNode, fold-CoreNode, fold-roll-CoreNode}
use Rattle.scc_core.specs.declared.stmt.CoreNode.TheVariants as node
use Rattle.scc_core.specs.declared.stmt.CoreNode.TheOpen as tree
use Rattle.scc_pointers_walk.specs.declared.held.Resolver.{Resolver}
use Rattle.scc_pointers_laws.specs.Asked.{AreAsked, IsBeside}
use Rattle.scc_unroll_asked.specs.Items.{AreAll, Item, Place, Value, asked, asked_count, asked_in, asked_node, asked_step, asked_to}

abbrev by_node : CoreNode → List Item
by_node = fold-CoreNode (List Item) (List Item) asked_node asked_step

stands : (s : CoreStmt) (n m : CoreNode) → s.node ≡ n → n ≡ m → asked_in s ≡ by_node m
stands s n m is rolls = fold-roll-CoreStmt (List Item) (List Item) asked_node asked_step (record { place = s.place; node = s.node }) ∙ ap by_node (is ∙ rolls)

no_more : (es : List Item) → es ++ [] ≡ es
no_more [] = refl
no_more (e ∷ es) = ap (λ x. e ∷ x) (no_more es)

-- those of a front part, and of the rest
pub all_front : (Q : Item → Type 0) (a b : List Item) → AreAll Q (a ++ b) → AreAll Q a
all_front Q [] b h = tt
all_front Q (e ∷ a) b h = (h.0, all_front Q a b h.1)

pub all_back : (Q : Item → Type 0) (a b : List Item) → AreAll Q (a ++ b) → AreAll Q b
all_back Q [] b h = h
all_back Q (e ∷ a) b h = all_back Q a b h.1

module _ (Q : Item → Type 0) (s : CoreStmt) (h : AreAll Q (asked (s ∷ []))) where
  alone : AreAll Q (asked_in s)
  alone = subst (AreAll Q) (no_more (asked_in s)) h

  pub all_put : (l : CoreLeft) (e : CoreExpr) → s.node ≡ node.Assign l e → AreAll Q (Place l ∷ Value e ∷ [])
  all_put l e is = subst (AreAll Q) (stands s _ _ is (sym (node.rolls-Assign l e)) ∙ fold-roll-CoreNode (List Item) (List Item) asked_node asked_step (tree.Assign l e)) alone

  pub all_if : (t : CoreExpr) (a b : List CoreStmt) → s.node ≡ node.If t a b → AreAll Q (Value t ∷ (asked a ++ asked b))
  all_if t a b is = subst (AreAll Q) (stands s _ _ is (sym (node.rolls-If t a b)) ∙ fold-roll-CoreNode (List Item) (List Item) asked_node asked_step (tree.If t a b)) alone

  pub all_block : (b : List CoreStmt) → s.node ≡ node.Block b → AreAll Q (asked b)
  all_block b is = subst (AreAll Q) (stands s _ _ is (sym (node.rolls-Block b)) ∙ fold-roll-CoreNode (List Item) (List Item) asked_node asked_step (tree.Block b)) alone

  pub all_loop : (n : Option Count) (b : List CoreStmt) → s.node ≡ node.Loop n b → AreAll Q (asked_count n ++ asked b)
  all_loop n b is = subst (AreAll Q) (stands s _ _ is (sym (node.rolls-Loop n b)) ∙ fold-roll-CoreNode (List Item) (List Item) asked_node asked_step (tree.Loop n b)) alone

  pub all_aim : (to : Pointed) (l : CoreLeft) → s.node ≡ node.Alias to l → AreAll Q (Place l ∷ asked_to to)
  all_aim to l is = subst (AreAll Q) (stands s _ _ is (sym (node.rolls-Alias to l)) ∙ fold-roll-CoreNode (List Item) (List Item) asked_node asked_step (tree.Alias to l)) alone

from_here : (ss : List CoreStmt) (i : ℕ) (s : CoreStmt) → i < length ss → s ≡ get_or ss i s → asked (drop i ss) ≡ asked_in s ++ asked (drop (i + 1) ss)
from_here ss i s h is =
    ap asked (drop-cons ss i s h)
    ∙ ap (λ x. asked_in x ++ asked (drop (suc i) ss)) (sym is)
    ∙ ap (λ n. asked_in s ++ asked (drop n ss)) (sym (add-one i))

-- of a list's statements from one on: those of that one, and of the rest
module _ (Q : Item → Type 0) (ss : List CoreStmt) (i : ℕ) (s : CoreStmt) (h : i < length ss) (is : s ≡ get_or ss i s) (r : AreAll Q (asked (drop i ss))) where
  pub all_first : AreAll Q (asked (s ∷ []))
  all_first = subst (AreAll Q) (sym (no_more (asked_in s))) (all_front Q (asked_in s) (asked (drop (i + 1) ss)) (subst (AreAll Q) (from_here ss i s h is) r))

  pub all_rest : AreAll Q (asked (drop (i + 1) ss))
  all_rest = all_back Q (asked_in s) (asked (drop (i + 1) ss)) (subst (AreAll Q) (from_here ss i s h is) r)

-- the same core
pub beside_on : (a b c : Resolver) → IsBeside a b → IsBeside b c → IsBeside a c
beside_on a b c h g = record { known = h.known ∙ g.known; places = h.places ∙ g.places; vectors = h.vectors ∙ g.vectors }

pub beside_back : (a b : Resolver) → IsBeside a b → IsBeside b a
beside_back a b h = record { known = sym h.known; places = sym h.places; vectors = sym h.vectors }

-- what is asked of a core is asked wherever pointers lead
pub asked_beside : (a b : Resolver) → IsBeside a b → (xs : List Item) → AreAsked b xs → AreAsked a xs
asked_beside a b h [] g = tt
asked_beside a b h (x ∷ xs) g = ((λ s i. g.0 s (beside_on s a b i h)), asked_beside a b h xs g.1)

pub itself : (r : Resolver) → IsBeside r r
itself r = record { known = refl; places = refl; vectors = refl }
