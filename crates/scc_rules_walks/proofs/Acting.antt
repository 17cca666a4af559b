-- The statements of a body, one after the other.
use Rattle.std.proofs.Common.{◌≡◌, refl, ℕ, suc, ◌+◌, ◌<◌, subst, ap, sym, ◌∙◌, List, [], ◌∷◌, ◌++◌, drop, get_or, length, map, append_assoc, Option, Some, None}
use Rattle.scc_base.specs.declared.refusal.Place.{Place}
use Rattle.scc_core.specs.declared.expr.CoreExpr.{CoreExpr}
use Rattle.scc_core.specs.declared.expr.CoreLeft.{CoreLeft}
use Rattle.scc_core.specs.declared.stmt.CoreStmt.{CoreStmt, fold-roll-CoreStmt, ind-CoreStmt}
use Rattle.scc_core.specs.declared.stmt.CoreNode.{CoreNode, fold-roll-CoreNode}
use Rattle.scc_core.specs.declared.stmt.CoreNode.TheVariants as given
use Rattle.scc_core.specs.declared.stmt.CoreNode.TheOpen.{CoreNode-F}
use Rattle.scc_core.specs.declared.stmt.CoreNode.TheOpen as node
use Rattle.scc_core.specs.declared.stmt.Count.{Count as Counting}
use Rattle.scc_core_spec.specs.Code.{Code, End}
use Rattle.scc_core_spec.specs.Uses.{Act, Use, acts, inside, loads, picked}
use Rattle.scc_core_view.specs.Codes.{Node, stmt_node, stmt_step, stmt_code, code_of, before}
use Rattle.scc_core_view.specs.Terms.{taken_of, term_of}
use Rattle.scc_core_view.proofs.Layers.{assigns, tests, blocks, loops, exits, waits}
use Rattle.scc_rules_walks.specs.declared.acts.Act.{Act as Said}
use Rattle.scc_rules_walks.specs.Acts.{act_of, acts_in, put_reads}
use Rattle.scc_rules_walks.proofs.Steps.{from_here, node_fold}

around : (a n : List Act) → a ++ n ≡ (a ++ []) ++ n
around a n = sym (append_assoc a [] n)

around_two : (a b n : List Act) → a ++ (b ++ n) ≡ (a ++ (b ++ [])) ++ n
around_two a b n = ap (λ x. a ++ x) (around b n) ∙ sym (append_assoc a (b ++ []) n)

record ActsAdd (f : Code → Code) : Type 0 where
  pub acts_add : (c : Code) → acts (f c) ≡ acts (f End) ++ acts c

act_adds : (y : CoreNode-F Node (Code → Code)) (p : Place) → ActsAdd (stmt_node y p)
act_adds (node.Assign l e) p = record { acts_add = λ c. refl }
act_adds (node.If t a b) p = record { acts_add = λ c. ap (λ x. record { place = p; reads = loads (term_of t); writes = None } ∷ x) (around_two (acts (before a End)) (acts (before b End)) (acts c)) }
act_adds (node.Block b) p = record { acts_add = λ c. around (acts (before b End)) (acts c) }
act_adds (node.Loop n b) p = record { acts_add = λ c. around (acts (before b End)) (acts c) }
act_adds (node.Exit n) p = record { acts_add = λ c. refl }
act_adds (node.Wait n) p = record { acts_add = λ c. refl }
act_adds (node.Alias to target) p = record { acts_add = λ c. refl }

stmt_acts : (s : CoreStmt) → ActsAdd (stmt_code s)
stmt_acts = ind-CoreStmt (λ n. (p : Place) → ActsAdd (node_fold n p)) (λ s. ActsAdd (stmt_code s))
    (λ x y is p. subst (λ f. ActsAdd (f p)) (sym (fold-roll-CoreNode Node (Code → Code) stmt_node stmt_step x)) (act_adds _ p))
    (λ x y is. subst (λ f. ActsAdd f) (sym (fold-roll-CoreStmt Node (Code → Code) stmt_node stmt_step x)) (subst (λ n. ActsAdd (node_fold n x.place)) (ap (λ z. z.node) is) (y.node.1 x.place)))

-- a statement, and those behind it
pub acts_next : (ss : List CoreStmt) (i : ℕ) (s : CoreStmt) (old now all : List Act) → i < length ss → s ≡ get_or ss i s → now ≡ old ++ acts (code_of (s ∷ []))
    → old ++ acts (code_of (drop i ss)) ≡ all → now ++ acts (code_of (drop (i + 1) ss)) ≡ all
acts_next ss i s old now all h is new told =
    ap (λ x. x ++ acts (code_of (drop (i + 1) ss))) new ∙ append_assoc old (acts (code_of (s ∷ []))) (acts (code_of (drop (i + 1) ss)))
    ∙ ap (λ x. old ++ x) (sym ((stmt_acts s).acts_add (code_of (drop (i + 1) ss))) ∙ sym (ap acts (from_here ss i s h is))) ∙ told

pub no_more : {A : Type 0} (xs : List A) → xs ++ [] ≡ xs
no_more [] = refl
no_more (x ∷ xs) = ap (λ ys. x ∷ ys) (no_more xs)

pub acts_all : (now all : List Act) (ss : List CoreStmt) → ss ≡ [] → now ++ acts (code_of ss) ≡ all → now ≡ all
acts_all now all ss none told = sym (no_more now) ∙ sym (ap (λ zs. now ++ acts (code_of zs)) none) ∙ told

-- one more
acts_last : (xs : List Said) (x : Said) → acts_in (xs ++ x ∷ []) ≡ acts_in xs ++ act_of x ∷ []
acts_last [] x = refl
acts_last (y ∷ xs) x = ap (λ ys. act_of y ∷ ys) (acts_last xs x)

pub put_acts : (s : CoreStmt) (l : CoreLeft) (e : CoreExpr) (xs ys : List Said) (x : Said) → s.node ≡ given.Assign l e → ys ≡ xs ++ x ∷ []
    → act_of x ≡ record { place = s.place; reads = put_reads l e; writes = Some ((taken_of l).left, (taken_of l).pick) } → acts_in ys ≡ acts_in xs ++ acts (code_of (s ∷ []))
put_acts s l e xs ys x is more told =
    ap acts_in more ∙ acts_last xs x ∙ ap (λ a. acts_in xs ++ a ∷ []) told
    ∙ ap (λ us. acts_in xs ++ record { place = s.place; reads = us; writes = Some ((taken_of l).left, (taken_of l).pick) } ∷ []) (append_assoc (inside (taken_of l).left) (picked (taken_of l).pick) (loads (term_of e)))
    ∙ ap (λ a. acts_in xs ++ a) (sym (ap acts (assigns s l e is End)))

pub test_acts : (s : CoreStmt) (t : CoreExpr) (a b ss ts : List CoreStmt) (xs ys : List Said) (x : Said) (us vs : List Act) → s.node ≡ given.If t a b → ss ≡ a → ts ≡ b → ys ≡ xs ++ x ∷ []
    → act_of x ≡ record { place = s.place; reads = loads (term_of t); writes = None } → us ≡ acts_in ys ++ acts (code_of ss) → vs ≡ us ++ acts (code_of ts)
    → vs ≡ acts_in xs ++ acts (code_of (s ∷ []))
test_acts s t a b ss ts xs ys x us vs is same other more told h k =
    let own : Act = record { place = s.place; reads = loads (term_of t); writes = None } in
    let first : acts_in ys ≡ acts_in xs ++ own ∷ [] = ap acts_in more ∙ acts_last xs x ∙ ap (λ z. acts_in xs ++ z ∷ []) told in
    k ∙ (λ i. (h ∙ (λ j. first j ++ acts (code_of (same j)))) i ++ acts (code_of (other i)))
    ∙ append_assoc (acts_in xs ++ own ∷ []) (acts (code_of a)) (acts (code_of b)) ∙ append_assoc (acts_in xs) (own ∷ []) (acts (code_of a) ++ acts (code_of b))
    ∙ ap (λ z. acts_in xs ++ own ∷ (acts (code_of a) ++ z)) (sym (no_more (acts (code_of b)))) ∙ ap (λ z. acts_in xs ++ z) (sym (ap acts (tests s t a b is End)))

pub block_acts : (s : CoreStmt) (b ss : List CoreStmt) (us vs : List Act) → s.node ≡ given.Block b → ss ≡ b → vs ≡ us ++ acts (code_of ss) → vs ≡ us ++ acts (code_of (s ∷ []))
block_acts s b ss us vs is same h = h ∙ ap (λ zs. us ++ acts (code_of zs)) same ∙ ap (λ z. us ++ z) (sym (no_more (acts (code_of b))) ∙ sym (ap acts (blocks s b is End)))

pub loop_acts : (s : CoreStmt) (n : Option Counting) (b ss : List CoreStmt) (us vs : List Act) → s.node ≡ given.Loop n b → ss ≡ b → vs ≡ us ++ acts (code_of ss) → vs ≡ us ++ acts (code_of (s ∷ []))
loop_acts s n b ss us vs is same h = h ∙ ap (λ zs. us ++ acts (code_of zs)) same ∙ ap (λ z. us ++ z) (sym (no_more (acts (code_of b))) ∙ sym (ap acts (loops s n b is End)))

pub exit_acts : (s : CoreStmt) (n : ℕ) (us : List Act) → s.node ≡ given.Exit n → us ≡ us ++ acts (code_of (s ∷ []))
exit_acts s n us is = sym (no_more us) ∙ ap (λ z. us ++ z) (sym (ap acts (exits s n is End)))

pub wait_acts : (s : CoreStmt) (n : ℕ) (us : List Act) → s.node ≡ given.Wait n → us ≡ us ++ acts (code_of (s ∷ []))
wait_acts s n us is = sym (no_more us) ∙ ap (λ z. us ++ z) (sym (ap acts (waits s n is End)))
