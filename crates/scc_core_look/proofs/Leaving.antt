-- Exits of statements before others.
use Rattle.std.proofs.Common.{◌≡◌, refl, arith, ℕ, suc, ◌+◌, ◌<◌, Bool, true, false, ◌&&◌, List, [], ◌∷◌, ◌++◌, take, get_or, length, add-one, Option, ap, ◌∙◌, sym, subst}
use Rattle.std.specs.Prelude.{nat_lt}
use Rattle.std.proofs.Math.Seq.{take-suc}
use Rattle.scc_base.specs.declared.refusal.Place.{Place}
use Rattle.scc_core.specs.declared.stmt.CoreStmt.{CoreStmt, fold-roll-CoreStmt, ind-CoreStmt}
use Rattle.scc_core.specs.declared.stmt.CoreNode.{CoreNode, fold-CoreNode, fold-roll-CoreNode}
use Rattle.scc_core.specs.declared.stmt.CoreNode.TheOpen.{CoreNode-F, CoreStmt-F}
use Rattle.scc_core.specs.declared.stmt.CoreNode.TheOpen as node
use Rattle.scc_core_spec.specs.Code.{Code, Count, End, If, Block, Loop, Exit}
use Rattle.scc_core_spec.specs.Term.{Term}
use Rattle.scc_core_spec.specs.Exits.{exits_within}
use Rattle.scc_core_view.specs.Codes.{Node, stmt_node, stmt_step, stmt_code, before, code_of}

both : (a b : Bool) → a ≡ true → b ≡ true → (a && b) ≡ true
both a b e f = λ z. e z && f z

first : (a b : Bool) → (a && b) ≡ true → a ≡ true
first true b e = refl
first false b e = absurd cc

second : (a b : Bool) → (a && b) ≡ true → b ≡ true
second true b e = e
second false b e = absurd cc

and-behind : (a c : Bool) → (a && c) ≡ ((a && true) && c)
and-behind true c = refl
and-behind false c = refl

and-behind-two : (a b c : Bool) → (a && (b && c)) ≡ ((a && (b && true)) && c)
and-behind-two true true c = refl
and-behind-two true false c = refl
and-behind-two false b c = refl

-- exits of what stands before others are their own
record Parts (f : Code → Code) : Type 0 where
  holds : (d : ℕ) (c : Code) → exits_within d (f c) ≡ (exits_within d (f End) && exits_within d c)

parts : (y : CoreNode-F Node (Code → Code)) (p : Place) → Parts (stmt_node y p)
parts (node.Assign l e) p = record { holds = λ d c. refl }
parts (node.If t a b) p = record { holds = λ d c. and-behind-two (exits_within d (before a End)) (exits_within d (before b End)) (exits_within d c) }
parts (node.Block b) p = record { holds = λ d c. and-behind (exits_within (suc d) (before b End)) (exits_within d c) }
parts (node.Loop n b) p = record { holds = λ d c. and-behind (exits_within d (before b End)) (exits_within d c) }
parts (node.Exit n) p = record { holds = λ d c. and-behind (nat_lt n d) (exits_within d c) }
parts (node.Wait n) p = record { holds = λ d c. refl }
parts (node.Alias to target) p = record { holds = λ d c. refl }

abbrev node_fold : CoreNode → Node
node_fold = fold-CoreNode Node (Code → Code) stmt_node stmt_step

stmt_parts : (s : CoreStmt) → Parts (stmt_code s)
stmt_parts = ind-CoreStmt (λ n. (p : Place) → Parts (node_fold n p)) (λ s. Parts (stmt_code s))
    (λ x y is p. subst (λ f. Parts (f p)) (sym (fold-roll-CoreNode Node (Code → Code) stmt_node stmt_step x)) (parts _ p))
    (λ x y is. subst (λ f. Parts f) (sym (fold-roll-CoreStmt Node (Code → Code) stmt_node stmt_step x)) (subst (λ n. Parts (node_fold n x.place)) (ap (λ z. z.node) is) (y.node.1 x.place)))

-- a list with one more
more : (d : ℕ) (ss : List CoreStmt) (s : CoreStmt) → exits_within d (code_of ss) ≡ true → exits_within d (stmt_code s End) ≡ true → exits_within d (code_of (ss ++ s ∷ [])) ≡ true
more d [] s e h = h
more d (x ∷ xs) s e h =
    let split = (stmt_parts x).holds d (code_of xs) in
    let both-are : (exits_within d (stmt_code x End) && exits_within d (code_of xs)) ≡ true = sym split ∙ e in
    (stmt_parts x).holds d (code_of (xs ++ s ∷ []))
    ∙ both (exits_within d (stmt_code x End)) (exits_within d (code_of (xs ++ s ∷ []))) (first (exits_within d (stmt_code x End)) (exits_within d (code_of xs)) both-are)
    (more d xs s (second (exits_within d (stmt_code x End)) (exits_within d (code_of xs)) both-are) h)

-- a walk along a list that is one further
pub goes_on : (d : ℕ) (ss : List CoreStmt) (i : ℕ) (s : CoreStmt) → i < length ss → s ≡ get_or ss i s → (stay one now : Bool) → (stay ≡ true → exits_within d (code_of (take i ss)) ≡ true) → (one ≡ true → exits_within d (stmt_code s End) ≡ true)
    → now ≡ (stay && one) → now ≡ true → exits_within d (code_of (take (i + 1) ss)) ≡ true
goes_on d ss i s h is stay one now f g e t =
    let w : (stay && one) ≡ true = sym e ∙ t in
    ap (λ n. exits_within d (code_of (take n ss))) (add-one i)
    ∙ ap (λ x. exits_within d (code_of x)) (take-suc ss i s h)
    ∙ ap (λ x. exits_within d (code_of (take i ss ++ x ∷ []))) (sym is)
    ∙ more d (take i ss) s (f (first stay one w)) (g (second stay one w))

pub if_stays : (d : ℕ) (p : Place) (t : Term) (a b : Code) → exits_within d a ≡ true → exits_within d b ≡ true → exits_within d (If p t a b End) ≡ true
if_stays d p t a b e f = both (exits_within d a) (exits_within d b && true) e (both (exits_within d b) true f refl)

pub block_stays : (d : ℕ) (p : Place) (b : Code) → exits_within (suc d) b ≡ true → exits_within d (Block p b End) ≡ true
block_stays d p b e = both (exits_within (suc d) b) true e refl

pub loop_stays : (d : ℕ) (p : Place) (n : Option Count) (b : Code) → exits_within d b ≡ true → exits_within d (Loop p n b End) ≡ true
loop_stays d p n b e = both (exits_within d b) true e refl

pub exit_stays : (d n : ℕ) (p : Place) → n < d → exits_within d (Exit p n End) ≡ true
exit_stays d n p h = let lt : nat_lt n d ≡ true = grind arith in both (nat_lt n d) true lt refl
