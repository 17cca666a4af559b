-- The code of statements behind others.
use Rattle.std.proofs.Common.{◌≡◌, List, [], ◌∷◌, ◌++◌, map, refl, sym, ap, ◌∙◌}
use denote.Hole.Carrier.{roll}
use Rattle.scc_svtree.specs.declared.expr.SvExpr.{SvExpr}
use Rattle.scc_svtree.specs.declared.expr.SvLeft.{SvLeft}
use Rattle.scc_svtree.specs.declared.stmt.SvStmt.{SvStmt, roll-SvStmt, fold-roll-SvStmt}
use Rattle.scc_svtree.specs.declared.stmt.SvStmt.TheOpen as stmt
use Rattle.scc_svtree.specs.declared.stmt.SvStmt.TheVariants as variant
use Rattle.scc_svtree.specs.Code.{Code, End, Assign, If, Case, Arms, before, stmt_code, code_of}
use Rattle.scc_svtree.specs.Code as code
use Rattle.scc_svtree.specs.Term.{term_of}
use Rattle.scc_svtree.proofs.Induction.{by_stmt}
use Rattle.scc_lower_laws.specs.Sequence.{then_code}
use Rattle.scc_lower_tree_laws.proofs.Leaving.{then-then}

-- what a statement puts before what follows
abbrev Alone : SvStmt → Type 0
Alone s = (rest : Code) → stmt_code s rest ≡ then_code (stmt_code s End) rest

moved : (s : SvStmt) (f : Code → Code) → stmt_code s ≡ f → ((rest : Code) → f rest ≡ then_code (f End) rest) → Alone s
moved s f e h rest = ap (λ g. g rest) e ∙ h rest ∙ sym (ap (λ g. then_code (g End) rest) e)

alone : (s : SvStmt) → Alone s
alone = by_stmt Alone (λ a. Unit {0})
    (λ l e. moved (roll-SvStmt (stmt.Assign l e)) _ (fold-roll-SvStmt (Code → Code) (Arms → Arms) code.stmt_node code.arm_node (stmt.Assign l e)) (λ rest. refl))
    (λ c a b h k. moved (roll-SvStmt (stmt.If c a b)) _ (fold-roll-SvStmt (Code → Code) (Arms → Arms) code.stmt_node code.arm_node (stmt.If c a b)) (λ rest. refl))
    (λ e arms h. moved (roll-SvStmt (stmt.Case e arms)) _ (fold-roll-SvStmt (Code → Code) (Arms → Arms) code.stmt_node code.arm_node (stmt.Case e arms)) (λ rest. refl))
    (λ label body h. tt)

before-code : (ss : List SvStmt) (rest : Code) → before (map stmt_code ss) rest ≡ then_code (code_of ss) rest
before-code [] rest = refl
before-code (s ∷ ss) rest =
    alone s (before (map stmt_code ss) rest)
    ∙ ap (then_code (stmt_code s End)) (before-code ss rest)
    ∙ sym (then-then (stmt_code s End) (code_of ss) rest)
    ∙ sym (ap (λ c. then_code c rest) (alone s (code_of ss)))

before-more : (ss ts : List SvStmt) (rest : Code) → before (map stmt_code (ss ++ ts)) rest ≡ before (map stmt_code ss) (before (map stmt_code ts) rest)
before-more [] ts rest = refl
before-more (s ∷ ss) ts rest = ap (stmt_code s) (before-more ss ts rest)

-- the code of two lists
pub code-append : (ss ts : List SvStmt) → code_of (ss ++ ts) ≡ then_code (code_of ss) (code_of ts)
code-append ss ts = before-more ss ts End ∙ before-code ss (code_of ts)

pub code-assign : (l : SvLeft) (e : SvExpr) → code_of (variant.Assign l e ∷ []) ≡ Assign l (term_of e) End
unfolding roll-SvStmt roll
code-assign l e =
    ap (λ s. stmt_code s End) (variant.rolls-Assign l e)
    ∙ ap (λ f. f End) (fold-roll-SvStmt (Code → Code) (Arms → Arms) code.stmt_node code.arm_node (stmt.Assign l e))

pub code-if : (c : SvExpr) (a b : List SvStmt) → code_of (variant.If c a b ∷ []) ≡ If (term_of c) (code_of a) (code_of b) End
unfolding roll-SvStmt roll
code-if c a b =
    ap (λ s. stmt_code s End) (variant.rolls-If c a b)
    ∙ ap (λ f. f End) (fold-roll-SvStmt (Code → Code) (Arms → Arms) code.stmt_node code.arm_node (stmt.If c a b))
