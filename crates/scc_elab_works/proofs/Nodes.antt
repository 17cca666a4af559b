-- The code of a statement by its node, before others.
use Rattle.std.proofs.Common.{◌≡◌, refl, sym, ap, ◌∙◌, ℕ, Bool, List, map, Option, option_map}
use Rattle.scc_plain_tree.specs.declared.expr.PlainExpr.{PlainExpr}
use Rattle.scc_plain_tree.specs.declared.expr.PlainLeft.{PlainLeft}
use Rattle.scc_plain_tree.specs.declared.program.Base.{Base}
use Rattle.scc_plain_tree.specs.declared.stmt.PlainArg.{PlainArg}
use Rattle.scc_plain_tree.specs.declared.stmt.PlainCount.{PlainCount}
use Rattle.scc_plain_tree.specs.declared.stmt.PlainSense.{PlainSense}
use Rattle.scc_plain_tree.specs.declared.stmt.PlainStmt.{PlainStmt, fold-roll-PlainStmt}
use Rattle.scc_plain_tree.specs.declared.stmt.PlainNode.{PlainNode, fold-PlainNode, fold-roll-PlainNode}
use Rattle.scc_plain_tree.specs.declared.stmt.PlainNode.TheVariants as node
use Rattle.scc_plain_tree.specs.declared.stmt.PlainNode.TheOpen as tree
use Rattle.scc_elab_spec.specs.Program.{Code, If, Loop, Block, Exit, Make, Process, Reset}
use Rattle.scc_plain_view.specs.Codes.{Node, stmt_node, stmt_step, stmt_code, code_of, sense_of, base_of, count_of}
use Rattle.scc_plain_view.specs.Terms.{left_of, term_of, argument_of}

abbrev by_node : PlainNode → Node
by_node = fold-PlainNode Node (Code → Code) stmt_node stmt_step

stands : (s : PlainStmt) (n m : PlainNode) (c : Code) → s.node ≡ n → n ≡ m → stmt_code s c ≡ by_node m s.place c
stands s n m c is rolls =
    ap (λ f. f c) (fold-roll-PlainStmt Node (Code → Code) stmt_node stmt_step (record { place = s.place; node = s.node })) ∙ ap (λ x. by_node x s.place c) (is ∙ rolls)

pub process_is : (s : PlainStmt) (t : Bool) (f : ℕ) (e : Option PlainSense) (c : Code) → s.node ≡ node.Process t f e → stmt_code s c ≡ Process s.place t f (option_map sense_of e) c
process_is s t f e c is = stands s _ _ c is (sym (node.rolls-Process t f e)) ∙ ap (λ n. n s.place c) (fold-roll-PlainNode Node (Code → Code) stmt_node stmt_step (tree.Process t f e))

pub reset_is : (s : PlainStmt) (l : Option PlainLeft) (e : PlainExpr) (a : Bool) (c : Code) → s.node ≡ node.Reset l e a → stmt_code s c ≡ Reset s.place (option_map left_of l) (term_of e) a c
reset_is s l e a c is = stands s _ _ c is (sym (node.rolls-Reset l e a)) ∙ ap (λ n. n s.place c) (fold-roll-PlainNode Node (Code → Code) stmt_node stmt_step (tree.Reset l e a))

pub if_is : (s : PlainStmt) (t : PlainExpr) (a b : List PlainStmt) (c : Code) → s.node ≡ node.If t a b → stmt_code s c ≡ If s.place (term_of t) (code_of a) (code_of b) c
if_is s t a b c is = stands s _ _ c is (sym (node.rolls-If t a b)) ∙ ap (λ n. n s.place c) (fold-roll-PlainNode Node (Code → Code) stmt_node stmt_step (tree.If t a b))

pub loop_is : (s : PlainStmt) (n : Option PlainCount) (b : List PlainStmt) (c : Code) → s.node ≡ node.Loop n b → stmt_code s c ≡ Loop s.place (option_map count_of n) (code_of b) c
loop_is s n b c is = stands s _ _ c is (sym (node.rolls-Loop n b)) ∙ ap (λ n. n s.place c) (fold-roll-PlainNode Node (Code → Code) stmt_node stmt_step (tree.Loop n b))

pub block_is : (s : PlainStmt) (b : List PlainStmt) (c : Code) → s.node ≡ node.Block b → stmt_code s c ≡ Block s.place (code_of b) c
block_is s b c is = stands s _ _ c is (sym (node.rolls-Block b)) ∙ ap (λ n. n s.place c) (fold-roll-PlainNode Node (Code → Code) stmt_node stmt_step (tree.Block b))

pub exit_is : (s : PlainStmt) (n : ℕ) (c : Code) → s.node ≡ node.Exit n → stmt_code s c ≡ Exit s.place n c
exit_is s n c is = stands s _ _ c is (sym (node.rolls-Exit n)) ∙ ap (λ n. n s.place c) (fold-roll-PlainNode Node (Code → Code) stmt_node stmt_step (tree.Exit n))

pub make_is : (s : PlainStmt) (l : PlainLeft) (b : Base) (args : List PlainArg) (c : Code) → s.node ≡ node.Make l b args → stmt_code s c ≡ Make s.place (left_of l) (base_of b) (map argument_of args) c
make_is s l b args c is = stands s _ _ c is (sym (node.rolls-Make l b args)) ∙ ap (λ n. n s.place c) (fold-roll-PlainNode Node (Code → Code) stmt_node stmt_step (tree.Make l b args))
