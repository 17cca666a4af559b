-- The function `int pick(int k) { return k; }`, and bit 3 of a variable, from their trees. This project's own.
use Rattle.std.proofs.Common.{◌≡◌, ap, ◌∙◌, [], ◌∷◌, Some, None, unwrap_or}
use Rattle.scc_plain_tree.specs.declared.expr.PlainExpr.{fold-roll-PlainExpr}
use Rattle.scc_plain_tree.specs.declared.expr.PlainExprNode.{roll-PlainExprNode, fold-roll-PlainExprNode}
use Rattle.scc_plain_tree.specs.declared.expr.PlainLeft.{fold-roll-PlainLeft}
use Rattle.scc_plain_tree.specs.declared.expr.PlainBase.{roll-PlainBase, fold-roll-PlainBase}
use Rattle.scc_plain_tree.specs.declared.expr.PlainPick.{PlainPick, fold-PlainPick, fold-roll-PlainPick}
use Rattle.scc_plain_tree.specs.declared.expr.PlainBase.TheOpen as tree
use Rattle.scc_bits_kinds.specs.declared.kind.Kind.TheVariants as kind
use Rattle.scc_plain_tree.specs.declared.stmt.PlainStmt.{fold-roll-PlainStmt}
use Rattle.scc_plain_tree.specs.declared.stmt.PlainNode.{roll-PlainNode, fold-roll-PlainNode}
use Rattle.scc_plain_tree.specs.declared.stmt.PlainNode.TheOpen as node
use Rattle.scc_elab_spec.specs.Term.{Term, Left, Load, Bit, Local, Whole, OneBit}
use Rattle.scc_elab_spec.specs.Program.{Code, End, Return, Plain}
use Rattle.scc_elab_spec.specs.Worked.{here, int, number}
use Rattle.scc_elab_spec.specs.Worked as worked
use Rattle.scc_plain_view.specs.Terms.{Base, Node, Picking, Taken, picked, extended, base_node, expr_node, part_node, pick_node, expr_step, left_step, term_of, taken_of}
use Rattle.scc_plain_view.specs.Codes as codes
use Rattle.scc_plain_view.specs.Codes.{code_of}
use Rattle.scc_plain_view.specs.Plains.{plain_of}
use Rattle.scc_plain_view.specs.WorkedTrees.{parameter, loaded, pick, alone, byte, number_three, picked_three, bit_location, bit_three}

abbrev term_pick : PlainPick → Picking
term_pick = fold-PlainPick Base Node (Left → Left) Picking Term Taken base_node expr_node part_node pick_node expr_step left_step

parameter_is : taken_of parameter ≡ record { left = Local here 0; pick = Whole; of = None }
parameter_is =
    fold-roll-PlainLeft Base Node (Left → Left) Picking Term Taken base_node expr_node part_node pick_node expr_step left_step
    (record { place = here; base = roll-PlainBase (tree.Local 0); parts = []; pick = None })
    ∙ ap (λ b. record { left = extended (b here) []; pick = Whole; of = None })
    (fold-roll-PlainBase Base Node (Left → Left) Picking Term Taken base_node expr_node part_node pick_node expr_step left_step (tree.Local 0))

loaded_is : term_of loaded ≡ Load here int (Local here 0)
loaded_is =
    fold-roll-PlainExpr Base Node (Left → Left) Picking Term Taken base_node expr_node part_node pick_node expr_step left_step
    (record { place = here; kind = int; node = roll-PlainExprNode (tree.Load parameter) })
    ∙ ap (λ n. n here int)
    (fold-roll-PlainExprNode Base Node (Left → Left) Picking Term Taken base_node expr_node part_node pick_node expr_step left_step (tree.Load parameter))
    ∙ ap (λ l. picked here int (Load here (unwrap_or l.of int) l.left) l.pick) parameter_is

body_is : code_of pick.body ≡ Return here (Some (Load here int (Local here 0))) End
body_is =
    ap (λ f. f End)
    (fold-roll-PlainStmt codes.Node (Code → Code) codes.stmt_node codes.stmt_step (record { place = here; node = roll-PlainNode (node.Return (Some loaded)) }))
    ∙ ap (λ n. n here End) (fold-roll-PlainNode codes.Node (Code → Code) codes.stmt_node codes.stmt_step (node.Return (Some loaded)))
    ∙ ap (λ e. Return here (Some e) End) loaded_is

abbrev with_body : Code → Plain
with_body c = record { classes = []; functions = record worked.pick { body = c } ∷ []; top = 0 }

pub program_is : plain_of alone ≡ record { classes = []; functions = worked.pick ∷ []; top = 0 }
program_is = ap with_body body_is

-- ---- a bit

number_is : term_of number_three ≡ number 3
number_is =
    fold-roll-PlainExpr Base Node (Left → Left) Picking Term Taken base_node expr_node part_node pick_node expr_step left_step
    (record { place = here; kind = int; node = roll-PlainExprNode (tree.Lit (record { bits = 3 })) })
    ∙ ap (λ n. n here int)
    (fold-roll-PlainExprNode Base Node (Left → Left) Picking Term Taken base_node expr_node part_node pick_node expr_step left_step (tree.Lit (record { bits = 3 })))

picking_is : term_pick picked_three ≡ record { of = byte; pick = OneBit (number 3) }
picking_is =
    fold-roll-PlainPick Base Node (Left → Left) Picking Term Taken base_node expr_node part_node pick_node expr_step left_step (tree.Bit byte number_three)
    ∙ ap (λ t. record { of = byte; pick = OneBit t }) number_is

bits_are : taken_of bit_location ≡ record { left = Local here 0; pick = OneBit (number 3); of = Some byte }
bits_are =
    fold-roll-PlainLeft Base Node (Left → Left) Picking Term Taken base_node expr_node part_node pick_node expr_step left_step
    (record { place = here; base = roll-PlainBase (tree.Local 0); parts = []; pick = Some picked_three })
    ∙ ap (λ b. record { left = extended (b here) []; pick = (term_pick picked_three).pick; of = Some (term_pick picked_three).of })
    (fold-roll-PlainBase Base Node (Left → Left) Picking Term Taken base_node expr_node part_node pick_node expr_step left_step (tree.Local 0))
    ∙ ap (λ t. record { left = Local here 0; pick = t.pick; of = Some t.of }) picking_is

pub bit_is : term_of bit_three ≡ Bit here (Load here byte (Local here 0)) (number 3)
bit_is =
    fold-roll-PlainExpr Base Node (Left → Left) Picking Term Taken base_node expr_node part_node pick_node expr_step left_step
    (record { place = here; kind = kind.Bool; node = roll-PlainExprNode (tree.Load bit_location) })
    ∙ ap (λ n. n here kind.Bool)
    (fold-roll-PlainExprNode Base Node (Left → Left) Picking Term Taken base_node expr_node part_node pick_node expr_step left_step (tree.Load bit_location))
    ∙ ap (λ l. picked here kind.Bool (Load here (unwrap_or l.of kind.Bool) l.left) l.pick) bits_are
