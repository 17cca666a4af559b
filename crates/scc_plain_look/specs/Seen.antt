-- What is seen of expressions and locations: their numbers where they are constants, what stands there, and whether they are whole. This project's own.
use Rattle.std.specs.Prelude.{Bool, true, false, not, ◌&&◌, ◌||◌, nat_le, nat_lt, List, [], ◌∷◌, Option, Some, None, option_and_then, if◌then◌else◌}
use Rattle.scc_bits_kinds.specs.declared.kind.Kind.{Kind}
use Rattle.scc_bits_kinds.specs.declared.op.Op.{Op}
use Rattle.scc_bits_kinds.specs.Kinds.{width_of}
use Rattle.scc_bits.specs.Value.{Number}
use Rattle.scc_plain_tree.specs.declared.expr.PlainBase.TheOpen.{PlainBase-F, PlainExprNode-F, PlainPart-F, PlainPick-F, PlainExpr-F, PlainLeft-F}
use Rattle.scc_plain_tree.specs.declared.expr.PlainBase.TheOpen as node
use Rattle.scc_plain_tree.specs.declared.expr.PlainExpr.{PlainExpr, fold-PlainExpr}
use Rattle.scc_plain_tree.specs.declared.expr.PlainLeft.{PlainLeft, fold-PlainLeft}
use Rattle.scc_plain_tree.specs.declared.expr.PlainPart.{PlainPart, fold-PlainPart}
use Rattle.scc_plain_tree.specs.declared.expr.PlainPick.{PlainPick, fold-PlainPick}
use Rattle.scc_plain_tree.specs.declared.expr.PlainBase.{PlainBase, fold-PlainBase}
use Rattle.scc_plain_tree.specs.declared.program.Base.{Base}
use Rattle.scc_plain_tree.specs.declared.program.Base.TheVariants as base
use Rattle.scc_plain_look.specs.declared.held.Held.{Held}
use Rattle.scc_plain_look.specs.Held.{Around, is_single, is_number, is_port, followed, element, member, local, this, answer}
use Rattle.scc_plain_look.specs.Constant.{is_kind, is_word, is_division, is_nonzero, kept, answered, chosen, concatenated}

pub record Seen : Type 0 where
  pub kind : Kind
  -- the number, where it is a constant
  pub known : Option Number
  -- the number, by that of the operand that stands first
  pub over : Option Number → Option Number
  pub whole : Around → Bool

pub record SeenPick : Type 0 where
  pub within : Kind → Bool
  pub whole : Around → Bool

pub record SeenPart : Type 0 where
  pub step : Around → Held → Option Held
  pub whole : Around → Bool

pub record SeenBase : Type 0 where
  pub held : Around → Option Held
  pub whole : Around → Bool

pub record SeenLeft : Type 0 where
  -- what stands behind the parts of what stands at the base
  pub behind : Around → Option Held → Option Held
  pub held : Around → Option Held
  pub whole : Around → Bool

abbrev pub each_whole : List Seen → Around → Bool
each_whole [] a = true
each_whole (e ∷ es) a = e.whole a && each_whole es a

abbrev pub parts_whole : List SeenPart → Around → Bool
parts_whole [] a = true
parts_whole (p ∷ ps) a = p.whole a && parts_whole ps a

abbrev pub pick_whole : Option SeenPick → Around → Bool
pick_whole None a = true
pick_whole (Some p) a = p.whole a

abbrev pub known_of_each : List Seen → List (Option Number)
known_of_each [] = []
known_of_each (e ∷ es) = e.known ∷ known_of_each es

-- the kind of a number
abbrev pub within_base : (Kind → Bool) → Base → Bool
within_base within (base.Number k) = within k
within_base within (base.Class c) = false
within_base within (base.Input k) = false
within_base within (base.Output k) = false
within_base within (base.Signal k) = false
within_base within base.ModuleName = false

abbrev pub steps : Around → List SeenPart → Option Held → Option Held
steps a [] h = h
steps a (p ∷ ps) h = steps a ps (option_and_then (p.step a) h)

-- a pick is of a number, and in it
abbrev pub picked : Option SeenPick → Option Held → Option Held
picked None h = h
picked (Some p) None = None
picked (Some p) (Some h) = if is_single h && within_base p.within h.base then Some h else None

-- ---- locations

abbrev pub seen_base : PlainBase-F SeenBase (Kind → Seen) SeenPart SeenPick Seen SeenLeft → SeenBase
seen_base (node.Local n) = record { held = λ a. local a.function n; whole = λ a. true }
seen_base node.This = record { held = λ a. this a.function; whole = λ a. true }
seen_base (node.Answer n) = record { held = λ a. answer a.plain a.calls n; whole = λ a. true }
seen_base (node.Follow l) = record { held = λ a. option_and_then followed (l.held a); whole = l.whole }

abbrev pub seen_part : PlainPart-F SeenBase (Kind → Seen) SeenPart SeenPick Seen SeenLeft → SeenPart
seen_part (node.Member n) = record { step = λ a. member a.plain n; whole = λ a. true }
seen_part (node.Index e) = record { step = λ a. element; whole = e.whole }

abbrev pub seen_pick : PlainPick-F SeenBase (Kind → Seen) SeenPart SeenPick Seen SeenLeft → SeenPick
seen_pick (node.Bit of e) = record { within = λ k. true; whole = e.whole }
seen_pick (node.Range of h l) = record { within = λ k. nat_le l h && nat_lt h (width_of k); whole = λ a. true }

abbrev pub seen_left : PlainLeft-F SeenBase (Kind → Seen) SeenPart SeenPick Seen SeenLeft → SeenLeft
seen_left l = record {
  behind = λ a h. picked l.pick (steps a l.parts h);
  held = λ a. picked l.pick (steps a l.parts (l.base.held a));
  whole = λ a. parts_whole l.parts a && (pick_whole l.pick a && l.base.whole a);
}

-- ---- expressions

-- a location that holds what is wanted
abbrev pub holds : (Held → Bool) → Option Held → Bool
holds wanted None = false
holds wanted (Some h) = wanted h

abbrev pub operand_whole : Op → Option Seen → Around → Bool
operand_whole o None a = true
operand_whole o (Some b) a = b.whole a && (not (is_division o) || is_nonzero b.known)

abbrev pub operand_known : Op → Option Seen → Option Number → Option Number
operand_known o None v = answered o v v
operand_known o (Some b) v = answered o v b.known

abbrev pub nothing : Option Number → Option Number
nothing v = None

abbrev pub seen_node : PlainExprNode-F SeenBase (Kind → Seen) SeenPart SeenPick Seen SeenLeft → Kind → Seen
seen_node (node.Lit w) k = record { kind = k; known = Some (record { kind = k; word = w.bits }); over = nothing; whole = λ a. is_word k w.bits }
seen_node (node.Load l) k = record { kind = k; known = None; over = nothing; whole = λ a. l.whole a && holds is_number (l.held a) }
seen_node (node.Read l) k = record { kind = k; known = None; over = nothing; whole = λ a. l.whole a && holds is_port (l.held a) }
seen_node (node.Convert e) k = record { kind = k; known = kept k e.known; over = kept k; whole = e.whole }
seen_node (node.Operate o x y) k = record { kind = k; known = operand_known o y x.known; over = operand_known o y; whole = λ a. operand_whole o y a && x.whole a }
seen_node (node.Choose t x y) k = record { kind = k; known = chosen k t.known x.known y.known; over = λ v. chosen k v x.known y.known; whole = λ a. x.whole a && (y.whole a && t.whole a) }
seen_node (node.Pick e p) k = record { kind = k; known = None; over = nothing; whole = λ a. p.within e.kind && (p.whole a && e.whole a) }
seen_node (node.Join es) k = record { kind = k; known = concatenated (known_of_each es); over = nothing; whole = each_whole es }

abbrev pub seen_expr : PlainExpr-F SeenBase (Kind → Seen) SeenPart SeenPick Seen SeenLeft → Seen
seen_expr e = record {
  kind = e.kind;
  known = (e.node e.kind).known;
  over = (e.node e.kind).over;
  whole = λ a. is_kind e.kind && (e.node e.kind).whole a;
}

abbrev pub expr : PlainExpr → Seen
expr = fold-PlainExpr SeenBase (Kind → Seen) SeenPart SeenPick Seen SeenLeft seen_base seen_node seen_part seen_pick seen_expr seen_left

abbrev pub left : PlainLeft → SeenLeft
left = fold-PlainLeft SeenBase (Kind → Seen) SeenPart SeenPick Seen SeenLeft seen_base seen_node seen_part seen_pick seen_expr seen_left

abbrev pub part : PlainPart → SeenPart
part = fold-PlainPart SeenBase (Kind → Seen) SeenPart SeenPick Seen SeenLeft seen_base seen_node seen_part seen_pick seen_expr seen_left

abbrev pub pick : PlainPick → SeenPick
pick = fold-PlainPick SeenBase (Kind → Seen) SeenPart SeenPick Seen SeenLeft seen_base seen_node seen_part seen_pick seen_expr seen_left

abbrev pub base_of : PlainBase → SeenBase
base_of = fold-PlainBase SeenBase (Kind → Seen) SeenPart SeenPick Seen SeenLeft seen_base seen_node seen_part seen_pick seen_expr seen_left
