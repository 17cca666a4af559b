-- The terms that a plain program's expressions stand for, its locations, targets and arguments: what the trees say, without their boxes. This project's own.
use Rattle.std.specs.Prelude.{List, [], ◌∷◌, Option, Some, None, option_map, unwrap_or}
use Rattle.scc_base.specs.declared.refusal.Place.{Place}
use Rattle.scc_bits_kinds.specs.declared.kind.Kind.{Kind}
use Rattle.scc_bits_kinds.specs.declared.op.Op.{Op}
use Rattle.scc_plain_tree.specs.declared.expr.PlainExpr.{PlainExpr, fold-PlainExpr}
use Rattle.scc_plain_tree.specs.declared.expr.PlainLeft.{PlainLeft, fold-PlainLeft}
use Rattle.scc_plain_tree.specs.declared.expr.PlainBase.TheOpen.{PlainBase-F, PlainExprNode-F, PlainPart-F, PlainPick-F, PlainExpr-F, PlainLeft-F}
use Rattle.scc_plain_tree.specs.declared.expr.PlainBase.TheOpen as tree
use Rattle.scc_plain_tree.specs.declared.stmt.PlainTarget.{PlainTarget}
use Rattle.scc_plain_tree.specs.declared.stmt.PlainTarget.TheVariants as given
use Rattle.scc_plain_tree.specs.declared.stmt.PlainArg.{PlainArg}
use Rattle.scc_plain_tree.specs.declared.stmt.PlainArg.TheVariants as passed
use Rattle.scc_elab_spec.specs.Term.{Term, Left, Pick, Target, Argument}
use Rattle.scc_elab_spec.specs.Term as term

-- the part of a number that is taken of a value of a kind
pub record Picking : Type 0 where
  pub of : Kind
  pub pick : Pick

-- a location and the part of a number that is taken of it, with the kind of the whole number where only a part is
pub record Taken : Type 0 where
  pub left : Left
  pub pick : Pick
  pub of : Option Kind

-- bits of a term; a bit is of kind `bool`
abbrev pub picked : Place → Kind → Term → Pick → Term
picked p k e term.Whole = e
picked p k e (term.OneBit at) = term.Bit p e at
picked p k e (term.Bits h l) = term.Range p k e h l

abbrev pub pick_of : Option Picking → Pick
pick_of None = term.Whole
pick_of (Some t) = t.pick

-- a concatenation `(a, b, c)` is `((a, b), c)`, each in the kind of the whole; one without parts, which no source has, is 0
abbrev pub joined_behind : Place → Kind → Term → List Term → Term
joined_behind p k high [] = high
joined_behind p k high (t ∷ ts) = joined_behind p k (term.Join p k high t) ts

abbrev pub joined : Place → Kind → List Term → Term
joined p k [] = term.Literal p k 0
joined p k (t ∷ ts) = joined_behind p k t ts

-- an operator with its right operand, or without one
abbrev pub operated : Place → Kind → Op → Term → Option Term → Term
operated p k o a None = term.Unary p k o a
operated p k o a (Some b) = term.Binary p k o a b

-- parts of a location from left to right
abbrev pub extended : Left → List (Left → Left) → Left
extended l [] = l
extended l (f ∷ fs) = extended (f l) fs

-- the layers of a tree over what its parts stand for
abbrev pub Base : Type 0
Base = Place → Left

abbrev pub Node : Type 0
Node = Place → Kind → Term

-- a pointer is followed as a whole
abbrev pub base_node : PlainBase-F Base Node (Left → Left) Picking Term Taken → Base
base_node (tree.Local n) p = term.Local p n
base_node tree.This p = term.This p
base_node (tree.Answer n) p = term.Answer p n
base_node (tree.Follow pointer) p = term.Follow p pointer.left

abbrev pub expr_node : PlainExprNode-F Base Node (Left → Left) Picking Term Taken → Node
expr_node (tree.Lit w) p k = term.Literal p k w.bits
expr_node (tree.Load l) p k = picked p k (term.Load p (unwrap_or l.of k) l.left) l.pick
expr_node (tree.Read l) p k = picked p k (term.Read p (unwrap_or l.of k) l.left) l.pick
expr_node (tree.Convert e) p k = term.Convert p k e
expr_node (tree.Operate o a b) p k = operated p k o a b
expr_node (tree.Choose t a b) p k = term.Choose p k t a b
expr_node (tree.Pick e t) p k = picked p k e t.pick
expr_node (tree.Join parts) p k = joined p k parts

abbrev pub part_node : PlainPart-F Base Node (Left → Left) Picking Term Taken → Left → Left
part_node (tree.Member n) l = term.Member l n
part_node (tree.Index at) l = term.Index l at

abbrev pub pick_node : PlainPick-F Base Node (Left → Left) Picking Term Taken → Picking
pick_node (tree.Bit of at) = record { of = of; pick = term.OneBit at }
pick_node (tree.Range of h l) = record { of = of; pick = term.Bits h l }

abbrev pub expr_step : PlainExpr-F Base Node (Left → Left) Picking Term Taken → Term
expr_step e = e.node e.place e.kind

abbrev pub left_step : PlainLeft-F Base Node (Left → Left) Picking Term Taken → Taken
left_step l = record { left = extended (l.base l.place) l.parts; pick = pick_of l.pick; of = option_map (λ t. t.of) l.pick }

-- the term of an expression; what is loaded of a location with a pick are bits of what stands there
abbrev pub term_of : PlainExpr → Term
term_of = fold-PlainExpr Base Node (Left → Left) Picking Term Taken base_node expr_node part_node pick_node expr_step left_step

abbrev pub taken_of : PlainLeft → Taken
taken_of = fold-PlainLeft Base Node (Left → Left) Picking Term Taken base_node expr_node part_node pick_node expr_step left_step

-- the location as a whole: what is called, pointed to, bound and written has no pick
abbrev pub left_of : PlainLeft → Left
left_of l = (taken_of l).left

-- what a pointer or reference is given
abbrev pub target_of : PlainTarget → Target
target_of given.Null = term.Null
target_of (given.Address l) = term.Address (left_of l)
target_of (given.Copy l) = term.Copy (left_of l)

abbrev pub argument_of : PlainArg → Argument
argument_of (passed.Value e) = term.Value (term_of e)
argument_of (passed.Target t) = term.Leads (target_of t)
argument_of passed.ModuleName = term.ModuleName
