-- The terms that a core's expressions stand for, and the locations: what the trees say, without their boxes. This project's own.
use Rattle.std.specs.Prelude.{ℕ, List, [], ◌∷◌, map, Option, Some, None, option_map, unwrap_or}
use Rattle.scc_base.specs.declared.refusal.Place.{Place}
use Rattle.scc_base.specs.declared.names.Name.{Name}
use Rattle.scc_base.specs.declared.path.PathPart.{PathPart}
use Rattle.scc_base.specs.declared.path.PathPart.TheVariants as path_part
use Rattle.scc_bits_kinds.specs.declared.kind.Kind.{Kind}
use Rattle.scc_bits_kinds.specs.declared.op.Op.{Op}
use Rattle.scc_core.specs.declared.expr.CoreExpr.{CoreExpr, fold-CoreExpr}
use Rattle.scc_core.specs.declared.expr.CoreLeft.{CoreLeft, fold-CoreLeft}
use Rattle.scc_core.specs.declared.expr.CoreBase.TheOpen.{CoreBase-F, CoreExprNode-F, CorePart-F, CorePick-F, CoreExpr-F, CoreLeft-F}
use Rattle.scc_core.specs.declared.expr.CoreBase.TheOpen as tree
use Rattle.scc_core.specs.declared.program.CellName.{CellName as Named}
use Rattle.scc_semantics.specs.Location.{Part}
use Rattle.scc_semantics.specs.Location as location
use Rattle.scc_core_spec.specs.Term.{Term, Left, Pick, CellName, Own}
use Rattle.scc_core_spec.specs.Term as term

abbrev pub part_of : PathPart → Part
part_of (path_part.Member n) = location.Member n.0
part_of (path_part.Index i) = location.Element i

abbrev pub own_of : Option (ℕ × Name) → Option Own
own_of None = None
own_of (Some l) = Some (record { number = l.0; identifier = l.1.0 })

-- the name of a cell, or a front part of one
abbrev pub name_of : Named → CellName
name_of n = record { path = map part_of n.path; own = own_of n.local; indices = n.indices }

-- the part of a number that is taken of a value of a kind
pub record Picking : Type 0 where
  pub of : Kind
  pub pick : Pick

-- a location and the part of a number that is taken of it, with the kind of the whole number where only a part is
pub record Taken : Type 0 where
  pub left : Left
  pub pick : Pick
  pub of : Option Kind

-- bits of a term
abbrev pub picked : Place → Kind → Term → Pick → Term
picked p k e term.Whole = e
picked p k e (term.OneBit at) = term.Bit p e at
picked p k e (term.Bits h l) = term.Range p k e h l

abbrev pub pick_of : Option Picking → Pick
pick_of None = term.Whole
pick_of (Some t) = t.pick

-- a concatenation `(a, b, c)` is `((a, b), c)`
abbrev pub joined_behind : Place → Kind → Term → List Term → Term
joined_behind p k high [] = high
joined_behind p k high (t ∷ ts) = joined_behind p k (term.Join p k high t) ts

abbrev pub joined : Place → Kind → List Term → Term
joined p k [] = term.Literal p k 0
joined p k (t ∷ ts) = joined_behind p k t ts

-- an operator with its right operand, or without one
abbrev pub operated : Place → Kind → Op → Term → Option Term → Term
operated p k o a None = term.Unary p k o a
operated p k o a (Some b) = term.Binary p k o a b

-- parts of a location from left to right
abbrev pub extended : Left → List (Left → Left) → Left
extended l [] = l
extended l (f ∷ fs) = extended (f l) fs

-- the layers of a tree over what its parts stand for
abbrev pub Base : Type 0
Base = Place → Left

abbrev pub Node : Type 0
Node = Place → Kind → Term

abbrev pub base_node : CoreBase-F Base Node (Left → Left) Picking Term Taken → Base
base_node (tree.Cell n) p = term.Cell p n
base_node (tree.Prefix name) p = term.Prefix p (name_of name)
base_node (tree.Follow pointer soft) p = term.Follow p soft pointer.left
base_node tree.Null p = term.Null p

abbrev pub expr_node : CoreExprNode-F Base Node (Left → Left) Picking Term Taken → Node
expr_node (tree.Lit w) p k = term.Literal p k w.bits
expr_node (tree.Load l) p k = picked p k (term.Load p (unwrap_or l.of k) l.left) l.pick
expr_node (tree.Read l) p k = picked p k (term.Read p (unwrap_or l.of k) l.left) l.pick
expr_node (tree.Convert e) p k = term.Convert p k e
expr_node (tree.Operate o a b) p k = operated p k o a b
expr_node (tree.Choose t a b) p k = term.Choose p k t a b
expr_node (tree.Pick e t) p k = picked p k e t.pick
expr_node (tree.Join parts) p k = joined p k parts

abbrev pub part_node : CorePart-F Base Node (Left → Left) Picking Term Taken → Left → Left
part_node (tree.Member n) l = term.Member l n.0
part_node (tree.Index size at) l = term.Index l size at

abbrev pub pick_node : CorePick-F Base Node (Left → Left) Picking Term Taken → Picking
pick_node (tree.Bit of at) = record { of = of; pick = term.OneBit at }
pick_node (tree.Range of h l) = record { of = of; pick = term.Bits h l }

abbrev pub expr_step : CoreExpr-F Base Node (Left → Left) Picking Term Taken → Term
expr_step e = e.node e.place e.kind

abbrev pub left_step : CoreLeft-F Base Node (Left → Left) Picking Term Taken → Taken
left_step l = record { left = extended (l.base l.place) l.parts; pick = pick_of l.pick; of = option_map (λ t. t.of) l.pick }

-- the term of an expression; what is read of a location with a pick are bits of what stands there
abbrev pub term_of : CoreExpr → Term
term_of = fold-CoreExpr Base Node (Left → Left) Picking Term Taken base_node expr_node part_node pick_node expr_step left_step

abbrev pub taken_of : CoreLeft → Taken
taken_of = fold-CoreLeft Base Node (Left → Left) Picking Term Taken base_node expr_node part_node pick_node expr_step left_step
