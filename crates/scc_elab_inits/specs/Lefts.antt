-- What is declared where left sides lead, and the member that they begin with, by what their parts say. This project's own.
use Rattle.std.specs.Prelude.{◌≡◌, ℕ, Bool, true, false, List, [], ◌∷◌, map, Option, Some, None, option_map, option_and_then, slice_get, unwrap_or, if◌then◌else◌}
use Rattle.scc_plain_tree.specs.declared.program.Plain.{Plain}
use Rattle.scc_plain_tree.specs.declared.program.PlainFunction.{PlainFunction}
use Rattle.scc_plain_tree.specs.declared.program.PlainMember.{PlainMember}
use Rattle.scc_plain_tree.specs.declared.program.Base.{Base}
use Rattle.scc_plain_tree.specs.declared.program.Base.TheVariants as held
use Rattle.scc_plain_tree.specs.declared.expr.PlainLeft.{PlainLeft, fold-PlainLeft}
use Rattle.scc_plain_tree.specs.declared.expr.PlainBase.{PlainBase, fold-PlainBase}
use Rattle.scc_plain_tree.specs.declared.expr.PlainPart.{PlainPart, fold-PlainPart}
use Rattle.scc_plain_tree.specs.declared.expr.PlainBase.TheOpen.{PlainBase-F, PlainPart-F, PlainPick-F, PlainExprNode-F, PlainExpr-F, PlainLeft-F}
use Rattle.scc_plain_tree.specs.declared.expr.PlainBase.TheOpen as tree
use Rattle.scc_elab_inits.specs.declared.lefts.Spot.{Spot}

abbrev pub class_in : Option Base → Option ℕ
class_in (Some (held.Class c)) = Some c
class_in (Some (held.Number k)) = None
class_in (Some (held.Input k)) = None
class_in (Some (held.Output k)) = None
class_in (Some (held.Signal k)) = None
class_in (Some held.ModuleName) = None
class_in None = None

abbrev pub member_in : Plain → Option ℕ → ℕ → Option PlainMember
member_in t c n = option_and_then (λ c. option_and_then (λ k. slice_get k.members n) (slice_get t.classes c)) c

-- the declaration that stands there: its base, and whether it is a vector
abbrev pub declared : Option PlainMember → Spot
declared None = record { base = None; vector = false }
declared (Some m) = record { base = Some m.shape.base; vector = m.shape.vector }

-- what no declaration stands for
abbrev pub of_base : Option Base → Spot
of_base b = record { base = b; vector = false }

abbrev pub member : Plain → ℕ → Spot → Spot
member t n s = declared (member_in t (class_in s.base) n)

-- what a part makes of what stands before it, and the member that it is
pub record SeenPart : Type 0 where
  pub step : Spot → Spot
  pub first : Option ℕ

-- parts from left to right
abbrev pub walked : List SeenPart → Spot → Spot
walked [] s = s
walked (f ∷ fs) s = walked fs (f.step s)

abbrev pub first_of : List SeenPart → Option ℕ
first_of [] = None
first_of (f ∷ fs) = f.first

-- what stands at a base, the same by what stands at the pointer that is followed, and whether it is the object at hand
pub record SeenBase : Type 0 where
  pub known : Spot
  pub over : Option Base → Spot
  pub is_this : Bool

-- a location, the same by what stands at the pointer that is followed, and the member of the object at hand that it begins with
pub record SeenLeft : Type 0 where
  pub at : Spot
  pub over : Option Base → Spot
  pub first : Option ℕ

abbrev pub Unseen : Type 0
Unseen = Unit {0}

abbrev pub seen : Spot → SeenBase
seen s = record { known = s; over = λ other. s; is_this = false }

abbrev pub base_node : Plain → PlainFunction → PlainBase-F SeenBase Unseen SeenPart Unseen Unseen SeenLeft → SeenBase
base_node t f (tree.Local n) = seen (declared (slice_get f.locals n))
base_node t f tree.This = record { known = of_base (option_map held.Class f.class); over = λ other. of_base (option_map held.Class f.class); is_this = true }
base_node t f (tree.Answer n) = seen (of_base None)
base_node t f (tree.Follow pointer) = record { known = of_base pointer.at.base; over = λ other. of_base other; is_this = false }

abbrev pub expr_node : PlainExprNode-F SeenBase Unseen SeenPart Unseen Unseen SeenLeft → Unseen
expr_node e = tt

abbrev pub part_node : Plain → PlainPart-F SeenBase Unseen SeenPart Unseen Unseen SeenLeft → SeenPart
part_node t (tree.Member n) = record { step = member t n; first = Some n }
part_node t (tree.Index at) = record { step = λ s. s; first = None }

abbrev pub pick_node : PlainPick-F SeenBase Unseen SeenPart Unseen Unseen SeenLeft → Unseen
pick_node p = tt

abbrev pub expr_step : PlainExpr-F SeenBase Unseen SeenPart Unseen Unseen SeenLeft → Unseen
expr_step e = tt

abbrev pub first_if : Bool → List SeenPart → Option ℕ
first_if true fs = first_of fs
first_if false fs = None

abbrev pub left_step : PlainLeft-F SeenBase Unseen SeenPart Unseen Unseen SeenLeft → SeenLeft
left_step l = record { at = walked l.parts l.base.known; over = λ b. walked l.parts (l.base.over b); first = first_if l.base.is_this l.parts }

abbrev pub left : Plain → PlainFunction → PlainLeft → SeenLeft
left t f = fold-PlainLeft SeenBase Unseen SeenPart Unseen Unseen SeenLeft (base_node t f) expr_node (part_node t) pick_node expr_step left_step

abbrev pub base : Plain → PlainFunction → PlainBase → SeenBase
base t f = fold-PlainBase SeenBase Unseen SeenPart Unseen Unseen SeenLeft (base_node t f) expr_node (part_node t) pick_node expr_step left_step

-- a part by itself: of the function nothing is asked
abbrev pub part : Plain → PlainFunction → PlainPart → SeenPart
part t f = fold-PlainPart SeenBase Unseen SeenPart Unseen Unseen SeenLeft (base_node t f) expr_node (part_node t) pick_node expr_step left_step
