-- What stands at locations, and the last member that they name, by what their parts say. This project's own.
use Rattle.std.specs.Prelude.{◌≡◌, ℕ, Bool, List, [], ◌∷◌, map, Option, Some, None, option_map, option_and_then, slice_get}
use Rattle.scc_plain_tree.specs.declared.program.Plain.{Plain}
use Rattle.scc_plain_tree.specs.declared.program.PlainFunction.{PlainFunction}
use Rattle.scc_plain_tree.specs.declared.program.PlainMember.{PlainMember}
use Rattle.scc_plain_tree.specs.declared.program.Base.{Base}
use Rattle.scc_plain_tree.specs.declared.program.Base.TheVariants as held
use Rattle.scc_plain_tree.specs.declared.expr.PlainLeft.{PlainLeft, fold-PlainLeft}
use Rattle.scc_plain_tree.specs.declared.expr.PlainBase.{PlainBase, fold-PlainBase}
use Rattle.scc_plain_tree.specs.declared.expr.PlainPart.{PlainPart, fold-PlainPart}
use Rattle.scc_plain_tree.specs.declared.expr.PlainBase.TheOpen.{PlainBase-F, PlainExprNode-F, PlainPart-F, PlainPick-F, PlainExpr-F, PlainLeft-F}
use Rattle.scc_plain_tree.specs.declared.expr.PlainBase.TheOpen as tree
use Rattle.scc_elab_spec.specs.Types.{Place}
use Rattle.scc_inline_cells.specs.declared.locations.MemberOf.{MemberOf}
use Rattle.scc_inline_cells.specs.declared.locations.Spot.{Spot}

abbrev pub place_of : MemberOf → Place
place_of m = record { class = m.class; member = m.member }

abbrev pub places : Option MemberOf → List Place
places None = []
places (Some m) = place_of m ∷ []

abbrev pub begun : Option Base → Spot
begun b = record { base = b; last = None }

abbrev pub class_in : Option Base → Option ℕ
class_in (Some (held.Class c)) = Some c
class_in (Some (held.Number k)) = None
class_in (Some (held.Input k)) = None
class_in (Some (held.Output k)) = None
class_in (Some (held.Signal k)) = None
class_in (Some held.ModuleName) = None
class_in None = None

abbrev pub member_in : Plain → Option ℕ → ℕ → Option PlainMember
member_in t c n = option_and_then (λ c. option_and_then (λ k. slice_get k.members n) (slice_get t.classes c)) c

abbrev pub named : Option ℕ → ℕ → Option MemberOf
named c n = option_map (λ c. record { class = c; member = n }) c

abbrev pub base_of : Option PlainMember → Option Base
base_of m = option_map (λ m. m.shape.base) m

abbrev pub member : Plain → ℕ → Spot → Spot
member t n s = record { base = base_of (member_in t (class_in s.base) n); last = named (class_in s.base) n }

-- parts from left to right
abbrev pub walked : List (Spot → Spot) → Spot → Spot
walked [] s = s
walked (f ∷ fs) s = walked fs (f s)

-- what stands at a base, and the same by what stands at the pointer that is followed
pub record SeenBase : Type 0 where
  pub known : Option Base
  pub over : Option Base → Option Base

-- a location, and the same by what stands at the pointer that is followed
pub record SeenLeft : Type 0 where
  pub at : Spot
  pub over : Option Base → Spot

abbrev pub SeenPart : Type 0
SeenPart = Spot → Spot

abbrev pub Unseen : Type 0
Unseen = Unit {0}

abbrev pub seen : Option Base → SeenBase
seen b = record { known = b; over = λ other. b }

abbrev pub base_node : Plain → PlainFunction → PlainBase-F SeenBase Unseen SeenPart Unseen Unseen SeenLeft → SeenBase
base_node t f (tree.Local n) = seen (base_of (slice_get f.locals n))
base_node t f tree.This = seen (option_map held.Class f.class)
base_node t f (tree.Answer n) = seen None
base_node t f (tree.Follow pointer) = record { known = pointer.at.base; over = λ other. other }

abbrev pub expr_node : PlainExprNode-F SeenBase Unseen SeenPart Unseen Unseen SeenLeft → Unseen
expr_node e = tt

abbrev pub part_node : Plain → PlainPart-F SeenBase Unseen SeenPart Unseen Unseen SeenLeft → SeenPart
part_node t (tree.Member n) s = member t n s
part_node t (tree.Index at) s = s

abbrev pub pick_node : PlainPick-F SeenBase Unseen SeenPart Unseen Unseen SeenLeft → Unseen
pick_node p = tt

abbrev pub expr_step : PlainExpr-F SeenBase Unseen SeenPart Unseen Unseen SeenLeft → Unseen
expr_step e = tt

abbrev pub left_step : PlainLeft-F SeenBase Unseen SeenPart Unseen Unseen SeenLeft → SeenLeft
left_step l = record { at = walked l.parts (begun l.base.known); over = λ b. walked l.parts (begun (l.base.over b)) }

abbrev pub left : Plain → PlainFunction → PlainLeft → SeenLeft
left t f = fold-PlainLeft SeenBase Unseen SeenPart Unseen Unseen SeenLeft (base_node t f) expr_node (part_node t) pick_node expr_step left_step

abbrev pub base : Plain → PlainFunction → PlainBase → SeenBase
base t f = fold-PlainBase SeenBase Unseen SeenPart Unseen Unseen SeenLeft (base_node t f) expr_node (part_node t) pick_node expr_step left_step

-- a part by itself: of the function nothing is asked
abbrev pub part : Plain → PlainFunction → PlainPart → SeenPart
part t f = fold-PlainPart SeenBase Unseen SeenPart Unseen Unseen SeenLeft (base_node t f) expr_node (part_node t) pick_node expr_step left_step
