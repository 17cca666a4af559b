-- What a lowering is given, has made so far, and makes, as the laws of lowering over trees speak of it.
use Rattle.std.specs.Prelude.{◌≡◌, ℕ, ◌+◌, List, [], ◌∷◌, map, Option, Some, None, slice_get}
use Rattle.scc_bits_kinds.specs.declared.kind.Kind.{Kind}
use Rattle.scc_bits_kinds.specs.Kinds.{width_of}
use Rattle.scc_bits.specs.Value.{Number}
use Rattle.scc_core.specs.declared.expr.CoreBase.TheOpen as tree
use Rattle.scc_core.specs.declared.expr.CoreExpr.{CoreExpr}
use Rattle.scc_core.specs.declared.expr.CoreExprNode.{out-CoreExprNode}
use Rattle.scc_core.specs.declared.expr.CoreLeft.{CoreLeft}
use Rattle.scc_core.specs.declared.expr.CorePick.{CorePick, out-CorePick}
use Rattle.scc_core.specs.declared.program.Cell.{Cell}
use Rattle.scc_core.specs.Located.{named_in}
use Rattle.scc_svtree.specs.Code.{code_of}
use Rattle.scc_svtree.specs.declared.expr.SvExpr.{SvExpr}
use Rattle.scc_svtree.specs.Term as emitted
use Rattle.scc_svtree.specs.Term.{term_of}
use Rattle.scc_lower_laws.specs.Elements.{Slot}
use Rattle.scc_lower_laws.specs.Outcome as outcome
use Rattle.scc_lower_laws.specs.Outcome.{Outcome}
use Rattle.scc_lower_tree_laws.specs.Becoming.{Becomes}
use Rattle.scc_lower_tree_laws.specs.Choosing.{Opened, ReadsElement}
use Rattle.scc_lower_tree_laws.specs.Finding as finding
use Rattle.scc_lower_tree_laws.specs.Finding.{IsFoundAt}
use Rattle.scc_lower_tree_laws.specs.Sound.{Layer}
use Rattle.scc_lower_tree_laws.specs.States as seen
use Rattle.scc_lower_tree_laws.specs.States.{Given, Seen, State}
use Rattle.scc_lower_expressions.specs.declared.convert.Lowered.{Lowered}
use Rattle.scc_lower_expressions.specs.declared.convert.Lowered.TheVariants.{Known, Made}
use Rattle.scc_lower_expressions.specs.declared.index.Index.{Index}
use Rattle.scc_lower_expressions.specs.declared.index.Open.{Open}
use Rattle.scc_lower_expressions.specs.declared.lowering.Cells.{Cells}
use Rattle.scc_lower_expressions.specs.declared.lowering.Lowering.{Lowering}
use Rattle.scc_lower_expressions.specs.declared.lowering.View.{View}
use Rattle.scc_lower_expressions.specs.declared.lowering.View.TheVariants.{Constant, Plain, Next, Delayed}
use Rattle.scc_lower_expressions.specs.declared.place.Chosen.{Chosen}
use Rattle.scc_lower_expressions.specs.declared.place.Found.{Found}

abbrev pub seen_of : View → Seen
seen_of (Constant w) = seen.Constant w.bits
seen_of Plain = seen.Plain
seen_of Next = seen.Next
seen_of Delayed = seen.Delayed

abbrev pub outcome_of : Lowered → Outcome
outcome_of (Known n) = outcome.Known n
outcome_of (Made e) = outcome.Made (term_of e)

abbrev pub given_of : Cells → Given
given_of c = record { cells = c.cells.now; known = c.known }

abbrev pub state_of : Lowering → State
state_of x = record { views = map seen_of x.views.now; exit = x.exit; temporaries = x.temporaries; before = code_of x.before }

abbrev pub slot_of : Index → Slot
slot_of i = record { variable = i.var.0; width = i.width }

abbrev pub opened_of : Open → Opened
opened_of o = record { slot = slot_of o.at; size = o.size; stride = o.stride }

abbrev pub chosen_of : Chosen → finding.Chosen
chosen_of c = record { index = c.at.now; size = c.size; stride = c.stride }

abbrev pub found_of : Found → finding.Found
found_of f = record { first = f.first; dims = map chosen_of f.dims.items }

-- ---- first operands

abbrev pub first_in : Layer → Option CoreExpr
first_in (tree.Convert e) = Some e
first_in (tree.Operate o a b) = Some a
first_in (tree.Choose t a b) = Some t
first_in _ = None

-- the operand that is lowered first
abbrev pub first_of : CoreExpr → Option CoreExpr
first_of e = first_in (out-CoreExprNode e.node)

-- each of the list is the first operand of the one before it, and so is the last item
abbrev pub IsPath : CoreExpr → List CoreExpr → CoreExpr → Type 0
IsPath x [] z = x ≡ z
IsPath x (y ∷ ys) z = (y ≡ x) × ((u : CoreExpr) × (first_of x ≡ Some u) × IsPath u ys z)

-- ---- locations

abbrev pub IsLocated : Given → CoreLeft → Option Found → Type 0
IsLocated g l None = named_in g.known l ≡ None
IsLocated g l (Some f) = IsFoundAt g l (found_of f)

-- ---- what becomes of an expression

abbrev pub IsLowered : Cells → CoreExpr → Lowering → Lowered → Lowering → Type 0
IsLowered c e old o new = Becomes (given_of c) e (state_of old) (outcome_of o) (state_of new)

-- and the text that is made of it
abbrev pub IsWritten : Cells → CoreExpr → Lowering → SvExpr → Lowering → Type 0
IsWritten c e old t new = Becomes (given_of c) e (state_of old) (outcome.Made (term_of t)) (state_of new)

-- the number that it is, where it has one; nothing is added for it
abbrev pub IsNumber : Given → CoreExpr → Option Number → Type 0
IsNumber g e None = Unit {0}
IsNumber g e (Some v) = (a : State) → Becomes g e a (outcome.Known v) a

-- ---- bits

-- a bit under an index
abbrev pub IsBitAt : Option CorePick → CoreExpr → Type 0
IsBitAt None i = ⊥
IsBitAt (Some q) i = (k : Kind) × (out-CorePick q ≡ tree.Bit k i)

-- a whole element
pub record IsWholeRead (g : Given) (views : List Seen) (os : List Opened) (first : ℕ) (t : emitted.Term) : Type 0 where
  pub cell : Cell
  pub high : ℕ
  pub stands : slice_get g.cells first ≡ Some cell
  pub wide : high + 1 ≡ width_of cell.kind
  pub reads : ReadsElement g views os first high 0 t
