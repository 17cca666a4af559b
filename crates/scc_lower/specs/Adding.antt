-- What is added to statements for an element that is written.
use Rattle.std.specs.Prelude.{◌≡◌, ℕ, suc, ◌+◌, ◌*◌, ◌^◌, nat_lt, if◌then◌else◌, List, [], ◌∷◌}
use Rattle.scc_core_spec.specs.Term.{Pick, Term}
use Rattle.scc_svtree.specs.declared.expr.SvBinary.TheVariants as binary
use Rattle.scc_svtree.specs.declared.expr.SvUnary.TheVariants as unary
use Rattle.scc_svtree.specs.declared.stmt.SvArm.{SvArm}
use Rattle.scc_svtree.specs.declared.stmt.SvStmt.{SvStmt}
use Rattle.scc_svtree.specs.Code.{Code, End, If, code_of}
use Rattle.scc_svtree.specs.Term as emitted
use Rattle.scc_svtree.specs.Term.{term_of}
use Rattle.scc_lower_spec.specs.Selected.{below_term}
use Rattle.scc_lower_laws.specs.Elements.{Slot, variable_of}
use Rattle.scc_lower_laws.specs.Sequence.{then_code}
use Rattle.scc_lower_tree_laws.specs.Assigning.{At, Part, PutsElement, Wanted}
use Rattle.scc_lower_tree_laws.specs.Choosing.{Opened}
use Rattle.scc_lower_tree_laws.specs.States.{Given, Seen}
use Rattle.scc_lower_expressions.specs.Becoming.{slot_of}
use Rattle.scc_lower.specs.declared.assign.Written.{Written}
use Rattle.scc_lower.specs.declared.assign.Written.TheVariants as written

-- behind what stood there comes code that writes the element so
pub record Adds (g : Given) (views : List Seen) (os : List Opened) (first : ℕ) (z : Wanted) (old new : List SvStmt) : Type 0 where
  pub code : Code
  pub behind : code_of new ≡ then_code (code_of old) code
  pub puts : PutsElement g views os first z code

-- what is written, of a pick and a value, or of an index
abbrev pub wanted_of : Written → Pick → Term → Wanted
wanted_of (written.Part b v) k e = Part b.h b.l k e (term_of v)
wanted_of (written.Bit at v) k e = At e (slot_of at) (term_of v)

-- the arm of an element of a dimension
pub record IsArm (g : Given) (views : List Seen) (o : Opened) (os : List Opened) (first i : ℕ) (z : Wanted) (a : SvArm) : Type 0 where
  pub width : a.label.width ≡ o.slot.width
  pub label : a.label.value.bits ≡ i
  pub puts : PutsElement g views os (first + i * o.stride) z (code_of a.body)

-- those of elements from one on
abbrev pub AreArms : Given → List Seen → Opened → List Opened → (first low : ℕ) → Wanted → List SvArm → Type 0
AreArms g views o os first low z [] = Unit {0}
AreArms g views o os first low z (a ∷ rest) = IsArm g views o os first low z a × AreArms g views o os first (suc low) z rest

-- a variable without the bit at an index
abbrev pub others_text : (width variable index : ℕ) → emitted.Term
others_text width variable index = emitted.Binary binary.And (variable_of variable) (emitted.Unary unary.Not (emitted.Binary binary.Shl (emitted.Literal width 1) (variable_of index)))

-- code that runs where an index is below a width
abbrev pub inside_code : (width : ℕ) → Slot → Code → Code
inside_code width v code = if nat_lt width (2 ^ v.width) then If (below_term v.width (variable_of v.variable) width) code End End else code
