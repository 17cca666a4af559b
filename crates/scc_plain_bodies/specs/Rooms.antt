-- What a body knows, as the definitions have it: its local variables, and the calls of the statement in work. This project's own.
use Rattle.std.specs.Prelude.{◌≡◌, ◌+◌, ◌++◌, ◌∷◌, ℕ, List, [], length, map, Option, option_map, slice_get}
use Rattle.scc_plain_tree.specs.declared.program.PlainMember.{PlainMember}
use Rattle.scc_plain_tree.specs.declared.program.Shape.{Shape as Held}
use Rattle.scc_base.specs.declared.refusal.Place.{Place}
use Rattle.scc_plain_tree.specs.declared.expr.PlainLeft.{PlainLeft}
use Rattle.scc_plain_tree.specs.declared.stmt.PlainArg.{PlainArg}
use Rattle.scc_plain_tree.specs.declared.stmt.PlainNode.{roll-PlainNode}
use Rattle.scc_plain_tree.specs.declared.stmt.PlainNode.TheOpen as node
use Rattle.scc_plain_tree.specs.declared.stmt.PlainStmt.{PlainStmt}
use Rattle.scc_plain_view.specs.Codes.{before, stmt_code}
use Rattle.scc_elab_spec.specs.Program.{Code}
use Rattle.scc_plain_spec.specs.Forms.{Form}
use Rattle.scc_plain_spec.specs.Room.{Local, Room, local_form}
use Rattle.scc_plain_drafts.specs.Forms.{Classes}
use Rattle.scc_plain_drafts.specs.Flows.{formed, shape_in}
use Rattle.scc_plain_bodies.specs.declared.body.Body.{Body}

abbrev pub local_in : Classes → PlainMember → Local
local_in n m = record { name = m.name.0; place = m.place; shape = shape_in n m.shape }

-- statements before what follows
abbrev pub stmts_before : List PlainStmt → Code → Code
stmts_before ss = before (map stmt_code ss)

-- The room that a body stands for, where the numbers of classes and functions are known.
abbrev pub room_in : Classes → Body → Room
room_in n b = record { locals = map (local_in n) b.locals; calls = b.calls; lifted = λ m c. stmts_before b.lifted c }

-- what is kept of the shapes of local variables is what they hold
abbrev pub IsFormed : Body → Type 0
IsFormed b = b.forms.items ≡ map (λ (m : PlainMember). formed m.shape) b.locals

-- a further local variable, whose number is its place
pub record Declared (old new : Body) (m : PlainMember) (k : ℕ) : Type 0 where
  pub number : k ≡ length old.locals
  pub locals : new.locals ≡ old.locals ++ m ∷ []
  pub formed : IsFormed old → IsFormed new
  pub calls : new.calls ≡ old.calls
  pub lifted : new.lifted ≡ old.lifted

-- a further call before the statement in work
pub record Lifted (old new : Body) (s : PlainStmt) (k : ℕ) : Type 0 where
  pub number : k ≡ old.calls
  pub calls : new.calls ≡ old.calls + 1
  pub lifted : new.lifted ≡ old.lifted ++ s ∷ []
  pub locals : new.locals ≡ old.locals
  pub forms : new.forms ≡ old.forms

abbrev pub call_stmt : Place → ℕ → ℕ → Option PlainLeft → List PlainArg → PlainStmt
call_stmt p k f object as_given = record { place = p; node = roll-PlainNode (node.Call k f object as_given) }
