-- Of which form the first statement of some is, and which statements are run. This project's own.
use Rattle.std.specs.Prelude.{◌≡◌, ℕ, List, Bool, true, false, not, ◌&&◌, Option, Some, None}
use Rattle.scc_elab_spec.specs.Inits.{belongs, owner}
use Rattle.scc_elab_spec.specs.Program.{Code, End, Declare, Assign, Point, Write, Call, If, Loop, Block, Exit, Return, Wait, Make, Bind, Process, Sensitive, Quiet, Reset, Count}
use Rattle.scc_base.specs.declared.refusal.Place.{Place}
use Rattle.scc_plain_tree.specs.declared.stmt.PlainStmt.{PlainStmt}
use Rattle.scc_plain_view.specs.Codes.{code_of}
use Rattle.scc_elab_spec.specs.Worth.{Site}
use Rattle.scc_elab_spec.specs.Construct.{Making, Now, looped, ran_in}
use Rattle.scc_elab_inits.specs.Makes.{begins_make}
use Rattle.scc_elab_works.specs.Hows.{How}
use Rattle.scc_elab_works.specs.Hows as how

abbrev pub begins_if : Code → Bool
begins_if (If p t a b r) = true
begins_if End = false
begins_if (Declare p n r) = false
begins_if (Assign p l k e r) = false
begins_if (Point p l t r) = false
begins_if (Write p l e r) = false
begins_if (Call p n f o args r) = false
begins_if (Loop p c b r) = false
begins_if (Block p b r) = false
begins_if (Exit p d r) = false
begins_if (Return p v r) = false
begins_if (Wait p n r) = false
begins_if (Make p l base args r) = false
begins_if (Bind p port to r) = false
begins_if (Process p t f e r) = false
begins_if (Sensitive p items r) = false
begins_if (Quiet p r) = false
begins_if (Reset p s e a r) = false

-- whether the first of some statements is run
abbrev pub takes_first : How → Code → Bool
takes_first how.All c = true
takes_first (how.Of m) c = belongs m (owner c)
takes_first (how.Without n) c = belongs (Some n) (owner c) && not (begins_make c)

-- a loop over some statements tests by the first ones and turns by the second ones
abbrev pub IsParts : (test turn all : List PlainStmt) → Type 0
IsParts test turn all = (t : ℕ) (make : Making) (s : Site) (q : Place) (c : Option Count) (k : Code) (n : Now) → ran_in t make s (Loop q c (code_of all) k) n ≡ looped t q (ran_in t make s (code_of test)) (ran_in t make s (code_of turn)) n
