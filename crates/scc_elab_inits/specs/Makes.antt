-- What makes an object in place among some initialisers. This project's own.
use Rattle.std.specs.Prelude.{Bool, true, false, List, map, Option, Some, None, option_map}
use Rattle.std.specs.Borrow.{Bor}
use Rattle.scc_plain_tree.specs.declared.stmt.PlainArg.{PlainArg}
use Rattle.scc_elab_spec.specs.Term.{Argument}
use Rattle.scc_elab_spec.specs.Program.{Code, End, Declare, Assign, Point, Write, Call, If, Loop, Block, Exit, Return, Wait, Make, Bind, Process, Sensitive, Quiet, Reset}
use Rattle.scc_plain_view.specs.Terms.{argument_of}

abbrev pub begins_make : Code → Bool
begins_make (Make p l base args r) = true
begins_make End = false
begins_make (Declare p n r) = false
begins_make (Assign p l k e r) = false
begins_make (Point p l t r) = false
begins_make (Write p l e r) = false
begins_make (Call p n f o args r) = false
begins_make (If p t a b r) = false
begins_make (Loop p c b r) = false
begins_make (Block p b r) = false
begins_make (Exit p d r) = false
begins_make (Return p v r) = false
begins_make (Wait p n r) = false
begins_make (Bind p port to r) = false
begins_make (Process p t f e r) = false
begins_make (Sensitive p items r) = false
begins_make (Quiet p r) = false
begins_make (Reset p s e a r) = false

abbrev pub args_in : Option (Bor (List PlainArg)) → Option (List Argument)
args_in o = option_map (λ a. map argument_of a.now) o

-- the first of two
abbrev pub or_args : Option (List Argument) → Option (List Argument) → Option (List Argument)
or_args (Some a) b = Some a
or_args None b = b
