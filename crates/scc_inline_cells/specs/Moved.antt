-- Members that statements may move, by the parts of statements; and what is noted of them. This project's own.
use Rattle.std.specs.Prelude.{Bool, List, [], ◌∷◌, ◌++◌, map, Option, Some, None}
use Rattle.std.specs.Borrow.{Bor}
use Rattle.std.specs.List.{list_any}
use Rattle.scc_plain_tree.specs.declared.expr.PlainLeft.{PlainLeft}
use Rattle.scc_plain_tree.specs.declared.stmt.PlainTarget.{PlainTarget}
use Rattle.scc_plain_tree.specs.declared.stmt.PlainArg.{PlainArg}
use Rattle.scc_plain_tree.specs.declared.stmt.PlainStmt.{PlainStmt}
use Rattle.scc_elab_spec.specs.Term.{Argument, Leads, Value, ModuleName}
use Rattle.scc_elab_spec.specs.Program.{Function, Plain}
use Rattle.scc_elab_spec.specs.Types.{Place, same_member, last_member, addressed, arguments, written, moved}
use Rattle.scc_plain_view.specs.Codes.{code_of}
use Rattle.scc_plain_view.specs.Terms.{left_of, target_of, argument_of}
use Rattle.scc_inline_cells.specs.declared.locations.MemberOf.{MemberOf}
use Rattle.scc_inline_cells.specs.declared.statements.Parts.{Parts}
use Rattle.scc_inline_cells.specs.Spots.{place_of}

abbrev pub left_moved : Plain → Function → Bool → Option (Bor PlainLeft) → List Place
left_moved p f c None = []
left_moved p f c (Some l) = written c (last_member p f (left_of l.now))

abbrev pub target_moved : Plain → Function → Option (Bor PlainTarget) → List Place
target_moved p f None = []
target_moved p f (Some t) = addressed p f (target_of t.now)

abbrev pub args_moved : Plain → Function → Option (Bor (List PlainArg)) → List Place
args_moved p f None = []
args_moved p f (Some as_given) = arguments p f (map argument_of as_given.now)

abbrev pub list_moved : Plain → Function → Bool → Option (Bor (List PlainStmt)) → List Place
list_moved p f c None = []
list_moved p f c (Some ss) = moved p f c (code_of ss.now)

-- what a statement moves by itself, and what the statements in it do
abbrev pub own_moved : Plain → Function → Bool → Parts → List Place → List Place
own_moved p f c x rest = left_moved p f c x.left ++ (target_moved p f x.target ++ (args_moved p f x.args ++ rest))

abbrev pub parts_moved : Plain → Function → Bool → Parts → List Place
parts_moved p f c x = own_moved p f c x (list_moved p f c x.first ++ (list_moved p f c x.second ++ []))

abbrev pub among : MemberOf → List Place → Bool
among m ps = list_any (same_member (place_of m)) ps

abbrev pub argument_moved : Plain → Function → Argument → List Place
argument_moved p f (Leads t) = addressed p f t
argument_moved p f (Value e) = []
argument_moved p f ModuleName = []

-- what the statements of lists move
abbrev pub pending : Plain → Function → Bool → List (Bor (List PlainStmt)) → List Place
pending p f c [] = []
pending p f c (l ∷ ls) = moved p f c (code_of l.now) ++ pending p f c ls
