-- Initialisers that run, given from the last to the first by where each begins. This project's own.
use Rattle.std.specs.Prelude.{List, [], ◌∷◌, if◌then◌else◌}
use Rattle.scc_plain_tree.specs.declared.stmt.PlainStmt.{PlainStmt}
use Rattle.scc_plain_view.specs.Codes.{code_of, stmt_code}
use Rattle.scc_elab_spec.specs.Construct.{Ran, then_run}
use Rattle.scc_elab_spec.specs.Program.{End, Plain}
use Rattle.scc_elab_inits.specs.Makes.{begins_make}
use Rattle.scc_elab_groups.specs.Groups.{Tails}
use Rattle.scc_elab_works.specs.Works.{Stand, run_at}

-- the first of some statements runs
abbrev pub first_run : Plain → Stand → List PlainStmt → Ran → Ran
first_run p a [] x = x
first_run p a (s ∷ r) x = then_run x (run_at p a (stmt_code s End))

-- it does but where it makes an object
abbrev pub filler_run : Plain → Stand → List PlainStmt → Ran → Ran
filler_run p a t x = if begins_make (code_of t) then x else first_run p a t x

abbrev pub tails_run : Plain → Stand → Tails → Ran → Ran
tails_run p a [] x = x
tails_run p a (t ∷ ts) x = first_run p a t (tails_run p a ts x)

abbrev pub fillers_run : Plain → Stand → Tails → Ran → Ran
fillers_run p a [] x = x
fillers_run p a (t ∷ ts) x = filler_run p a t (fillers_run p a ts x)
