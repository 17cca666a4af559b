-- The first of some statements have run, up to one. This project's own.
use Rattle.std.specs.Prelude.{◌≡◌, ℕ, ◌≤◌, List, drop, length, Result, Ok, Err}
use Rattle.scc_base.specs.declared.refusal.Stop.{Stop}
use Rattle.scc_base.specs.declared.refusal.Stop.TheVariants as stop
use Rattle.scc_plain_tree.specs.declared.stmt.PlainStmt.{PlainStmt}
use Rattle.scc_plain_view.specs.Codes.{code_of}
use Rattle.scc_elab_spec.specs.Construct.{Now, Halted}
use Rattle.scc_elab_spec.specs.Program.{Plain}
use Rattle.scc_elab_works.specs.Works.{Stand, run_at}

abbrev pub Goes : Plain → Stand → List PlainStmt → (before after : Now) → Result ℕ Stop → Type 0
Goes p a list n m (Ok k) = (k ≤ length list) × (run_at p a (code_of list) n ≡ run_at p a (code_of (drop k list)) m)
Goes p a list n m (Err (stop.Refused z)) = run_at p a (code_of list) n ≡ Halted z
Goes p a list n m (Err stop.NoMemory) = Unit {0}
