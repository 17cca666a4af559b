-- A stack of statements that are still to come, the next ones last. This project's own.
use Rattle.std.specs.Prelude.{ℕ, List, [], ◌∷◌, Option, Some, option_and_then}
use Rattle.scc_plain_tree.specs.declared.stmt.PlainStmt.{PlainStmt}
use Rattle.scc_plain_tree.specs.declared.program.Plain.{Plain}
use Rattle.scc_plain_tree.specs.declared.program.PlainFunction.{PlainFunction}
use Rattle.scc_plain_look.specs.Steps.{seen_each}

-- statements inside so many blocks
pub record Later : Type 0 where
  pub list : List PlainStmt
  pub depth : ℕ

abbrev pub later : List PlainStmt → ℕ → Later
later list depth = record { list = list; depth = depth }

abbrev pub pending : Plain → PlainFunction → List Later → List ℕ → Option (List ℕ)
pending p f [] calls = Some calls
pending p f (t ∷ ts) calls = option_and_then (seen_each p f t.list t.depth) (pending p f ts calls)
