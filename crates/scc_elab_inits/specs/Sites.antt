-- A site of a constructor, of which only the program and the function matter. This project's own.
use Rattle.std.specs.Prelude.{ℕ, List}
use Rattle.scc_semantics.specs.Location.{Part}
use Rattle.scc_plain_tree.specs.declared.program.Plain.{Plain as Tree}
use Rattle.scc_plain_tree.specs.declared.program.PlainFunction.{PlainFunction}
use Rattle.scc_elab_spec.specs.Grown.{Grown}
use Rattle.scc_elab_spec.specs.Worth.{Site}
use Rattle.scc_plain_view.specs.Plains.{plain_of, function_of}

abbrev pub site : Tree → PlainFunction → ℕ → List Part → Grown → Site
site t f o q g = record { plain = plain_of t; function = function_of f; object = o; path = q; now = g }
