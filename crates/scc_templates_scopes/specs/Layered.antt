-- What the names of a body mean: each the number of a local variable, where it means one. This project's own.
use Rattle.std.specs.Prelude.{ℕ, nat_eq, Option, option_and_then}
use Rattle.std.specs.Map.{lookup}
use Rattle.scc_templates_scopes.specs.declared.layers.Layers.{Layers}

abbrev pub known_in : Layers → ℕ → Option ℕ
known_in l x = option_and_then (λ o. o) (lookup (λ k. nat_eq x k.0) l.meanings.entries)
