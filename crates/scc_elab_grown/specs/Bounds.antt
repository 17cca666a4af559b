-- Bindings and assignments of `new`, as the definitions have them. This project's own.
use Rattle.std.specs.Prelude.{◌≡◌, ℕ, Bool, ◌||◌, nat_eq, List, Option, Some, None, option_map, is_some, if◌then◌else◌}
use Rattle.std.specs.Map.{lookup}
use Rattle.scc_semantics.specs.Location.{Part, Top, same_path}
use Rattle.scc_elab_store.specs.declared.locations.Location.{Location as Held}
use Rattle.scc_elab_store.specs.Stores.{entry_at}
use Rattle.scc_elab_spec.specs.Grown.{Bound}
use Rattle.scc_elab_grown.specs.declared.bounds.BoundTo.{BoundTo}

abbrev pub bound_to : ℕ → BoundTo → Bound
bound_to n b = record { port = n; to = b.to; place = b.place }

abbrev pub bound_in : List (ℕ × BoundTo) → ℕ → Option Bound
bound_in es n = option_map (bound_to n) (lookup (nat_eq n) es)

abbrev pub made_in : List (Held × Bool) → List Part → Bool
made_in es path = is_some (entry_at es (record { root = Top; path = path }))

-- one more binding, and one more `new`
abbrev pub IsPut : (ℕ → Option Bound) → Bound → (ℕ → Option Bound) → Type 0
IsPut old b new = new ≡ (λ n. if nat_eq b.port n then Some b else old n)

abbrev pub IsMarked : (List Part → Bool) → List Part → (List Part → Bool) → Type 0
IsMarked old path new = new ≡ (λ q. same_path path q || old q)
