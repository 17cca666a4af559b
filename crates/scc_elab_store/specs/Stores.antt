-- The store of the definitions that the code's store stands for. This project's own.
use Rattle.std.specs.Prelude.{ℕ, ◌&&◌, nat_eq, List, Option, Some, None, option_map, unwrap_or, if◌then◌else◌}
use Rattle.std.specs.Map.{lookup}
use Rattle.scc_semantics.specs.Location.{Location, Root, Top, Local, Answer, same}
use Rattle.scc_semantics.specs.Store as def
use Rattle.scc_elab_store.specs.declared.locations.LocalOf.{LocalOf}
use Rattle.scc_elab_store.specs.declared.locations.Location.{Location as Held}
use Rattle.scc_elab_store.specs.declared.store.HeldWord.{HeldWord}
use Rattle.scc_elab_store.specs.declared.store.HeldTarget.{HeldTarget}
use Rattle.scc_elab_store.specs.declared.store.Store.{Store}
use Rattle.scc_elab_store.specs.Locations.{location_of}

-- what was written at a location last
abbrev pub entry_at : {X : Type 0} → List (Held × X) → Location → Option X
entry_at es l = lookup (λ k. same l (location_of k)) es

-- how often a local variable was declared
abbrev pub turn_of : List (LocalOf × ℕ) → Root → ℕ
turn_of ds Top = 0
turn_of ds (Local o cs n) = unwrap_or (lookup (λ k. nat_eq o k.object && nat_eq n k.local) ds) 0
turn_of ds (Answer p cs) = 0

-- what was written since the last declaration
abbrev pub word_if : ℕ → Option HeldWord → ℕ
word_if n None = 0
word_if n (Some h) = if nat_eq h.since n then h.word else 0

abbrev pub target_if : ℕ → Option HeldTarget → Option Location
target_if n None = None
target_if n (Some h) = if nat_eq h.since n then option_map location_of h.to else None

abbrev pub store_of : Store → def.Store
store_of s = record {
  words = λ l. word_if (turn_of s.declared.entries l.root) (entry_at s.words.entries l);
  targets = λ l. target_if (turn_of s.declared.entries l.root) (entry_at s.targets.entries l);
}
