-- Processes that are declared, as the definitions have them. This project's own.
use Rattle.std.specs.Prelude.{◌≡◌, ℕ, Bool, ◌&&◌, nat_eq, List, map, is_some}
use Rattle.std.specs.List.{list_any}
use Rattle.std.specs.Map.{lookup}
use Rattle.scc_elab_spec.specs.Grown as grown
use Rattle.scc_elab_spec.specs.Grown.{Declared}
use Rattle.scc_elab_grown.specs.declared.records.Item.{Item}
use Rattle.scc_elab_grown.specs.declared.records.ResetItem.{ResetItem}
use Rattle.scc_elab_grown.specs.declared.records.Record.{Record}
use Rattle.scc_elab_grown.specs.declared.records.Runs.{Runs}

abbrev pub item_of : Item → grown.Item
item_of i = record { place = i.place; signal = i.signal; rising = i.rising }

abbrev pub reset_of : ResetItem → grown.ResetItem
reset_of r = record { place = r.place; signal = r.signal; level = r.level; asynchronous = r.asynchronous }

abbrev pub record_of : Record → Declared
record_of r = record { object = r.object; function = r.function; place = r.place; is_thread = r.is_thread; items = map item_of r.items.items; resets = map reset_of r.resets.items }

abbrev pub runs_at : ℕ → ℕ → Declared → Bool
runs_at object function d = nat_eq d.object object && nat_eq d.function function

abbrev pub same_runs : ℕ → ℕ → Runs → Bool
same_runs object function k = nat_eq object k.object && nat_eq function k.function

abbrev pub has_run : List (Runs × Bool) → ℕ → ℕ → Bool
has_run es object function = is_some (lookup (same_runs object function) es)

-- what is noted of processes is what they run
pub record KeepsRuns (list : List Record) (entries : List (Runs × Bool)) : Type 0 where
  pub runs : (object function : ℕ) → has_run entries object function ≡ list_any (runs_at object function) (map record_of list)

-- the processes run the same functions
abbrev pub RunSame : List Record → List Record → Type 0
RunSame old new = (object function : ℕ) → list_any (runs_at object function) (map record_of old) ≡ list_any (runs_at object function) (map record_of new)
