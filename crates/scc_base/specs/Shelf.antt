-- The files in memory, as a list of names with their bytes; the first entry of a name counts.
use Rattle.std.specs.Prelude.{◌≡◌, ℕ, List, option_map, Some, find, string_bytes, if◌then◌else◌, bytes_eq}
use Rattle.scc_base.specs.declared.entries.Entry.{Entry}
use Rattle.scc_base.specs.Outside.{Shelf}

abbrev pub shelf_of : List Entry → Shelf
shelf_of entries name = option_map (λ e. e.bytes.items) (find (λ e. bytes_eq (string_bytes e.name) name) entries)

-- new is old, where this name now holds these bytes
abbrev pub Puts : Shelf → Shelf → List ℕ → List ℕ → Type 0
Puts old new name bytes = (n : List ℕ) → new n ≡ (if bytes_eq name n then Some bytes else old n)
