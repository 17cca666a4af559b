-- What is known of cells before a run.
use Rattle.std.specs.Prelude.{◌≡◌, ℕ, nat_eq, List, Option, Some, None}
use Rattle.std.specs.HashMap.{HashMap, get_by}
use denote.Ref.{Bor}
use Rattle.scc_bits.specs.Value.{Number}
use Rattle.scc_core.specs.declared.program.CellName.{CellName}
use Rattle.scc_core.specs.declared.places.NameStep.{NameStep}
use Rattle.scc_core.specs.declared.places.Places.{Places}
use Rattle.scc_core.specs.declared.statics.Known.{Known}
use Rattle.scc_core.specs.Names.{placed, sought}
use Rattle.scc_core.specs.Elements.{Facts, fixed}

-- neither a table of names nor counters
abbrev pub IsAlone : Known → Type 0
IsAlone known = (known.places ≡ None) × (known.counters ≡ None)

abbrev pub first_number : Option Number → Option Number → Option Number
first_number (Some n) other = Some n
first_number None other = other

abbrev pub counted : {S : Type 0} → Option (Bor (HashMap ℕ Number S)) → ℕ → Option Number
counted None n = None
counted (Some m) n = get_by (nat_eq n) m.now

abbrev pub placed_or : Option (Bor Places) → Option ℕ → List (Option NameStep) → CellName → Option ℕ
placed_or None other ss name = other
placed_or (Some p) other ss name = placed p.now ss name

-- the number of a counter stands for its cell's
abbrev pub held_in : Known → ℕ → Option Number
held_in known n = first_number (counted known.counters n) (fixed known.cells.now n)

-- a cell by its name: by the table where there is one, else sought among all
abbrev pub place_in : Known → List (Option NameStep) → CellName → Option ℕ
place_in known ss name = placed_or known.places (sought ss name known.cells.now) ss name

abbrev pub facts_in : Known → Facts
facts_in known = record { held = held_in known; fixed_at = fixed known.cells.now; place = place_in known }
