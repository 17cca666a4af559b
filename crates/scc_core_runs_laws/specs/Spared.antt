-- What a run of a process without pointers leaves as it is: targets, the words of all but numbers, and it asks nothing of numbers. This project's own.
use Rattle.std.specs.Prelude.{◌≡◌, ℕ, Bool, true, false, Option, Some}
use Rattle.scc_semantics.specs.Location.{Location}
use Rattle.scc_semantics.specs.Places.{Places, Thing, Number, Port}
use Rattle.scc_semantics.specs.Store.{updated}
use Rattle.scc_semantics.specs.Value.{Held}
use Rattle.scc_semantics.specs.Machine.{Outcome, Suspended, Ended, Stuck, Unfinished}

abbrev pub holds_number : Option Thing → Bool
holds_number (Some (Number k)) = true
holds_number _ = false

-- ports below the top have roots that are no numbers
abbrev pub PortsLead : Places → Type 0
PortsLead places = (l root : Location) (k : Rattle.scc_bits_kinds.specs.declared.kind.Kind.Kind) → places.things l ≡ Some (Port k root) → holds_number (places.things root) ≡ false

pub record Spared (places : Places) (h g : Held) : Type 0 where
  pub targets : (l : Location) → g.store.targets l ≡ h.store.targets l
  pub words : (l : Location) → holds_number (places.things l) ≡ false → g.store.words l ≡ h.store.words l
  pub asked : (l : Location) (w : Location → ℕ) → holds_number (places.things l) ≡ true → updated g.requests w l ≡ updated h.requests w l

abbrev pub SparesTo : Places → Held → Outcome → Type 0
SparesTo places h (Suspended f g) = Spared places h g
SparesTo places h (Ended g) = Spared places h g
SparesTo places h (Stuck g) = Spared places h g
SparesTo places h Unfinished = Unit {0}
