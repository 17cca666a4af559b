-- Cores whose names tell processes and locals apart, and a process of one as the passes see it. This project's own.
use Rattle.std.specs.Prelude.{◌≡◌, ℕ, true, false, List, [], ◌∷◌, Option, Some, slice_get}
use Rattle.scc_semantics.specs.Location.{Location}
use Rattle.scc_core_spec.specs.Term.{Own}
use Rattle.scc_core_spec.specs.Program.{Program, Process, Cell, is_pointer, is_local}
use Rattle.scc_core_spec.specs.Unrolled.{setting_of}
use Rattle.scc_core_spec.specs.Source.{Home, source_of, process_named}
use Rattle.scc_core_unroll_laws.specs.Kinds.{IsKindedCode}
use Rattle.scc_core_unroll_laws.specs.Unrolling.{Around}

-- what has a local's name is a local, or a pointer
abbrev pub IsLocal : Cell → Type 0
IsLocal c = (o : Own) → is_pointer c.sort ≡ false → c.name.own ≡ Some o → is_local c.sort ≡ true

abbrev pub AllLocal : List Cell → Type 0
AllLocal [] = Unit {0}
AllLocal (c ∷ cs) = IsLocal c × AllLocal cs

pub record IsNamed (p : Program) : Type 0 where
  -- a process is the first of its name
  pub processes : (i : ℕ) (q : Process) → slice_get p.processes i ≡ Some q → process_named 0 q.name.path p.processes ≡ i
  pub locals : AllLocal p.cells

-- operators in its bodies have the kinds that they say
abbrev pub AreKinded : Program → Type 0
AreKinded p = (i : ℕ) (q : Process) → slice_get p.processes i ≡ Some q → IsKindedCode q.body

abbrev pub around_of : Home → Program → (Location → Option ℕ) → ℕ → Process → Around
around_of home p constant i q = record {
  home = home;
  process = i;
  setting = setting_of p.cells q;
  places = (source_of home p constant).places;
  fixed = (source_of home p constant).fixed;
}
