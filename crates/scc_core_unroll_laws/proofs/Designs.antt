-- The design of an unrolled core is that of the core but for the bodies.
use Rattle.std.proofs.Common.{◌≡◌, ℕ, suc, Bool, true, false, List, [], ◌∷◌, map, Option, Some, None, refl, ap}
use Rattle.std.specs.Prelude.{not, ◌&&◌, find, filter_map, is_some, slice_get, unwrap_or, option_map, option_and_then, if◌then◌else◌}
use Rattle.scc_semantics.specs.Location.{Location, Part, same, same_path}
use Rattle.scc_semantics.specs.Places as design
use Rattle.scc_semantics.specs.Places.{Places}
use Rattle.scc_semantics.specs.Design as running
use Rattle.scc_semantics.specs.Design.{Design, TopPort}
use Rattle.scc_core_spec.specs.Code.{Code}
use Rattle.scc_core_spec.specs.Program.{Program, Process, Cell, Edge, Reset, is_pointer, is_input, is_output}
use Rattle.scc_core_spec.specs.Static.{fixed_word}
use Rattle.scc_core_spec.specs.Unrolled.{with_body}
use Rattle.scc_core_spec.specs.Source.{Home, at_top, location_of, process_named, cell_location, thing_of, edge_at, reset_at, senses_at, sort_of, target_there, source_of}

-- bodies alone are changed
abbrev pub changed_bodies : (Process → Code) → Program → Program
changed_bodies f p = record { top = p.top; cells = p.cells; vectors = p.vectors; processes = map (with_body f) p.processes }

pub named-same : (f : Process → Code) (n : ℕ) (path : List Part) (qs : List Process) → process_named n path (map (with_body f) qs) ≡ process_named n path qs
named-same f n path [] = refl
named-same f n path (q ∷ qs) = ap (λ m. if same_path path q.name.path then n else m) (named-same f (suc n) path qs)

module _ (home : Home) (f : Process → Code) (p : Program) (constant : Location → Option ℕ) where
  abbrev m : Program
  m = changed_bodies f p

  pub location-same : (c : Cell) → cell_location home m c ≡ cell_location home p c
  location-same c = ap (λ i. location_of home i c.name) (named-same f 0 c.name.path p.processes)

  abbrev at : Cell → (z : ℕ) → Location
  at c z = cell_location home p c

  pub places-same : (source_of home m constant).places ≡ (source_of home p constant).places
  places-same = λ z. record {
    things = λ l. option_and_then (λ c. thing_of home p c c.sort) (find (λ c. same (location-same c z) l && not (is_pointer c.sort)) p.cells);
    pointers = λ l. is_some (find (λ c. same (location-same c z) l && is_pointer c.sort) p.cells);
  }

  pub fixed-same : (source_of home m constant).fixed ≡ (source_of home p constant).fixed
  fixed-same = λ z l. option_and_then (λ c. fixed_word c.sort) (find (λ c. same (location-same c z) l && not (is_pointer c.sort)) p.cells)

  pub targets-same : (source_of home m constant).targets ≡ (source_of home p constant).targets
  targets-same = λ z l. target_there home p (find (λ c. same (location-same c z) l && is_pointer c.sort) p.cells)

  pub ports-same : (source_of home m constant).ports ≡ (source_of home p constant).ports
  ports-same = λ z. filter_map (λ c. if is_input c.sort then Some (record { location = location-same c z; direction = running.Input })
      else (if is_output c.sort then Some (record { location = location-same c z; direction = running.Output }) else None)) p.cells

  edge-same : (e : Edge) → edge_at home m e ≡ edge_at home p e
  edge-same e = λ z. record { clock = unwrap_or (option_map (λ c. location-same c z) (slice_get p.cells e.cell)) (at_top []); rising = e.rising }

  reset-same : (r : Reset) → reset_at home m r ≡ reset_at home p r
  reset-same r = λ z. record { root = unwrap_or (option_map (λ c. location-same c z) (slice_get p.cells r.cell)) (at_top []); level = r.level; asynchronous = r.asynchronous }

  senses-same : (ns : List ℕ) → senses_at home m ns ≡ senses_at home p ns
  senses-same ns = λ z. filter_map (λ n. option_map (λ c. location-same c z) (slice_get p.cells n)) ns

  pub sort-same : (q : Process) (b : Bool) (e : Option Edge) → sort_of home m (with_body f q) b e ≡ sort_of home p q b e
  sort-same q true (Some e) = λ z. design.Thread (edge-same e z) (option_map (λ r. reset-same r z) q.reset)
  sort-same q false (Some e) = λ z. design.Clocked (edge-same e z)
  sort-same q true None = λ z. design.Combinational (senses-same q.senses z)
  sort-same q false None = λ z. design.Combinational (senses-same q.senses z)
