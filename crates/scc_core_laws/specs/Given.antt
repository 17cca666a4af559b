-- A step of the design by cells, and registers at a start. This project's own.
use Rattle.std.specs.Prelude.{ℕ, suc, Bool, not, ◌&&◌, nat_eq, List, [], ◌∷◌, Option, Some, None, option_map, slice_get, unwrap_or, if◌then◌else◌}
use Rattle.std.specs.List.{list_any}
use Rattle.scc_semantics.specs.Location.{Location, same}
use Rattle.scc_semantics.specs.Design.{is_clock}
use Rattle.scc_semantics.specs.Process.{State}
use Rattle.scc_semantics.specs.Run.{Step}
use Rattle.scc_core_spec.specs.Program.{Program, Cell, is_input}
use Rattle.scc_core_spec.specs.First.{or_else}
use Rattle.scc_core_spec.specs.Static.{Cells}
use Rattle.scc_core_spec.specs.Source.{Home, cell_location}
use Rattle.scc_blocks_spec.specs.Turns.{Regs}
use Rattle.scc_core_effect_laws.specs.Follows.{design_of}
use Rattle.scc_core_laws.specs.Stepped.{RegsStep}

module _ (home : Home) (p : Program) where
  -- an input that is no clock
  abbrev pub takes_word : Cell → Bool
  takes_word c = is_input c.sort && not (is_clock (design_of home p) (cell_location home p c))

  -- the words in order, by the cells of the inputs, counted from n on
  abbrev pub given_from : ℕ → Cells → List ℕ → ℕ → Option ℕ
  given_from n [] xs d = None
  given_from n (c ∷ cs) [] d = None
  given_from n (c ∷ cs) (x ∷ xs) d = if takes_word c then or_else (given_from (suc n) cs xs d) (if nat_eq n d then Some x else None) else given_from (suc n) cs (x ∷ xs) d

  -- the cells at these locations
  abbrev pub cells_at : List Location → ℕ → Cells → List ℕ
  cells_at locations n [] = []
  cells_at locations n (c ∷ cs) = if list_any (same (cell_location home p c)) locations then n ∷ cells_at locations (suc n) cs else cells_at locations (suc n) cs

  abbrev pub regs_step_of : Step → RegsStep
  regs_step_of x = record { given = given_from 0 p.cells x.inputs; edge = option_map (λ at. cells_at at 0 p.cells) x.edge }

  -- the words that stand at the cells' locations, and no thread has a place
  abbrev pub regs_of : State → Regs
  regs_of s = record { word = λ c. unwrap_or (option_map (λ x. s.store.words (cell_location home p x)) (slice_get p.cells c)) 0; place = λ i. None }
