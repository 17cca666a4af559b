-- What the marks of facts stand for: what the processes read and write, with the cells that each location names. This project's own.
use Rattle.std.specs.Prelude.{◌≡◌, ℕ, Bool, not, ◌&&◌, List, map, flat_map, Option}
use Rattle.scc_base.specs.declared.code.Code.TheVariants as reason
use Rattle.scc_base.specs.declared.refusal.Refusal.{Refusal}
use Rattle.scc_core.specs.declared.program.Cell.{Cell}
use Rattle.scc_core.specs.declared.program.CoreProcess.{CoreProcess}
use Rattle.scc_core_flow.specs.declared.marks.Mark.{Mark}
use Rattle.scc_core_spec.specs.First.{first_of}
use Rattle.scc_core_spec.specs.Program.{Process, Program, is_combinational, is_root}
use Rattle.scc_core_spec.specs.Rules.{edge_cells}
use Rattle.scc_core_spec.specs.Uses.{among}
use Rattle.scc_core_view.specs.Programs.{process_of, program_of, sort_of}
use Rattle.scc_rules_laws.specs.Found.{only, read_found}
use Rattle.scc_rules_laws.specs.Seen.{Seen, AreSeen}
use Rattle.scc_rules_walks.specs.Cells.{has_flag, roots_in}
use Rattle.scc_rules.specs.declared.facts.Facts.{Facts}

abbrev pub seen_of : Facts → Mark → Seen
seen_of f m = record { place = m.place; statement = m.statement; number = m.number; write = m.write; cells = roots_in f.roots.items m.named }

abbrev pub seen_in : Facts → List Mark → List Seen
seen_in f = map (seen_of f)

abbrev pub seen_all : Facts → List (List Seen)
seen_all f = map (seen_in f) f.marks.items

-- of each process all that its live part reads and writes, without what tells nothing new
pub record HasMarks (f : Facts) (p : Program) : Type 0 where
  pub core : p ≡ program_of f.core.now
  pub seen : AreSeen p (seen_all f)

-- the clocks of some processes
abbrev pub clocks_in : List CoreProcess → List ℕ
clocks_in ps = flat_map (λ q. edge_cells (process_of q).edge) ps

-- two sets of cells have the same
abbrev pub HasSame : List Bool → List Bool → Type 0
HasSame a b = (n : ℕ) → has_flag a n ≡ has_flag b n

-- a signal or a port of the top
abbrev pub root_cell : Cell → Bool
root_cell c = is_root (sort_of c.sort)

-- E503 of one process, where the cells that pass the test are roots
abbrev pub unlisted_by : (ℕ → Bool) → Process → List Seen → Option Refusal
unlisted_by test q ss = only (is_combinational q) (first_of (read_found reason.MissingSensitivity (λ n. test n && not (among n q.senses))) ss)
