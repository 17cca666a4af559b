-- The reader and the writer of a signal, under names of their own. This project's own.
use Rattle.std.specs.Prelude.{ℕ, suc, List, [], ◌∷◌}
use Rattle.scc_core_spec.specs.Program.{Process, Program}
use Rattle.scc_core_spec.specs.Worked.{named}
use Rattle.scc_blocks_spec.specs.Worked.{reader_first}

-- the processes under names from n on
abbrev pub named_from : ℕ → List Process → List Process
named_from n [] = []
named_from n (q ∷ qs) = record { is_thread = q.is_thread; name = named n; place = q.place; senses = q.senses; edge = q.edge; reset = q.reset; body = q.body } ∷ named_from (suc n) qs

abbrev pub chained : Program
chained = record { top = reader_first.top; cells = reader_first.cells; vectors = reader_first.vectors; processes = named_from 10 reader_first.processes }
