use Rattle.scc_blocks_names.proofs.Behind.{cell_is_local, same_locals, no_mark_behind}
use Rattle.scc_blocks_names.proofs.laws.temporaries_have_names_of_their_own.Goals as goal

pub returns-clause-cells : goal.returns-clause-cells
returns-clause-cells c = λ names d p n i m k q x e f g b t. cell_is_local names n.table d n.apart q.name (n.processes i q e) k b x.name (n.cells m x f g) t

pub returns-clause-others : goal.returns-clause-others
returns-clause-others c = λ names d p n i j k l q r e f b m t.
    let same = same_locals names n.table d n.apart q.name r.name (n.processes i q e) (n.processes j r f) k l b m t in
    (n.processes_differ i j q r e f same.0, same.1)

pub returns-clause-marks : goal.returns-clause-marks
returns-clause-marks c = λ names d p n i k q e b s t h. no_mark_behind names n.table d n.apart q.name (n.processes i q e) k b s t h
