use Rattle.std.proofs.Common.{sym, subst}
use Rattle.scc_core_flow.proofs.Nodes.{each_ok}
use Rattle.scc_states_kept.specs.Gathered.{TellsAll, cut_segments}
use Rattle.scc_states_kept.specs.Noted.{asks, cells_here}
use Rattle.scc_states_kept.proofs.Gathering.{kept_is, own_asked, told_segments}
use Rattle.scc_states_kept.proofs.kept.kept_of.Goals as goal

pub returns : goal.returns
returns c = λ p waits t d.
    let known = c.args.known in
    let i = c.args.process in
    let body = c.args.live.now in
    let ss = cut_segments waits c.args.cut.now in
    let own = c.in_ok-own.own in
    let o = c.in_ok-own.ensures d in
    each_ok _ _ c.kept_among.result
    (c.kept_among.ensures (cells_here known) (asks known i) waits (subst (λ k. TellsAll k (cells_here known) (asks known i) ss) (sym o.same) (told_segments known i p body ss t d)) (own_asked known i p body ss t own o))
    (λ ks is. kept_is known i p body ss t ks own.cells.keys o.cells is)
