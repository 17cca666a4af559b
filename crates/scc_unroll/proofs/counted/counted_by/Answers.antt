use Rattle.std.proofs.Common.{◌≡◌, sym, ap, subst, Option, option_map}
use Rattle.std.specs.Prelude.{IfOk}
use Rattle.scc_core.specs.declared.stmt.Count.{Count}
use Rattle.scc_core_spec.specs.Counted as spec
use Rattle.scc_core_view.specs.Codes.{code_of, counted}
use Rattle.scc_unroll.specs.declared.shape.Stand.TheVariants as stand
use Rattle.scc_unroll.specs.Shape.{StandIsRead, cells_at, counting_of, setting_of, stand_of}
use Rattle.scc_unroll_asked.specs.Asked.{AreRead, asked_count}
use Rattle.scc_unroll_laws.specs.Counters.{counters_of}
use Rattle.scc_unroll.proofs.counted.counted_by.Goals as goal

pub returns-in-Behind-Some-clause-counted : goal.returns-in-Behind-Some-clause-counted
returns-in-Behind-Some-clause-counted c = λ b r a reads e.
    let at = c.args.at.now in
    let ns = counters_of c.args.counters.now in
    let k = c.in-Behind-Some.is-1 in
    let P : spec.Stand → Option Count → Type 0 = λ w n. IfOk c.counted_from.result (λ o. option_map (counting_of (cells_at at) ns) o ≡ spec.counted_by (setting_of at b) ns w (counted n) (code_of c.args.body.now) r) in
    subst (λ w. P w c.args.count.now) (sym (ap stand_of c.in-Behind-Some.is-0))
    (subst (λ n. P (stand_of (stand.Behind c.in-Behind-Some.left c.in-Behind-Some.value)) n) (sym k) (c.counted_from.ensures.counted b r a (subst (λ n. AreRead at.known (asked_count n)) k reads) e))

pub returns-in-Behind-Some-clause-told : goal.returns-in-Behind-Some-clause-told
returns-in-Behind-Some-clause-told c = λ a st reads. c.counted_from.ensures.told a (subst (StandIsRead c.args.at.now.known) c.in-Behind-Some.is-0 st) reads
