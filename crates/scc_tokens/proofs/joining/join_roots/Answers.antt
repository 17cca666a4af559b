use Rattle.std.proofs.lemmas.Result.{err_from_is_err_and}
use Rattle.scc_tokens.proofs.Roots.{roots_next, roots_stop}
use Rattle.scc_tokens.proofs.Shelving.{reads_then}
use Rattle.scc_tokens.proofs.joining.join_roots.Goals as goal

pub returns-in_err-last-clause-value : goal.returns-in_err-last-clause-value
returns-in_err-last-clause-value g c = λ shelf holds.
    let p = err_from_is_err_and c.from_residual.result c.from_residual.ensures.1 in
    rw (p.1, p.2) (roots_stop c.loop-root.invariant c.loop-root-test.true c.root-item.result c.root-item.is shelf (c.in_err-last.ensures.reads.earlier shelf holds)
    c.join_root.new.names c.join_root.new.sources c.join_root.new.known c.join_root.new.state c.as_str.result.now c.in_err-last.field-0.0 c.as_str.ensures.value (c.in_err-last.ensures.value shelf holds))

pub loop-root-preserved : goal.loop-root-preserved
loop-root-preserved g c =
    roots_next c.loop-root.invariant c.loop-root-test.true c.root-item.result c.root-item.is _ _ _ c.join_root.new.names c.join_root.new.sources c.join_root.new.known c.join_root.new.state c.as_str.result.now c.in_ok-last.last
    c.as_str.ensures.value c.in_ok-last.ensures.keeps c.in_ok-last.ensures.reads c.in_ok-last.ensures.told c.in_ok-last.ensures.says c.in_ok-last.ensures.room c.in_ok-last.ensures.more c.in_ok-last.ensures.number c.in_ok-last.ensures.value

pub returns-in_err-last-clause-reads : goal.returns-in_err-last-clause-reads
returns-in_err-last-clause-reads g c = reads_then _ _ _ c.loop-root.invariant.reads c.in_err-last.ensures.reads

pub returns-clause-reads : goal.returns-clause-reads
returns-clause-reads g c = c.loop-root.invariant.reads
