use Rattle.std.proofs.lemmas.Result.{err_from_is_err_and}
use Rattle.scc_tokens.proofs.Roots.{root_stops, root_good}
use Rattle.scc_tokens.proofs.Shelving.{reads_then}
use Rattle.scc_tokens.proofs.joining.join_root.Goals as goal

pub returns-in_err-walk_file-clause-value : goal.returns-in_err-walk_file-clause-value
returns-in_err-walk_file-clause-value g c = λ shelf holds.
    let p = err_from_is_err_and c.from_residual-in_err-walk_file.result c.from_residual-in_err-walk_file.ensures.1 in
    let holds1 = c.in_err-walk_file.ensures.moves.reads.earlier shelf holds in
    rw (p.1, p.2) (root_stops shelf _ _ c.args.known.now c.ask.new.known c.walk_file.new.known c.args.sources.now c.ask.new.sources c.walk_file.new.sources c.args.names.now c.ask.new.names c.walk_file.new.names c.args.state.now c.walk_file.new.state c.in_ok-number.number c.in_err-walk_file.field-0.0
    (c.in_ok-number.ensures.value shelf holds1) (c.in_err-walk_file.ensures.value shelf holds))

pub returns-in_err-walk_file-clause-reads : goal.returns-in_err-walk_file-clause-reads
returns-in_err-walk_file-clause-reads g c = reads_then _ _ _ c.in_ok-number.ensures.reads c.in_err-walk_file.ensures.moves.reads

pub returns-clause-value : goal.returns-clause-value
returns-clause-value g c = λ shelf holds.
    let holds1 = c.in_ok-walk_file.ensures.moves.reads.earlier shelf holds in
    root_good shelf _ _ c.args.known.now c.ask.new.known c.walk_file.new.known c.args.sources.now c.ask.new.sources c.walk_file.new.sources c.args.names.now c.ask.new.names c.walk_file.new.names c.args.state.now c.walk_file.new.state c.in_ok-number.number
    (c.in_ok-number.ensures.value shelf holds1) (c.in_ok-walk_file.ensures.value shelf holds)

pub returns-clause-reads : goal.returns-clause-reads
returns-clause-reads g c = reads_then _ _ _ c.in_ok-number.ensures.reads c.in_ok-walk_file.ensures.moves.reads
