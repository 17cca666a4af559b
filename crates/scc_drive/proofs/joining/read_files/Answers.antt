use Rattle.std.proofs.Common.{refl, subst, Ok, Err}
use Rattle.scc_drive_errors.specs.Stops.{StoppedBy}
use Rattle.scc_drive_spec.specs.Words.{roots_of}
use Rattle.scc_drive.proofs.Joined.{said, read_joined, read_unjoined, unjoined_by}
use Rattle.scc_drive.proofs.joining.read_files.Goals as goal

pub returns-in-Ok-join-clause-joined : goal.returns-in-Ok-join-clause-joined
returns-in-Ok-join-clause-joined g c =
    read_joined (roots_of c.args.words.now c.args.count) c.join.new.names c.join.new.sources _ c.in-Ok-join.joined c.read_joined.result
    (said c.args.words.now c.roots.result.now c.args.count c.join.new.names c.join.new.sources (Ok c.in-Ok-join.joined) (Ok c.in-Ok-join.joined) c.in-Ok.names refl c.in-Ok.ensures c.roots.ensures c.in-Ok-join.ensures.joined)
    c.in-Ok-join.ensures.told c.in-Ok-join.ensures.somewhere c.read_joined.ensures.read

pub returns-in-Ok-join-clause-unjoined : goal.returns-in-Ok-join-clause-unjoined
returns-in-Ok-join-clause-unjoined g c =
    read_unjoined (roots_of c.args.words.now c.args.count) c.join.new.names c.join.new.sources _ _ _ _ _ c.in-Ok-join.joined c.read_joined.result
    (said c.args.words.now c.roots.result.now c.args.count c.join.new.names c.join.new.sources (Ok c.in-Ok-join.joined) (Ok c.in-Ok-join.joined) c.in-Ok.names refl c.in-Ok.ensures c.roots.ensures c.in-Ok-join.ensures.joined)
    c.in-Ok-join.ensures.told c.in-Ok-join.ensures.somewhere c.read_joined.ensures.fault

pub returns-in-Err-clause-unjoined : goal.returns-in-Err-clause-unjoined
returns-in-Err-clause-unjoined g c =
    unjoined_by (roots_of c.args.words.now c.args.count) c.join.new.names c.join.new.sources
    (g.F.Files.held c.args.files.now) (g.F.Files.misses c.args.files.now) (g.F.Files.misses c.join.new.files) (g.F.Files.faults c.args.files.now) (g.F.Files.faults c.join.new.files) c.in-Err.fault c.stopped_by.result
    (said c.args.words.now c.roots.result.now c.args.count c.join.new.names c.join.new.sources (Err c.in-Err.fault) (Err c.in-Err.fault) c.in-Ok.names refl c.in-Ok.ensures c.roots.ensures c.in-Err.ensures.joined)
    c.in-Err.ensures.told c.in-Err.ensures.somewhere c.in-Err.ensures.missing c.in-Err.ensures.absent c.in-Err.ensures.failed
    (subst (λ s. StoppedBy s c.in-Err.fault c.stopped_by.result) c.as_slice.ensures.elements c.stopped_by.ensures)
