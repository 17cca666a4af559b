use Rattle.std.proofs.Common.{◌∙◌}
use Rattle.std.proofs.lemmas.Result.{err_from_is_err_and}
use Rattle.scc_drive.specs.CommandOutcome.{has_clocks}
use Rattle.scc_drive.specs.Outcome.{simulating}
use Rattle.scc_drive_spec.specs.Words.{word_at, roots_of}
use Rattle.scc_drive.proofs.Wider.{simulated_by}
use Rattle.scc_drive.proofs.source.simulated.Goals as goal

pub run_on-requires : goal.run_on-requires
run_on-requires g c = c.in_ok-read.ensures.joined.file

pub returns : goal.returns
returns g c =
    simulated_by (roots_of c.args.words.now c.args.count) (g.F.Files.held c.args.files.now) (g.F.Files.held c.read_files.new.files) c.in_ok-read.read (has_clocks c.args.way)
    (word_at c.args.words.now c.args.stim) c.word-2.result.now (word_at c.args.words.now 1) c.as_bytes-top.result.now
    (g.F.Files.misses c.args.files.now) (g.F.Files.misses c.read_files.new.files) (g.F.Files.misses c.run_on.new.files)
    (g.F.Files.faults c.args.files.now) (g.F.Files.faults c.read_files.new.files) (g.F.Files.faults c.run_on.new.files) c.run_on.result
    c.in_ok-read.ensures.joined c.in_ok-read.ensures.kept c.in_ok-read.ensures.no_fewer_misses c.in_ok-read.ensures.no_fewer_faults
    c.word-2.ensures (c.as_bytes-top.ensures.value ∙ c.word.ensures) c.run_on.ensures

pub returns-in_err-read : goal.returns-in_err-read
returns-in_err-read g c =
    let p = err_from_is_err_and c.from_residual.result c.from_residual.ensures.1 in
    rw (p.1, p.2) (c.in_err-read.ensures.unjoined (simulating (has_clocks c.args.way) (word_at c.args.words.now c.args.stim)) (word_at c.args.words.now 1))
