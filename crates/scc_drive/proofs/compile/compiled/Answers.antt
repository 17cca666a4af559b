use Rattle.std.proofs.Common.{◌∙◌, subst}
use Rattle.std.proofs.lemmas.Result.{err_from_is_err_and}
use Rattle.scc_drive.specs.CommandOutcome.{task_of}
use Rattle.scc_drive_spec.specs.Words.{word_at, roots_of}
use Rattle.scc_drive.specs.Stages.{Gives, ReadOutcome}
use Rattle.scc_drive.proofs.Joined.{joined_gives}
use Rattle.scc_drive.proofs.compile.compiled.Goals as goal

pub formed-requires : goal.formed-requires
formed-requires g c = record { read = c.in_ok-read.ensures.joined.file; identifiers = c.in_ok-read.ensures.joined.identifiers }

pub returns : goal.returns
returns g c =
    joined_gives (roots_of c.args.words.now c.args.count) _ c.in_ok-read.read c.in_ok-read.ensures.joined (task_of c.args.form) (word_at c.args.words.now 1) _ _ _ _ c.formed.result
    (subst (λ t. Gives (ReadOutcome (task_of c.args.form) t c.in_ok-read.read) t c.formed.result) (c.as_bytes.ensures.value ∙ c.word.ensures) c.formed.ensures)

pub returns-in_err-read : goal.returns-in_err-read
returns-in_err-read g c =
    let p = err_from_is_err_and c.from_residual.result c.from_residual.ensures.1 in
    rw (p.1, p.2) (c.in_err-read.ensures.unjoined (task_of c.args.form) (word_at c.args.words.now 1))
