use Rattle.std.proofs.Common.{◌∙◌, subst}
use Rattle.std.proofs.lemmas.Result.{err_from_is_err_and}
use Rattle.scc_drive.specs.Outcome.{listing}
use Rattle.scc_drive.specs.Stages.{Gives, ReadOutcome}
use Rattle.scc_drive_spec.specs.Words.{word_at, roots_of}
use Rattle.scc_drive.proofs.Joined.{joined_gives}
use Rattle.scc_drive.proofs.source.listed.Goals as goal

pub list_of-requires : goal.list_of-requires
list_of-requires g c = c.in_ok-read.ensures.joined.file

pub returns : goal.returns
returns g c =
    joined_gives (roots_of c.args.words.now c.args.count) _ c.in_ok-read.read c.in_ok-read.ensures.joined listing (word_at c.args.words.now 1) _ _ _ _ c.list_of.result
    (subst (λ t. Gives (ReadOutcome listing t c.in_ok-read.read) t c.list_of.result) (c.as_bytes.ensures.value ∙ c.word.ensures) c.list_of.ensures)

pub returns-in_err-read : goal.returns-in_err-read
returns-in_err-read g c =
    let p = err_from_is_err_and c.from_residual.result c.from_residual.ensures.1 in
    rw (p.1, p.2) (c.in_err-read.ensures.unjoined listing (word_at c.args.words.now 1))
