use Rattle.std.proofs.Common.{◌∙◌, sym, inl, refl, subst, length}
use Rattle.std.specs.Prelude.{IfSome}
use Rattle.scc_drive.proofs.Commanded.{command_answers, bad_words}
use Rattle.scc_drive_words.specs.Within.{Within}
use Rattle.scc_drive.proofs.answer.answer.Goals as goal

pub done-requires : goal.done-requires
done-requires g c = subst (λ o. IfSome o (λ d. Within d (length c.args.words.now))) c.in-Some.is c.in-Ok.ensures.within

pub returns-in-Some : goal.returns-in-Some
returns-in-Some g c = record {
  answers = command_answers c.args.words.now c.in-Some.command (g.F.Files.held c.args.files.now) (g.F.Files.misses c.args.files.now) (g.F.Files.misses c.done.new.files)
      (g.F.Files.faults c.args.files.now) (g.F.Files.faults c.done.new.files) c.done.result (sym c.in-Some.is ∙ c.in-Ok.ensures.value) c.done.ensures.answers;
}

pub returns-in-None : goal.returns-in-None
returns-in-None g c = record { answers = inl (bad_words c.args.words.now (sym c.in-None.is ∙ c.in-Ok.ensures.value), refl) }
