use Rattle.std.proofs.Common.{sym, subst}
use Rattle.scc_drive.specs.Answer.{AnswersBy}
use Rattle.scc_drive.specs.CommandOutcome.{CommandOutcomeBy, GeneratedOutcome}
use Rattle.scc_drive_spec.specs.Words.{word_at}
use Rattle.scc_drive.proofs.Commanded.{gives_answers}
use Rattle.scc_drive.proofs.answer.done.Goals as goal

pub returns-in-Compile : goal.returns-in-Compile
returns-in-Compile g c = record {
  answers = subst (λ d. AnswersBy (CommandOutcomeBy d c.args.words.now) (word_at c.args.words.now 1) (g.F.Files.held c.args.files.now) (g.F.Files.misses c.args.files.now) (g.F.Files.misses c.compiled.new.files) (g.F.Files.faults c.args.files.now) (g.F.Files.faults c.compiled.new.files) c.compiled.result) (sym c.in-Compile.is)
      c.compiled.ensures;
}

pub returns-in-List : goal.returns-in-List
returns-in-List g c = record {
  answers = subst (λ d. AnswersBy (CommandOutcomeBy d c.args.words.now) (word_at c.args.words.now 1) (g.F.Files.held c.args.files.now) (g.F.Files.misses c.args.files.now) (g.F.Files.misses c.listed.new.files) (g.F.Files.faults c.args.files.now) (g.F.Files.faults c.listed.new.files) c.listed.result) (sym c.in-List.is)
      c.listed.ensures;
}

pub returns-in-Sim : goal.returns-in-Sim
returns-in-Sim g c = record {
  answers = subst (λ d. AnswersBy (CommandOutcomeBy d c.args.words.now) (word_at c.args.words.now 1) (g.F.Files.held c.args.files.now) (g.F.Files.misses c.args.files.now) (g.F.Files.misses c.simulated.new.files) (g.F.Files.faults c.args.files.now) (g.F.Files.faults c.simulated.new.files) c.simulated.result) (sym c.in-Sim.is)
      c.simulated.ensures;
}

pub returns-in-Svsim : goal.returns-in-Svsim
returns-in-Svsim g c = record {
  answers = subst (λ d. AnswersBy (CommandOutcomeBy d c.args.words.now) (word_at c.args.words.now 1) (g.F.Files.held c.args.files.now) (g.F.Files.misses c.args.files.now) (g.F.Files.misses c.svsim.new.files) (g.F.Files.faults c.args.files.now) (g.F.Files.faults c.svsim.new.files) c.svsim.result) (sym c.in-Svsim.is)
      c.svsim.ensures;
}

pub returns-in-Gen : goal.returns-in-Gen
returns-in-Gen g c = record {
  answers = subst (λ d. AnswersBy (CommandOutcomeBy d c.args.words.now) (word_at c.args.words.now 1) (g.F.Files.held c.args.files.now) (g.F.Files.misses c.args.files.now) (g.F.Files.misses c.args.files.now) (g.F.Files.faults c.args.files.now) (g.F.Files.faults c.args.files.now) c.generated.result) (sym c.in-Gen.is)
      (gives_answers (GeneratedOutcome c.in-Gen.stages c.in-Gen.source) (word_at c.args.words.now 1) _ _ _ _ _ c.generated.result (c.generated.ensures (word_at c.args.words.now 1)));
}
