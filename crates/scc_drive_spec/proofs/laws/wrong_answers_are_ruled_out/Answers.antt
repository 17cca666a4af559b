use Rattle.std.proofs.Common.{sym, refl, subst, inl}
use Rattle.std.specs.Io.KnownBytes.{Appends}
use Rattle.scc_drive_spec.specs.Comes.{Refuses, Accepts}
use Rattle.scc_drive_spec.specs.Answer.{refused, writes}
use Rattle.scc_drive_spec.proofs.Wrong.{by_request, refused_not_written, same_text}
use Rattle.scc_drive_spec.proofs.laws.wrong_answers_are_ruled_out.Goals as goal

pub returns-clause-compiled_though_refused : goal.returns-clause-compiled_though_refused
returns-clause-compiled_though_refused c shelf words m m' f f' out out' err err' count form sources r asked comes w =
    refused_not_written (by_request shelf words count form asked (Refuses sources r) (writes (w.done refl).answered.output) comes (w.done refl).answered.comes)

pub returns-clause-refused_though_accepted : goal.returns-clause-refused_though_accepted
returns-clause-refused_though_accepted c shelf words m m' f f' out out' err err' count form a asked comes w =
    let said = w.refuses refl in
    refused_not_written (sym (by_request shelf words count form asked (Accepts a) (refused said.sources said.refusal) comes said.comes))

pub returns-clause-another_refusal : goal.returns-clause-another_refusal
returns-clause-another_refusal c shelf words m m' f f' out out' err err' count form sources r asked comes w =
    let said = w.refuses refl in
    subst (λ t. Appends err err' t)
    (same_text said.sources sources said.refusal r (by_request shelf words count form asked (Refuses sources r) (refused said.sources said.refusal) comes said.comes)) said.said

pub returns-clause-written_though_refused : goal.returns-clause-written_though_refused
returns-clause-written_though_refused c shelf words m m' f f' out out' err err' w = w.kept (inl refl)
