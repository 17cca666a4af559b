use Rattle.std.proofs.Common.{◌≡◌, ap, sym, ◌∙◌}
use Rattle.std.specs.Prelude.{option_map}
use Rattle.scc_base.specs.declared.code.Code.TheVariants as reason
use Rattle.scc_core_spec.specs.First.{refused}
use Rattle.scc_core_spec.specs.Flow.{idle_loops}
use Rattle.scc_core_view.specs.Codes.{code_of}
use Rattle.scc_rules.proofs.Firsts.{first_told}
use Rattle.scc_rules.proofs.rules.idling.Goals as goal

pub returns-clause-found : goal.returns-clause-found
returns-clause-found c =
    c.told.ensures.found ∙ ap (option_map (refused reason.LoopMayNotWait)) c.in_ok-place.ensures ∙ sym (first_told (refused reason.LoopMayNotWait) (idle_loops (code_of c.args.live.now)))
