use Rattle.std.proofs.Common.{sym, subst, ◌∙◌}
use Rattle.std.specs.Prelude.{option_map}
use Rattle.scc_base.specs.declared.code.Code.TheVariants as reason
use Rattle.scc_core_flow.specs.Live.{DecidesAll}
use Rattle.scc_core_spec.specs.First.{refused}
use Rattle.scc_core_spec.specs.Split.{along, first_along, is_asynchronous}
use Rattle.scc_core_view.specs.Codes.{code_of}
use Rattle.scc_core_view.specs.Programs.{process_of}
use Rattle.scc_states.specs.Resets.{IsLoaded, LoadsAll}
use Rattle.scc_states.proofs.Splitting.{asked_reset, refuses_loaded}
use Rattle.scc_states.proofs.thread.reset_checked.Goals as goal

pub returns-then-is_asynchronous-clause-first : goal.returns-then-is_asynchronous-clause-first
returns-then-is_asynchronous-clause-first c = λ cs d l.
    let k = c.args.known in
    let same = c.as_slice.ensures.elements in
    let first = first_along (along cs (code_of c.args.thread.now.body)) in
    let there = c.check_reset.ensures.first cs (subst (DecidesAll k cs) (sym same) d) (subst (LoadsAll k cs) (sym same) l) in
    asked_reset (option_map (refused reason.ResetValue) first) (is_asynchronous (process_of c.args.thread.now).reset) c.check_reset.result (sym c.is_asynchronous.ensures ∙ c.if-is_asynchronous.true)
    (refuses_loaded first c.check_reset.result (subst (λ ss. IsLoaded (first_along (along cs (code_of ss))) c.check_reset.result) same there))
