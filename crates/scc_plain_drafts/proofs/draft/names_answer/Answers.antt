use Rattle.std.specs.Prelude.{map}
use Rattle.std.proofs.Common.{sym, ◌∙◌, ap}
use Rattle.scc_plain_view.specs.Terms.{extended}
use Rattle.scc_plain_drafts.specs.Picks.{base_of, is_result, step_of}
use Rattle.scc_plain_drafts.proofs.Picking.{ends_in_step, is_base}
use Rattle.scc_plain_drafts.proofs.draft.names_answer.Goals as goal

pub returns-in-Some : goal.returns-in-Some
returns-in-Some c = let x = c.args.left.now in
    c.is_within.ensures (extended (base_of x.base x.place) (map step_of c.in-Some.field-0-1.now)) ∙ ap is_result (sym (ends_in_step x c.in-Some.field-0-1.now c.in-Some.part.now c.as_slice.result.now c.as_slice.ensures.elements c.in-Some.ensures.cases.0))

pub returns-in-None : goal.returns-in-None
returns-in-None c = let x = c.args.left.now in
    c.is_result.ensures x.place ∙ ap is_result (sym (is_base x c.as_slice.result.now c.as_slice.ensures.elements c.in-None.ensures.cases))
