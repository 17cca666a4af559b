use Rattle.std.proofs.Common.{refl, sym, ◌∙◌, ap}
use Rattle.scc_plain_drafts.proofs.Ends.{ends_in_part, no_part, ends_in_link, no_link}
use Rattle.scc_templates_spec.specs.View.{from_left, tree_of}
use Rattle.std.specs.Prelude.{map}
use Rattle.scc_plain_drafts.specs.Flows.{behind_of, link_of}
use Rattle.scc_plain_spec.specs.Calls.{is_zero}
use Rattle.scc_plain_drafts.proofs.target.+is_zero.Goals as goal

pub returns-in-Some : goal.returns-in-Some
returns-in-Some t c = c.is_applied.ensures.zero c.args.e.now.place (from_left c.args.e.now.place (tree_of c.in-Parts.of) (map behind_of c.in-Some.field-0-1.now)) ∙ ap is_zero (sym (ends_in_part c.args.e.now c.get.result.now c.get.ensures.value c.in-Parts.of c.in-Parts.parts c.as_slice.result.now c.in-Some.field-0-1.now c.in-Some.part.now c.in-Parts.is c.as_slice.ensures.elements c.in-Some.ensures.cases.0))

pub returns-in-None : goal.returns-in-None
returns-in-None t c = c.is_zero.ensures ∙ ap is_zero (sym (no_part c.args.e.now c.get.result.now c.get.ensures.value c.in-Parts.of c.in-Parts.parts c.as_slice.result.now c.in-Parts.is c.as_slice.ensures.elements c.in-None.ensures.cases))

pub returns-in-Some-split_last : goal.returns-in-Some-split_last
returns-in-Some-split_last t c = c.is_operated.ensures.zero c.args.e.now.place (from_left c.args.e.now.place (tree_of c.in-Chain.first) (map link_of c.in-Some-split_last.field-0-1.now)) ∙ ap is_zero (sym (ends_in_link c.args.e.now c.get.result.now c.get.ensures.value c.in-Chain.first c.in-Chain.rest c.as_slice-in-Chain.result.now c.in-Some-split_last.field-0-1.now c.in-Some-split_last.link.now c.in-Chain.is c.as_slice-in-Chain.ensures.elements c.in-Some-split_last.ensures.cases.0))

pub returns-in-None-split_last : goal.returns-in-None-split_last
returns-in-None-split_last t c = c.is_zero-in-None-split_last.ensures ∙ ap is_zero (sym (no_link c.args.e.now c.get.result.now c.get.ensures.value c.in-Chain.first c.in-Chain.rest c.as_slice-in-Chain.result.now c.in-Chain.is c.as_slice-in-Chain.ensures.elements c.in-None-split_last.ensures.cases))
