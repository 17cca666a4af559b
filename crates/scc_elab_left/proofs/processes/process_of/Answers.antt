use Rattle.std.proofs.Common.{ap, sym, ◌∙◌, map, option_map}
use Rattle.std.specs.Prelude.{option_and_then}
use Rattle.scc_elab_grown.specs.Grown.{grown_of}
use Rattle.scc_elab_grown.specs.Records.{item_of, record_of, reset_of}
use Rattle.scc_elab_left.specs.Lefts.{all_sensed, edge_by}
use Rattle.scc_elab_left.proofs.Sensing.{sensed_is}
use Rattle.scc_elab_spec.specs.After.{first_reset}
use Rattle.scc_elab_spec.specs.Elaborated.{reset_left as reset_there}
use Rattle.scc_elab_left.proofs.processes.process_of.Goals as goal

pub returns : goal.returns
returns c = λ i. record {
  object = c.args.r.now.object;
  function = c.args.r.now.function;
  place = c.args.r.now.place;
  is_thread = c.sort_of.ensures i;
  senses = (c.in_ok-senses.ensures ∙ ap (λ z. all_sensed (grown_of c.args.g.now) (map item_of z)) c.as_slice.ensures.value ∙ sym (sensed_is (grown_of c.args.g.now) (map item_of c.args.r.now.items.items))) i;
  edge = (c.edge_at.ensures ∙ ap (option_map edge_by) c.clock_of.ensures) i;
  reset = (c.first_left.ensures ∙ ap (λ z. option_and_then (reset_there (grown_of c.args.g.now)) (first_reset (map reset_of z))) c.as_slice-2.ensures.value) i;
}
