use Rattle.std.proofs.Common.{sym, ap, ◌∙◌, slice_get, is_some}
use Rattle.std.specs.Prelude.{filter}
use Rattle.std.specs.Option.{option_copied}
use Rattle.scc_elab_grown.specs.Grown.{grown_of}
use Rattle.scc_elab_after.proofs.Heads.{clock_first, clock_none}
use Rattle.scc_elab_after.proofs.processes.clock_of.Goals as goal

pub returns-in-Some : goal.returns-in-Some
returns-in-Some c = c.clock_by.ensures ∙ sym (clock_first (grown_of c.args.g.now) c.args.r.now c.in-Some.i.now (ap (λ w. slice_get (filter (λ i. is_some i.rising) w) 0) (sym c.as_slice.ensures.value) ∙ sym c.first_edge.ensures ∙ ap option_copied c.in-Some.is))

pub returns-in-None : goal.returns-in-None
returns-in-None c = sym (clock_none (grown_of c.args.g.now) c.args.r.now (ap (λ w. slice_get (filter (λ i. is_some i.rising) w) 0) (sym c.as_slice.ensures.value) ∙ sym c.first_edge.ensures ∙ ap option_copied c.in-None.is))
