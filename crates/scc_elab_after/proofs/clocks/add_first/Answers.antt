use Rattle.std.proofs.Common.{sym, ap, ◌∙◌, map, option_map, false}
use Rattle.scc_elab_spec.specs.After.{first_clock}
use Rattle.scc_elab_after.specs.Processes.{clock_in}
use Rattle.scc_elab_after.proofs.Keeping.{first_kept, first_added, pushed}
use Rattle.scc_elab_after.proofs.clocks.add_first.Goals as goal

pub returns-in-Some : goal.returns-in-Some
returns-in-Some c = λ before n. first_kept before c.args.firsts.now.items c.args.c c.in-Some._known (ap (option_map clock_in) (sym c.in-Some.is) ∙ c.first_of.ensures ∙ ap (λ z. first_clock (map clock_in z)) c.as_slice.ensures.value) n

pub returns-in-None : goal.returns-in-None
returns-in-None c = pushed c.push.result false c.args.firsts.now.items c.push.new.items.items c.args.c c.push.ensures.ok (λ before n. first_added before c.args.firsts.now.items c.args.c (ap (option_map clock_in) (sym c.in-None.is) ∙ c.first_of.ensures ∙ ap (λ z. first_clock (map clock_in z)) c.as_slice.ensures.value) n)
