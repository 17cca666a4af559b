use Rattle.std.proofs.Common.{sym, ap, ◌∙◌, map, nat_eq, option_map, true}
use Rattle.std.specs.Prelude.{find}
use Rattle.scc_elab_after.specs.Processes.{clock_in}
use Rattle.scc_elab_after.proofs.Keeping.{known_kept, known_added, pushed}
use Rattle.scc_elab_after.proofs.clocks.add_known.Goals as goal

pub returns-in-Some : goal.returns-in-Some
returns-in-Some c = λ before n. known_kept before c.args.firsts.now.items c.args.c n c.in-Some._known (ap (option_map clock_in) (sym c.in-Some.is) ∙ c.known_of.ensures ∙ ap (λ z. find (λ b. nat_eq b.root c.args.c.root) (map clock_in z)) c.as_slice.ensures.value)

pub returns-in-None : goal.returns-in-None
returns-in-None c = pushed c.push.result true c.args.firsts.now.items c.push.new.items.items c.args.c c.push.ensures.ok (λ before n. known_added before c.args.firsts.now.items c.args.c n (ap (option_map clock_in) (sym c.in-None.is) ∙ c.known_of.ensures ∙ ap (λ z. find (λ b. nat_eq b.root c.args.c.root) (map clock_in z)) c.as_slice.ensures.value))
