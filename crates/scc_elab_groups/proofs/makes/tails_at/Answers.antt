use Rattle.std.proofs.Common.{◌∙◌, sym, ap, map, Some, option_map}
use Rattle.std.proofs.lemmas.Option.{slice_get-map}
use Rattle.scc_elab_groups.specs.Groups.{tails_of}
use Rattle.scc_elab_groups.proofs.makes.tails_at.Goals as goal

pub returns-in-Some : goal.returns-in-Some
returns-in-Some c = λ list g. ap (map (λ t. t.now)) c.as_slice.ensures.value ∙ g.members c.args.member (tails_of c.in-Some.group.now) (slice_get-map tails_of c.args.groups.now.members.items c.args.member ∙ ap (option_map tails_of) (sym c.in-Some.ensures))
