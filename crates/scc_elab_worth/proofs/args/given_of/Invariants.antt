use Rattle.std.proofs.Common.{◌≡◌, map, drop}
use Rattle.scc_elab_spec.specs.Worth.{given}
use Rattle.scc_elab_worth.specs.Arguments.{given_in}
use Rattle.scc_elab_worth.specs.Meant.{site_of}
use Rattle.scc_elab_worth.specs.Sites.{around}
use Rattle.scc_plain_view.specs.Terms.{argument_of}
use Rattle.scc_elab_worth.proofs.Passing.{put_all}
use Rattle.scc_elab_worth.proofs.args.given_of.Given as goal

abbrev pub invariant-loop-arg : goal.invariant-loop-arg
invariant-loop-arg l = let g = around l.s in put_all (map given_in l.list.items) (given (site_of g) (map argument_of (drop l.arg-index l.args))) ≡ given (site_of g) (map argument_of l.args)
