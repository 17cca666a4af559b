use Rattle.std.specs.Prelude.{◌||◌}
use Rattle.scc_states_kept.proofs.Walking.{keeps_joined}
use Rattle.scc_states_kept.proofs.kept.before_branches.Goals as goal

pub returns : goal.returns
returns c = λ cs only f g d k m.
    c.before_test.ensures cs only (λ x. f x || g x) d (keeps_joined only c.args.own.now c.args.live.now c.args.other.now c.join.new.self f g c.in_ok-join.ensures k m)
