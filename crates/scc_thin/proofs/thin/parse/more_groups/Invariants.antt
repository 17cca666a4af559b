use Rattle.std.proofs.Common.{◌≡◌, ◌-◌, length}
use Rattle.scc_thin.specs.Reading.{items, put_front, group_step}
use Rattle.scc_thin.proofs.thin.parse.more_groups.Given as goal

abbrev pub invariant-loop : goal.invariant-loop
invariant-loop l = put_front l.list (items group_step (length l.tokens - l.counter) l.rest) ≡ put_front l.initial.list (items group_step (length l.tokens) l.tokens)
