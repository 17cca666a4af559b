use Rattle.std.proofs.Common.{◌≡◌, ◌-◌, length}
use Rattle.scc_thin.specs.Reading.{items, put_front, sense_step}
use Rattle.scc_thin.proofs.thin.parse.more_senses.Given as goal

abbrev pub invariant-loop : goal.invariant-loop
invariant-loop l = put_front l.list (items sense_step (length l.tokens - l.counter) l.rest) ≡ put_front l.initial.list (items sense_step (length l.tokens) l.tokens)
