use Rattle.std.proofs.Common.{◌≡◌, drop}
use Rattle.scc_plain_look.specs.Held.{around}
use Rattle.scc_plain_look.specs.Steps as look
use Rattle.scc_plain_look.proofs.single.look_senses.Given as goal

abbrev pub invariant-loop-sense : goal.invariant-loop-sense
invariant-loop-sense l =
    let a = around l.s.plain.now l.s.function.now l.s.calls.now in
    look.are_senses a (drop l.sense-index l.list) ≡ look.are_senses a l.list
