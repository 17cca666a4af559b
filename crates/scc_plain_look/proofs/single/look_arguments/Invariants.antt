use Rattle.std.proofs.Common.{◌≡◌, drop}
use Rattle.scc_plain_look.specs.Held.{around}
use Rattle.scc_plain_look.specs.Steps as look
use Rattle.scc_plain_look.proofs.single.look_arguments.Given as goal

abbrev pub invariant-loop-a : goal.invariant-loop-a
invariant-loop-a l =
    let a = around l.s.plain.now l.s.function.now l.s.calls.now in
    look.are_arguments a (drop l.a-index l.list) ≡ look.are_arguments a l.list
