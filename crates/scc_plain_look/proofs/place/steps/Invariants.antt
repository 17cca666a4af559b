use Rattle.std.proofs.Common.{◌≡◌, map, drop, Some}
use Rattle.scc_plain_look.specs.Held.{around}
use Rattle.scc_plain_look.specs.Seen as seen
use Rattle.scc_plain_look.proofs.place.steps.Given as goal

abbrev pub invariant-loop-part : goal.invariant-loop-part
invariant-loop-part l =
    let a = around l.s.plain.now l.s.function.now l.s.calls.now in
    seen.steps a (map seen.part (drop l.part-index l.parts)) (Some l.h) ≡ seen.steps a (map seen.part l.parts) (Some l.fn.first)
