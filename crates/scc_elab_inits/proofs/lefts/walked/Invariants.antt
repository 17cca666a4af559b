use Rattle.std.proofs.Common.{◌≡◌, map, drop}
use Rattle.scc_elab_inits.specs.Lefts as seen
use Rattle.scc_elab_inits.proofs.lefts.walked.Given as goal

abbrev pub invariant-loop-part : goal.invariant-loop-part
invariant-loop-part l = seen.walked (map (seen.part l.s.plain.now l.s.function.now) (drop l.part-index l.parts)) l.at ≡ seen.walked (map (seen.part l.s.plain.now l.s.function.now) l.parts) l.initial.at
