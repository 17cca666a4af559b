use Rattle.std.proofs.Common.{◌≡◌, true, take}
use Rattle.scc_core_spec.specs.Exits.{exits_within}
use Rattle.scc_core_view.specs.Codes.{code_of}
use Rattle.scc_core_look.proofs.exits.+exits.Given as goal

abbrev pub invariant-exits_stay-loop-s : goal.invariant-exits_stay-loop-s
invariant-exits_stay-loop-s l = l.stay ≡ true → exits_within l.depth (code_of (take l.s-index l.list)) ≡ true
