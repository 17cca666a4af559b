use Rattle.std.proofs.Common.{◌≡◌, ◌++◌, map, take}
use Rattle.scc_thin_module.specs.Emitted.{var_of}
use Rattle.scc_thin_module.proofs.emit.vars.Given as goal

abbrev pub invariant-loop-p : goal.invariant-loop-p
invariant-loop-p l = l.list ≡ l.initial.list ++ map var_of (take l.p-index l.ports)
