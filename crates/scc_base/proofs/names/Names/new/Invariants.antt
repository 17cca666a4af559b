use Rattle.std.proofs.Common.{◌≡◌, take}
use Rattle.scc_base.specs.Names.{fixed_names}
use Rattle.scc_base.proofs.names.Names.new.Given as goal

abbrev pub invariant-loop-text : goal.invariant-loop-text
invariant-loop-text l = l.names ≡ take l.text-index fixed_names
