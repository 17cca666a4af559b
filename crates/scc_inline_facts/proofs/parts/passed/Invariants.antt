use Rattle.std.proofs.Common.{◌≡◌, ◌+◌, map, drop}
use Rattle.scc_inline_size_laws.specs.Counts.{passed_size}
use Rattle.scc_plain_view.specs.Terms.{argument_of}
use Rattle.scc_inline_facts.proofs.parts.passed.Given as goal

abbrev pub invariant-loop-arg : goal.invariant-loop-arg
invariant-loop-arg l = l.count + passed_size (map argument_of (drop l.arg-index l.args)) ≡ passed_size (map argument_of l.args)
