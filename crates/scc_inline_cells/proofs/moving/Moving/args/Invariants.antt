use Rattle.std.proofs.Common.{◌≡◌, map, drop}
use Rattle.scc_elab_spec.specs.Types.{arguments}
use Rattle.scc_plain_view.specs.Plains.{plain_of, function_of}
use Rattle.scc_plain_view.specs.Terms.{argument_of}
use Rattle.scc_inline_cells.specs.declared.locations.MemberOf.{MemberOf}
use Rattle.scc_inline_cells.specs.Noted.{noted}
use Rattle.scc_inline_cells.proofs.moving.Moving.args.Given as goal

abbrev pub invariant-loop-arg : goal.invariant-loop-arg
invariant-loop-arg l = (m : MemberOf) → noted l.self (arguments (plain_of l.s.plain.now) (function_of l.s.function.now) (map argument_of (drop l.arg-index l.args))) m ≡ noted l.initial.self (arguments (plain_of l.s.plain.now) (function_of l.s.function.now) (map argument_of l.args)) m
