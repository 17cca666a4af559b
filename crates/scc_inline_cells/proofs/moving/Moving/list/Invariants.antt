use Rattle.std.proofs.Common.{◌≡◌}
use Rattle.scc_elab_spec.specs.Types.{moved}
use Rattle.scc_plain_view.specs.Codes.{code_of}
use Rattle.scc_plain_view.specs.Plains.{plain_of, function_of}
use Rattle.scc_inline_cells.specs.declared.locations.MemberOf.{MemberOf}
use Rattle.scc_inline_cells.specs.Moved.{pending}
use Rattle.scc_inline_cells.specs.Noted.{noted}
use Rattle.scc_inline_cells.proofs.moving.Moving.list.Given as goal

abbrev pub invariant-loop : goal.invariant-loop
invariant-loop l = (m : MemberOf) → noted l.self (pending (plain_of l.s.plain.now) (function_of l.s.function.now) l.constructor l.lists) m ≡ noted l.initial.self (moved (plain_of l.s.plain.now) (function_of l.s.function.now) l.constructor (code_of l.body)) m
