use Rattle.std.proofs.Common.{◌≡◌, drop}
use Rattle.scc_elab_spec.specs.Types.{moved_from}
use Rattle.scc_plain_view.specs.Plains.{plain_of}
use Rattle.scc_inline_cells.specs.declared.locations.MemberOf.{MemberOf}
use Rattle.scc_inline_cells.specs.Noted.{noted}
use Rattle.scc_inline_cells.proofs.moving.Moving.look.Given as goal

abbrev pub invariant-loop-number : goal.invariant-loop-number
invariant-loop-number l = (m : MemberOf) → noted l.self (moved_from (plain_of l.plain) l.number (drop l.number (plain_of l.plain).functions)) m ≡ noted l.initial.self (moved_from (plain_of l.plain) 0 (plain_of l.plain).functions) m
