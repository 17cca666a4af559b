-- `x[3]` of a fixed `sc_uint<8> x` that holds 8, worked by hand.
use Rattle.std.specs.Prelude.{true, List, [], ◌∷◌}
use Rattle.scc_bits_kinds.specs.declared.kind.Kind.TheVariants as kind
use Rattle.scc_core_spec.specs.Program.{Cell, Variable}
use Rattle.scc_core_spec.specs.Term.{Term, Load, Bit}
use Rattle.scc_core_spec.specs.Term as term
use Rattle.scc_core_spec.specs.Worked.{byte, cell, here}

abbrev pub cells : List Cell
cells = cell 0 (kind.Uint 8) (Variable 8 true) ∷ []

abbrev pub bit_three : Term
bit_three = Bit here (Load here (kind.Uint 8) (term.Cell here 0)) (byte 3)
