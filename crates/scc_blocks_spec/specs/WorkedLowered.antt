-- A worked value: a variable of 8 bits that a block reads and writes as itself. This project's own.
use Rattle.std.specs.Prelude.{ℕ, false, [], ◌∷◌, None}
use Rattle.scc_bits_kinds.specs.declared.kind.Kind.TheVariants as kind
use Rattle.scc_svtree.specs.declared.expr.SvLeft.TheVariants.{Whole}
use Rattle.scc_svtree.specs.Term as emitted
use Rattle.scc_svtree.specs.Code as emitted_code
use Rattle.scc_core_spec.specs.Program.{Program, Process, Variable}
use Rattle.scc_core_spec.specs.Code as core
use Rattle.scc_core_spec.specs.Worked.{here, named, cell, byte, put}
use Rattle.scc_blocks_spec.specs.Shown.{Sight, sight_of}

abbrev pub eight : ℕ → ℕ
eight v = 8

-- the variable itself, and what gives it 3
abbrev pub its_text : emitted.Term
its_text = emitted.Part (Whole (record { 0 = 0 }))

abbrev pub gives_three : emitted_code.Code
gives_three = emitted_code.Assign (Whole (record { 0 = 0 })) (emitted.Literal 8 3) emitted_code.End

-- `n = 3;`
abbrev pub three : core.Code
three = put 0 (byte 3) core.End

-- `sc_uint<8> n;`, and a method
abbrev pub giving_three : Process
giving_three = record { is_thread = false; name = named 9; place = here; senses = []; edge = None; reset = None; body = three }

abbrev pub one_variable : Program
one_variable = record { top = 8; cells = cell 3 (kind.Uint 8) (Variable 0 false) ∷ []; vectors = []; processes = giving_three ∷ [] }

abbrev pub as_itself : Sight
as_itself = sight_of one_variable 0 giving_three
