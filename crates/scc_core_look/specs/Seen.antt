-- What the tests of locations ask of a cell. This project's own.
use Rattle.std.specs.Prelude.{ℕ, ◌+◌, ◌-◌, Bool, true, false, not, ◌&&◌, nat_eq, nat_lt, nat_le, Option, Some, None, is_some}
use Rattle.scc_bits_kinds.specs.Kinds.{width_of}
use Rattle.scc_core_spec.specs.Fit.{is_read, same_bool, same_kind}
use Rattle.scc_core_spec.specs.Named.{cell_at, path_steps}
use Rattle.scc_core_spec.specs.Program as program
use Rattle.scc_core_spec.specs.Program.{Sort, Input, Port, is_input, is_number}
use Rattle.scc_core_spec.specs.Static.{Cells, fixed_word}
use Rattle.scc_core_spec.specs.Uses.{has_sort}
use Rattle.scc_core_look.specs.declared.seen.Seen.{Seen}
use Rattle.scc_core_look.specs.declared.seen.Test.{Test}
use Rattle.scc_core_look.specs.declared.seen.Test.TheVariants as test

abbrev pub seen_of : program.Cell → Seen
seen_of c = record { kind = c.kind; number = is_number c.sort; read = is_read c.sort; fixed = is_some (fixed_word c.sort) }

abbrev pub same_seen : Seen → Seen → Bool
same_seen a b = same_kind a.kind b.kind && (same_bool a.number b.number && (same_bool a.read b.read && same_bool a.fixed b.fixed))

-- what is asked of a cell
abbrev pub asked : Test → Seen → Bool
asked (test.Load k) x = x.number && same_kind k x.kind
asked (test.Read k) x = x.read && same_kind k x.kind
asked (test.Whole w) x = not x.fixed && nat_eq w (width_of x.kind)
asked (test.One w) x = not x.fixed && (x.number && nat_eq w 1)
asked (test.Bits w h l) x = not x.fixed && (x.number && (nat_le l h && (nat_lt h (width_of x.kind) && nat_eq w (h - l + 1))))

abbrev pub asks : Test → program.Cell → Bool
asks t c = asked t (seen_of c)

abbrev pub writes : Test → Bool
writes (test.Load k) = false
writes (test.Read k) = false
writes (test.Whole w) = true
writes (test.One w) = true
writes (test.Bits w h l) = true

abbrev pub is_input_at : Cells → Option ℕ → Bool
is_input_at cs None = false
is_input_at cs (Some n) = has_sort is_input cs n

abbrev pub input_by : Cells → Sort → Bool
input_by cs Input = true
input_by cs (Port path) = is_input_at cs (cell_at false 0 (path_steps path) cs)
input_by cs s = false

-- an input of the top, or a port that stands for one
abbrev pub rooted_input : Cells → program.Cell → Bool
rooted_input cs c = input_by cs c.sort
