-- No fixed piece is empty.
use Rattle.std.proofs.Common.{◌≤◌, length, arith}
use Rattle.scc_svtext.specs.declared.fixed.Fixed.{Fixed}
use Rattle.scc_svtext.specs.declared.fixed.Fixed.TheVariants as piece
use Rattle.scc_svtext.specs.Fixed.{fixed_text}

pub some_text : (f : Fixed) → 1 ≤ length (fixed_text f)
unfolding fixed_text
some_text piece.Open = omega arith
some_text piece.Close = omega arith
some_text piece.Space = omega arith
some_text piece.Question = omega arith
some_text piece.Colon = omega arith
some_text piece.BraceOpen = omega arith
some_text piece.BraceClose = omega arith
some_text piece.Comma = omega arith
some_text piece.CastOpen = omega arith
some_text piece.Signed = omega arith
some_text piece.Unsigned = omega arith
some_text piece.SelectOpen = omega arith
some_text piece.SelectColon = omega arith
some_text piece.SelectClose = omega arith
some_text piece.RangeClose = omega arith
some_text piece.Hex = omega arith
some_text piece.Assign = omega arith
some_text piece.Load = omega arith
some_text piece.LineEnd = omega arith
some_text piece.If = omega arith
some_text piece.Then = omega arith
some_text piece.Else = omega arith
some_text piece.End = omega arith
some_text piece.Case = omega arith
some_text piece.CaseOpen = omega arith
some_text piece.ArmOpen = omega arith
some_text piece.CaseEnd = omega arith
some_text piece.Module = omega arith
some_text piece.PortsOpen = omega arith
some_text piece.Input = omega arith
some_text piece.Output = omega arith
some_text piece.PortEnd = omega arith
some_text piece.Break = omega arith
some_text piece.PortsClose = omega arith
some_text piece.Decl = omega arith
some_text piece.Comb = omega arith
some_text piece.Edge = omega arith
some_text piece.Posedge = omega arith
some_text piece.Negedge = omega arith
some_text piece.Or = omega arith
some_text piece.ResetIf = omega arith
some_text piece.NotOpen = omega arith
some_text piece.ResetElse = omega arith
some_text piece.ResetEnd = omega arith
some_text piece.BlockEnd = omega arith
some_text piece.ModuleEnd = omega arith
